-- What a step that is judged promises: a refused step leaves the site as it was.
-- Assumes nothing.
use Rattle.std.specs.Prelude.{◌≡◌, List, ℕ}
use Rattle.refusals.specs.Refusals.{Verdict}
use Rattle.refusals.specs.Refusals.{settled}
use Rattle.table.specs.declared.SiteTable.{SiteTable}
use Rattle.register.specs.declared.Command.{Command}
use Rattle.protocol.specs.Site as protocol
use Rattle.system.specs.Dash.{dash}
use Rattle.layout.specs.Good.{HoldsOver}

module _ (t : SiteTable) (book : List Command) where
  -- The answer is the verdict, and the bytes hold what it leaves over those before.
  pub record Carried (v : Verdict) (new old : protocol.Site (dash t book)) (before : List ℕ) (r : Verdict) (b : List ℕ) : Type 0 where
    pub answer : r ≡ v
    pub site : HoldsOver t book before b (settled v new old)
