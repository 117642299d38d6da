-- The start of a run in lent buffers.
-- Assumes nothing.
use Rattle.std.specs.Prelude.{◌≡◌, List, ℕ, ◌≤◌, ◌<◌, length, drop}
use Rattle.table.specs.declared.SiteTable.{SiteTable}
use Rattle.register.specs.declared.Command.{Command}
use Rattle.protocol.specs.World.{start}
use Rattle.system.specs.Dash.{dash}
use Rattle.layout.specs.Layout.{site_at, heard_place}
use Rattle.sent.specs.Sent.{cleared}
use Rattle.world.specs.World.{max_log, HoldsWorld}

-- With no entry meant the buffers hold the start of a run with any book, whatever bytes the log has; of what was sent only counts and flags were written.
-- Before that the sites were `earlier` and what was sent was `before`.
pub record Started (t : SiteTable) (sites sent earlier before : List ℕ) : Type 0 where
  pub holds : (book : List Command) (log : List ℕ) → length log ≤ max_log
      → HoldsWorld t book (record { sites = sites; log = log; entries = 0; sent = sent }) (start (dash t book))
  pub bytes : sent ≡ cleared before
  -- no site has a row, and what stood where they would be stays
  pub past : (i : ℕ) → i < t.sites → drop heard_place (site_at sites i) ≡ drop heard_place (site_at earlier i)
