-- What a fast delivery at one site promises.
-- Assumes nothing.
use Rattle.std.specs.Prelude.{List, ℕ}
use Rattle.refusals.specs.Refusals.{Verdict}
use Rattle.table.specs.declared.SiteTable.{SiteTable}
use Rattle.register.specs.declared.Command.{Command}
use Rattle.protocol.specs.System.{verdict}
use Rattle.protocol.specs.Site.{for_fast_delivery, deliver_fast}
use Rattle.system.specs.Dash.{dash}
use Rattle.layout.specs.Layout.{view}
use Rattle.layout.specs.Step.{Carried}

-- A fast delivery of command m was carried out on the bytes of a site, or refused.
abbrev pub FastDelivered : SiteTable → List Command → ℕ → List ℕ → Verdict → List ℕ → Type 0
FastDelivered t book m b r b' =
    Carried t book (verdict (for_fast_delivery (dash t book) m (view t book b))) (deliver_fast (dash t book) m (view t book b)) (view t book b) b r b'
