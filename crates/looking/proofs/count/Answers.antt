-- `looking::count`: by the header.
-- Assumes nothing.
use mathlib.Core.Path.{ap}
use Rattle.layout.specs.declared.Site.{Site}
use Rattle.looking.proofs.count.Goals as goal

pub returns : goal.returns
returns c = ap (λ (h : Site). h.deliveries) c.read-header.ensures
