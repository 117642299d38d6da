-- `judging::position_of`: by the header.
-- Assumes nothing.
use mathlib.Core.Path.{ap}
use Rattle.layout.specs.declared.Site.{Site}
use Rattle.judging.proofs.position_of.Goals as goal

pub returns : goal.returns
returns c = ap (λ (h : Site). h.position) c.read-header.ensures
