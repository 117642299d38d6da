-- `engine::in_range`: by the test of the set.
-- Assumes nothing.
use mathlib.Core.Bool.{Bool, ◌&&◌}
use mathlib.Core.Path.{ap}
use lib.Dec.{leb, ltb}
use Rattle.layout.specs.Layout.{site_rounds}
use Rattle.engine.proofs.in_range.Goals as goal

pub returns : goal.returns
returns c =
    let a = c.args in
    ap (λ (t : Bool). ltb a.sender a.rules.table.sites && leb 1 a.message.round && leb a.message.round site_rounds && t) c.within.ensures
