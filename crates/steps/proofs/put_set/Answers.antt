-- `steps::put_set`: by the set's own write.
-- Assumes nothing.
use mathlib.Core.Path.{refl}
use Rattle.sets.specs.Sets.{write_set}
use Rattle.steps.proofs.put_set.Goals as goal

pub returns : goal.returns
unfolding write_set
returns c = (refl, c.write.ensures)
