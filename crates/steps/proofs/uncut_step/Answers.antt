-- `steps::uncut_step`: the step, or too few bytes for it.
-- Assumes nothing.
use native.Mathlib.Omega.{arith}
use Rattle.steps.proofs.Laws.{whole, cut}
use Rattle.steps.proofs.uncut_step.Goals as goal

pub returns-then-bytes-size : goal.returns-then-bytes-size
returns-then-bytes-size c = cut _ _ (omega (arith, c.size.ensures))

pub returns : goal.returns
returns c = whole _ _ (omega (arith, c.size.ensures))
