-- `steps::set_operand`: a set, or too few bytes for one.
-- Assumes nothing.
use native.Mathlib.Omega.{arith}
use Rattle.steps.proofs.set_operand.Goals as goal

pub returns-then-bytes-k : goal.returns-then-bytes-k
returns-then-bytes-k c = λ h. absurd (omega arith)
