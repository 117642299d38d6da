-- `steps::operand`: a byte, or none.
-- Assumes nothing.
use native.Mathlib.Omega.{arith}
use mathlib.Core.Path.{sym}
use lib.ListN.{get_or-eq_default}
use Rattle.steps.proofs.operand.Goals as goal

pub returns : goal.returns
returns c = let a = c.args in sym (get_or-eq_default a.bytes.now 0 (omega arith))
