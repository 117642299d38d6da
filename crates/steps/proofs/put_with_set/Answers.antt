-- `steps::put_with_set`: the bytes, then the set beside them.
-- Assumes nothing.
use native.Mathlib.Omega.{arith}
use Rattle.steps.specs.Steps.{set_operand}
use Rattle.steps.proofs.Laws.{join}
use Rattle.steps.proofs.put_with_set.Goals as goal

pub returns : goal.returns
returns c =
    let a = c.args in
    let h = c.requires in
    let v = c.put_text-middle.ensures in
    let w = c.put_set.ensures in
    (omega (arith, v.end, w.0), join a.out.now a.at a.head.now (set_operand a.set) (omega arith) v.bytes v.end w.1)
