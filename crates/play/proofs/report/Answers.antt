-- `play::report`: a line where the step is refused.
-- Assumes nothing.
use native.Mathlib.Omega.{arith}
use Rattle.play.proofs.Laws.{silent, reported}
use Rattle.play.proofs.report.Goals as goal

pub returns-in-Ok : goal.returns-in-Ok
returns-in-Ok c = let a = c.args in (silent a.text.now a.number c.in-Ok.is (omega arith), omega arith)

pub returns-in-Err : goal.returns-in-Err
returns-in-Err c =
    let w = c.put_refusal.ensures in
    (reported c.args.number c.in-Err.is w.0, w.1)
