-- `lines::put_numbered`: a number, then a text.
-- Assumes nothing.
use native.Mathlib.Omega.{arith}
use Rattle.print.proofs.Laws.{more}
use Rattle.lines.proofs.Laws.{numbered-length}
use Rattle.lines.proofs.put_numbered.Goals as goal

pub digits-requires : goal.digits-requires
digits-requires c = omega (arith, numbered-length c.args.x c.args.after.now)

pub returns : goal.returns
returns c = more c.digits.ensures c.put.ensures
