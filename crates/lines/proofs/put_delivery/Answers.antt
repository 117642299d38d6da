-- `lines::put_delivery`: a space, the command with its sign, and the answer.
-- Assumes nothing.
use mir.Facts.{to_z-of_z}
use Rattle.print.proofs.Laws.{more}
use Rattle.lines.specs.Lines.{delivery_text}
use Rattle.lines.proofs.put_delivery.Goals as goal

pub returns : goal.returns
unfolding delivery_text
returns c = more (more c.put.ensures c.put_numbered.ensures) (rw (to_z-of_z c.ranges.answer) at c.signed.ensures)
