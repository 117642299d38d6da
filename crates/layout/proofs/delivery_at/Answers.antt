-- `layout::delivery_at`: the command and the answer are read at their places.
-- Assumes nothing.
use mir.Syntax.{w32}
use Rattle.signed.proofs.Laws.{returned}
use Rattle.layout.proofs.delivery_at.Goals as goal

pub returns : goal.returns
returns c = λ i. record { command = c.get-command.ensures i; answer = returned w32 c.get-answer.type_inv c.get-answer.ensures i }
