-- `lines::put_step_line`: the word, then two numbers, each with its text.
-- Assumes nothing.
use Rattle.print.proofs.Laws.{more}
use Rattle.lines.specs.Lines.{step_line}
use Rattle.lines.proofs.put_step_line.Goals as goal

pub returns : goal.returns
unfolding step_line
returns c = more (more c.put.ensures c.put_counted.ensures) c.put_counted-2.ensures
