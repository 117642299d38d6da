-- `lines::put_run_line`: the word, then three numbers, each with its text.
-- Assumes nothing.
use Rattle.print.proofs.Laws.{more}
use Rattle.lines.specs.Lines.{run_line}
use Rattle.lines.proofs.put_run_line.Goals as goal

pub returns : goal.returns
unfolding run_line
returns c = more (more (more c.put.ensures c.put_counted.ensures) c.put_counted-2.ensures) c.put_counted-3.ensures
