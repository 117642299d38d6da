-- `lines::put_refused_line`: the word and the number.
-- Assumes nothing.
use Rattle.print.proofs.Laws.{more}
use Rattle.lines.specs.Lines.{refused_line}
use Rattle.lines.proofs.put_refused_line.Goals as goal

pub returns : goal.returns
unfolding refused_line
returns c = more c.put.ensures c.put_counted.ensures
