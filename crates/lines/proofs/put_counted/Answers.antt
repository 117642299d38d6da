-- `lines::put_counted`: a number, then a text.
-- Assumes nothing.
use Rattle.print.proofs.Laws.{more}
use Rattle.lines.proofs.put_counted.Goals as goal

pub returns : goal.returns
returns c = more c.decimal.ensures c.put.ensures
