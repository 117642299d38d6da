-- `lines::put_site_head`: the word, then two numbers of two digits, each with its text.
-- Assumes nothing.
use Rattle.print.proofs.Laws.{more}
use Rattle.lines.specs.Lines.{site_head}
use Rattle.lines.proofs.put_site_head.Goals as goal

pub returns : goal.returns
unfolding site_head
returns c = more (more c.put.ensures c.put_numbered.ensures) c.put_numbered-2.ensures
