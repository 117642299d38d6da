-- `judging::judge_table`: by the table that is read.
-- Assumes nothing.
use mathlib.Core.Path.{sym, ◌∙◌}
use Rattle.std.proofs.lemmas.Result.{err_from_is_err_and}
use Rattle.judging.proofs.Laws.{table-good, table-refused}
use Rattle.judging.proofs.judge_table.Goals as goal

pub returns-in_err-read_marked : goal.returns-in_err-read_marked
returns-in_err-read_marked c =
    let p = err_from_is_err_and c.from_residual.result c.from_residual.ensures.1 in
    rw (p.1, p.2) (table-refused c.args.table.now (sym c.read_marked.ensures ∙ c.in_err-read_marked.was))

pub returns : goal.returns
returns c = table-good c.args.table.now (sym c.read_marked.ensures ∙ c.in_ok-read_marked.was)
