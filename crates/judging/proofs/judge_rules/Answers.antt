-- `judging::judge_rules`: a law for each answer.
-- Assumes nothing.
use Rattle.judging.proofs.Laws.{rules_short, rules_table, rules-book, rules_good}
use mathlib.Core.Path.{ap}
use Rattle.std.proofs.lemmas.Result.{err_from_is_err_and}
use mathlib.Core.Bool.{not}
use Rattle.judging.proofs.judge_rules.Goals as goal

pub returns-then-not-sized : goal.returns-then-not-sized
returns-then-not-sized c = let a = c.args in rules_short a.table.now a.book.now a.places.now a.sized (ap not c.if-not-sized.true)

pub returns-in_err-table : goal.returns-in_err-table
returns-in_err-table c =
    let a = c.args in
    let p = err_from_is_err_and c.from_residual.result c.from_residual.ensures.1 in
    rw (p.1, p.2) (rules_table a.table.now a.book.now a.places.now a.sized (ap not c.if-not-sized.false) c.read.ensures c.in_err-table.was)

pub returns-in_default : goal.returns-in_default
returns-in_default c = let a = c.args in rules-book a.table.now a.book.now a.places.now a.sized (ap not c.if-not-sized.false) c.read.ensures c.in_ok-table.was c.note.ensures.0 c.note.ensures.1 c.in_default.is

pub returns : goal.returns
returns c = let a = c.args in rules_good a.table.now a.book.now a.places.now a.sized (ap not c.if-not-sized.false) c.read.ensures c.in_ok-table.was c.note.ensures.0 c.note.ensures.1 c.in-Some.is
