-- `valid_after` meets its contract, one law for each answer.
-- Assumes nothing.
use Rattle.standing.proofs.Steps.{second_entry, first_conflicting, first_valid}
use mathlib.Core.Path.{ap}
use mathlib.Core.Bool.{not}
use Rattle.standing.proofs.valid_after.Goals as goal

pub returns-then-has : goal.returns-then-has
returns-then-has c =
    let a = c.args in
    λ rows nc f. second_entry rows a.site nc a.before c.has.ensures c.if-has.true c.empty.ensures c.with-source.ensures c.without.ensures

pub returns-then-not-free : goal.returns-then-not-free
returns-then-not-free c =
    let a = c.args in
    λ rows nc f. first_conflicting rows a.site nc a.before c.has.ensures c.if-has.false f (ap not c.if-not-free.true)

pub returns : goal.returns
returns c =
    let a = c.args in
    λ rows nc f. first_valid rows a.site nc a.before c.has.ensures c.if-has.false f (ap not c.if-not-free.false) c.with.ensures
