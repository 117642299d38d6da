-- `is_free_between` meets its contract: the members that are no longer left have none of the other set in their rows.
-- Assumes nothing.
use mathlib.Core.Path.{sym, ◌∙◌}
use native.Mathlib.Omega.{arith}
use Rattle.calm.proofs.Laws.{looked_none, member_in, looked_turn, looked_all, looked_bad}
use Rattle.calm.proofs.is_free_between.Goals as goal

pub loop-member-init : goal.loop-member-init
loop-member-init c = rw c.into_iter-member-iterator.ensures.into_iter_gives (looked_none c.args.rows.now c.args.new c.args.set)

pub load-row-requires : goal.load-row-requires
load-row-requires c = omega (arith, member_in c.args.rows.now c.args.new c.args.set c.in-Some.ensures.steps c.loop-member.invariant)

pub returns-then-not-is_empty : goal.returns-then-not-is_empty
returns-then-not-is_empty c =
    let a = c.args in
    looked_bad a.rows.now a.new a.set (member_in a.rows.now a.new a.set c.in-Some.ensures.steps c.loop-member.invariant)
    c.load-row.ensures c.common-conflicting.ensures (sym c.if-not-is_empty.true ∙ c.is_empty.ensures)

pub loop-member-preserved : goal.loop-member-preserved
loop-member-preserved c =
    let a = c.args in
    looked_turn a.rows.now a.new a.set c.in-Some.ensures.steps c.load-row.ensures c.common-conflicting.ensures (sym c.if-not-is_empty.false ∙ c.is_empty.ensures) c.loop-member.invariant

pub returns : goal.returns
returns c = let a = c.args in looked_all a.rows.now a.new a.set c.in-None.ensures.steps.0 c.loop-member.invariant
