-- `Members::next`: an empty set has no members, and another its least and those of its rest.
-- Rests on Order.
use mathlib.Core.Path.{sym, ap, ◌∙◌}
use borrow.Author.Rules.{rules}
use lib.ListN.{length}
use Rattle.sets.proofs.Order.{order_none, order_first}
use Rattle.sets.proofs.members.MembersIterator.next.Goals as goal

pub returns-then-is_empty-clause-steps : goal.returns-then-is_empty-clause-steps
returns-then-is_empty-clause-steps c =
    let e = order_none c.args.self.now.left (sym c.is_empty.ensures ∙ c.if-is_empty.true) in
    (e, e)

pub returns-clause-steps : goal.returns-clause-steps
returns-clause-steps c = order_first c.args.self.now.left (sym c.is_empty.ensures ∙ c.if-is_empty.false) c.first.ensures c.rest-self.ensures

pub returns-clause-goes : goal.returns-clause-goes
returns-clause-goes c =
    let e = ap length (order_first c.args.self.now.left (sym c.is_empty.ensures ∙ c.if-is_empty.false) c.first.ensures c.rest-self.ensures) in
    search rules
