-- `deliver::deliver_all`: the invariant is that what the rest leads to is what the whole set leads to.
-- Rests on Ledger.
use Rattle.commands.specs.Book.{commands_of}
use Rattle.deliver.specs.Delivering.{in_order}
use Rattle.deliver.proofs.Ledger.{Underway}
use Rattle.deliver.proofs.deliver_all.Given as goal

abbrev pub invariant-loop-m : goal.invariant-loop-m
invariant-loop-m l = Underway (commands_of l.book) l.k (in_order l.fn.set) l.initial.site l.n (in_order l.m-iterator.left) l.site
