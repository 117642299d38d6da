-- `is_free_between` meets its contract: the members that are no longer left have none of the other set in their rows.
-- Assumes nothing.
use Rattle.theory.specs.Sets.{members}
use Rattle.sets.specs.Sets.{capacity, in_set}
use Rattle.calm.proofs.Laws.{Looked}
use Rattle.calm.proofs.is_free_between.Given as goal

abbrev pub invariant-loop-member : goal.invariant-loop-member
invariant-loop-member l = Looked l.rows l.fn.new l.set (members capacity (in_set l.member-iterator.left))
