-- `Set::write` meets its contract, by that of `wire::put`.
-- Assumes nothing.
use borrow.Author.Rules.{rules}
use Rattle.sets.specs.Sets.{write_set}
use Rattle.sets.proofs.Set.write.Goals as goal

pub returns : goal.returns
unfolding write_set
returns c = search rules
