-- `Set::union` meets its contract, by the definition of `union_of`.
-- Assumes nothing.
use borrow.Author.Rules.{rules}
use Rattle.sets.specs.Sets.{union_of}
use Rattle.sets.proofs.Set.union.Goals as goal

pub returns : goal.returns
unfolding union_of
returns c = search rules
