-- `Set::without` meets its contract, by the definition of `without_of`.
-- Assumes nothing.
use borrow.Author.Rules.{rules}
use Rattle.sets.specs.Sets.{without_of}
use Rattle.sets.proofs.Set.without.Goals as goal

pub returns : goal.returns
unfolding without_of
returns c = search rules
