-- `Set::holds` meets its contract, by the definition of `has`.
-- Assumes nothing.
use borrow.Author.Rules.{rules}
use Rattle.sets.specs.Sets.{has}
use Rattle.sets.proofs.Set.holds.Goals as goal

pub returns : goal.returns
unfolding has
returns c = search rules
