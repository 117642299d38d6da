-- `Set::common` meets its contract, by the definition of `common_of`.
-- Assumes nothing.
use borrow.Author.Rules.{rules}
use Rattle.sets.specs.Sets.{common_of}
use Rattle.sets.proofs.Set.common.Goals as goal

pub returns : goal.returns
unfolding common_of
returns c = search rules
