-- `Set::read` meets its contract, by that of `wire::get`.
-- Assumes nothing.
use Rattle.sets.specs.Sets.{read_set}
use Rattle.sets.proofs.Set.read.Goals as goal

pub returns : goal.returns
unfolding read_set
returns c = cc
