-- `Set::with` meets its contract: `1 << m` is the word of m alone.
-- Assumes nothing.
use Rattle.sets.proofs.Laws.{shl_one}
use Rattle.sets.specs.Sets.{with_of}
use Rattle.sets.proofs.Set.with.Goals as goal

pub returns : goal.returns
unfolding with_of
returns c = rw (shl_one c.args.m c.requires)
