-- `c_of` meets its contract, by that of `Set::read`.
-- Assumes nothing.
use Rattle.entries.specs.Entries.{read_entry}
use Rattle.entries.proofs.c_of.Goals as goal

pub returns : goal.returns
unfolding read_entry
returns c = c.read.ensures
