-- `round_of` meets its contract, by that of `wire::get`.
-- Assumes nothing.
use Rattle.entries.specs.Entries.{read_entry}
use Rattle.entries.proofs.round_of.Goals as goal

pub returns : goal.returns
unfolding read_entry
returns c = c.get.ensures
