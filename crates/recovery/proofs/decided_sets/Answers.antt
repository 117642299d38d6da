-- `decided_sets` meets its contract, by the definition of `found_sets`.
-- Assumes nothing.
use Rattle.recovery.proofs.Decided.{made_sets}
use Rattle.recovery.proofs.decided_sets.Goals as goal

pub returns : goal.returns
returns c = let a = c.args in made_sets a.table a.log.now a.round a.valid a.n c.gather-levels.ensures c.majority.ensures c.at_least-nc.ensures c.without-c.ensures
