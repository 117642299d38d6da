-- `nobody_yet` meets its contract.
-- Assumes nothing.
use Rattle.standing.proofs.Steps.{nobody_told}
use Rattle.standing.proofs.nobody_yet.Goals as goal

pub returns : goal.returns
returns c = nobody_told c.empty-nobody.ensures
