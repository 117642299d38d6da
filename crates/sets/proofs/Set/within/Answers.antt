-- `Set::within` meets its contract: no member from n on.
-- Rests on Beyond.
use Rattle.sets.proofs.Beyond.{within_common}
use Rattle.sets.proofs.Set.within.Goals as goal

pub returns : goal.returns
returns c =
    let a = c.args in
    within_common a.self a.n c.beyond.ensures c.common.ensures c.is_empty.ensures
