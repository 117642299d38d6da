-- `looking::write_bike`: reading and dash are written side by side.
-- Assumes nothing.
use Rattle.looking.proofs.Laws.{bike-written}
use Rattle.looking.proofs.write_bike.Goals as goal

pub returns : goal.returns
returns c = bike-written _ _ c.bike_at-found.ensures c.put.ensures c.put-2.ensures
