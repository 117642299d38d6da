-- `register::bike_at`: the two numbers that stand at the bike's place.
-- Assumes nothing.
use native.Mathlib.Omega.{arith}
use Rattle.register.proofs.Lent.{bike-read}
use Rattle.register.proofs.bike_at.Goals as goal

pub returns : goal.returns
returns c =
    let a = c.args in
    bike-read a.register.now a.at a.bike (omega arith) c.get-reading.ensures c.get-dash.ensures
