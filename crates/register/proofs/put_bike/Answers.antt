-- `register::put_bike`: two writes side by side are one.
-- Assumes nothing.
use native.Mathlib.Omega.{arith}
use Rattle.register.proofs.Lent.{bike-written}
use Rattle.register.proofs.put_bike.Goals as goal

pub returns : goal.returns
returns c =
    let a = c.args in
    bike-written a.register.now a.place a.bike (omega arith) c.put.ensures c.put-2.ensures
