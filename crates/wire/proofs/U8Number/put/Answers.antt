use native.Mathlib.Omega.{arith}
use Prim.Native.Nat.{◌%◌}
use mathlib.Core.Path.{◌≡◌}
use Rattle.wire.specs.Wire.{bytes}
use Rattle.wire.proofs.Laws.{sets-splice}
use Rattle.wire.proofs.U8Number.put.Goals as goal

pub returns : goal.returns
unfolding bytes
returns c =
    let a = c.args in
    let h : a.self % 256 ≡ a.self = omega arith in
    rw h (rw h at (sets-splice (bytes 1 a.self) a.s.now a.at c.requires))
