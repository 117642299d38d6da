use native.Mathlib.Omega.{arith}
use lib.ListN.{length}
use Prim.Native.Nat.{◌+◌, ◌≤◌}
use Rattle.wire.proofs.Laws.{read_one}
use Rattle.wire.proofs.U8Number.get.Goals as goal

pub returns : goal.returns
returns c =
    let a = c.args in
    let h : a.at + 1 ≤ length a.s.now = omega arith in
    cc (read_one a.s.now a.at h)
