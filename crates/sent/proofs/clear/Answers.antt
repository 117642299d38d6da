-- `sent::clear`: the part of the counts and flags is cleared.
-- Rests on Writes.
use Prim.Native.Nat.{◌*◌}
use Rattle.wire.proofs.Small.{part_cleared}
use Rattle.sent.specs.Sent.{counts_offset, cells}
use Rattle.sent.proofs.Writes.{cleared_holds}
use native.Mathlib.Omega.{arith}
use Rattle.sent.proofs.clear.Goals as goal

pub returns : goal.returns
returns c = let b = c.args.sent.now in cleared_holds b c.requires (part_cleared b counts_offset (2 * cells) (omega (arith, c.requires)) c.clear.ensures)
