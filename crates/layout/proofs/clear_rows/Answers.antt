-- `layout::clear_rows`: the part that the rows take is cleared.
-- Rests on wire's Small.
use Prim.Native.Nat.{◌-◌}
use Rattle.wire.proofs.Small.{part_cleared}
use Rattle.layout.specs.Layout.{row_at}
use native.Mathlib.Omega.{arith}
use Rattle.layout.proofs.clear_rows.Goals as goal

pub returns : goal.returns
returns c = let a = c.args in part_cleared a.site.now (row_at a.rows) (row_at a.round - row_at a.rows) (omega (arith, c.requires)) c.clear.ensures
