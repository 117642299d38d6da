-- `report::put_deliveries`: what was written is the text of the deliveries passed.
-- Assumes nothing.
use native.Mathlib.Omega.{arith}
use Prim.Native.Nat.{◌≤◌}
use lib.ListN.{length}
use mir.Facts.{to_z-of_z}
use mir.Syntax.{w32}
use mir.Val.{SFits}
use Rattle.print.proofs.Laws.{nothing}
use Rattle.lines.specs.Lines.{delivery_text}
use Rattle.lines.proofs.Laws.{delivery_short}
use Rattle.layout.specs.Layout.{deliveries_of}
use Rattle.report.specs.Report.{delivery_room}
use Rattle.report.proofs.Laws.{deliveries_more}
use Rattle.report.proofs.put_deliveries.Goals as goal

pub loop-k-init : goal.loop-k-init
unfolding deliveries_of
loop-k-init c = (omega arith, nothing _ (omega arith))

pub put_delivery-requires : goal.put_delivery-requires
put_delivery-requires c =
    let d = c.delivery_at-delivery.result in
    let f : SFits w32 d.answer = record { sfits = c.type_inv.delivery.1.0.1 } in
    let l : length (delivery_text d.command d.answer) ≤ delivery_room = delivery_short d.command d.answer f in
    rw (to_z-of_z f) (omega (arith, c.loop-k.invariant.0, c.loop-k.invariant.1.size))

pub loop-k-preserved : goal.loop-k-preserved
loop-k-preserved c =
    let d = c.delivery_at-delivery.result in
    let f : SFits w32 d.answer = record { sfits = c.struct_told-1.given.1.0.1 } in
    let w = rw (to_z-of_z f) at c.put_delivery.ensures in
    let l : length (delivery_text d.command d.answer) ≤ delivery_room = delivery_short d.command d.answer f in
    let inv = c.loop-k.invariant in
    (omega (arith, w.wrote.end, inv.0), deliveries_more c.args.site.now c.loop-k.k c.delivery_at-delivery.ensures inv.1 w)
