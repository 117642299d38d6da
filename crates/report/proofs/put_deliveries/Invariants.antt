-- `report::put_deliveries`: what was written is the text of the deliveries passed.
-- Assumes nothing.
use Prim.Native.Nat.{◌+◌, ◌*◌, ◌≤◌}
use Rattle.print.specs.Print.{Printed}
use Rattle.lines.specs.Lines.{deliveries_text}
use Rattle.layout.specs.Layout.{deliveries_of}
use Rattle.report.specs.Report.{delivery_room}
use Rattle.report.proofs.put_deliveries.Given as goal

abbrev pub invariant-loop-k : goal.invariant-loop-k
invariant-loop-k l = (l.text.end ≤ l.initial.text.end + delivery_room * l.k) × Printed l.text l.initial.text (deliveries_text (deliveries_of l.k l.site))
