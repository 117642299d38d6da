-- `report::put_site_lines`: what was written are the lines of the sites passed.
-- Assumes nothing.
use Prim.Native.Nat.{◌+◌, ◌*◌, ◌≤◌}
use Rattle.print.specs.Print.{Printed}
use Rattle.report.specs.Report.{line_room, lines_below}
use Rattle.report.proofs.put_site_lines.Given as goal

abbrev pub invariant-loop-i : goal.invariant-loop-i
invariant-loop-i l = (l.text.end ≤ l.initial.text.end + line_room * l.i) × Printed l.text l.initial.text (lines_below l.table l.sites l.i)
