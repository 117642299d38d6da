-- `entries_of` meets its contract: the entries counted are those among the first i.
-- Assumes nothing.
use Prim.Native.Nat.{◌≤◌}
use mathlib.Core.Path.{◌≡◌}
use Rattle.protocol.specs.Recovery.{entries}
use Rattle.entries.specs.Entries.{log_to}
use Rattle.entries.proofs.entries_of.Given as goal

abbrev pub invariant-loop-i : goal.invariant-loop-i
invariant-loop-i l = (l.all ≤ l.i) × (l.all ≡ entries l.site l.round (log_to l.log l.i))
