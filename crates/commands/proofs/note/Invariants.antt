-- `commands::note`: command by command.
-- Rests on Noting.
use Prim.Native.Nat.{◌-◌, ◌*◌, ◌≤◌}
use mathlib.Core.Path.{◌≡◌}
use lib.ListN.{length}
use lib.Seq.{sets}
use Rattle.commands.specs.Book.{max_commands, noted_places}
use Rattle.commands.proofs.Noting.{Walking}
use Rattle.commands.proofs.note.Given as goal

abbrev pub invariant-loop-at : goal.invariant-loop-at
invariant-loop-at l = (l.n ≡ length l.book) × (l.at ≤ l.n) × (l.k ≤ max_commands) × (l.at ≤ 10 * l.k) × (length l.places ≡ length l.initial.places) × Walking l.book (sets l.initial.places 0 (noted_places l.book)) l.k l.at l.places

abbrev pub decreases-loop-at : goal.decreases-loop-at
decreases-loop-at l = l.n - l.at
