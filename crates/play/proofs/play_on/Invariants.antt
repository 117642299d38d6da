-- `play::play_on`: what is left of the steps becomes less, one after another.
-- Assumes nothing.
use mathlib.Core.Path.{◌≡◌}
use Prim.Native.Nat.{◌+◌, ◌-◌, ◌*◌, ◌≤◌}
use lib.ListN.{length}
use Rattle.commands.specs.Book.{commands_of}
use Rattle.rounds.specs.Rounds.{Kept}
use Rattle.world.specs.Parts.{lent}
use Rattle.play.specs.Played.{line_room}
use Rattle.play.proofs.Laws.{Playing}
use Rattle.play.proofs.play_on.Given as goal

abbrev pub invariant-loop-at : goal.invariant-loop-at
invariant-loop-at l = (l.at ≤ length l.steps)
    × (2 * l.number ≤ l.at + 2)
    × (l.text.end + line_room ≤ l.initial.text.end + line_room * l.number)
    × (length l.sites ≡ length l.initial.sites)
    × (length l.log ≡ length l.initial.log)
    × (length l.sent ≡ length l.initial.sent)
    × Playing l.rules.table (commands_of l.book.bytes.now) l.steps l.initial.text l.initial.sites (lent l.sites l.log l.kept.entries l.sent) l.text l.at l.number
    × Kept l.rules.table l.rows l.log l.kept

abbrev pub decreases-loop-at : goal.decreases-loop-at
decreases-loop-at l = length l.steps - l.at
