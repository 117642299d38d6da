-- `standing_after` meets its contract: the sources stand as after the first i entries, which do not decide the round.
-- Assumes nothing.
use mathlib.Core.Bool.{false}
use mathlib.Core.Path.{◌≡◌}
use Rattle.standing.specs.Standings.{standing_of}
use Rattle.standing.proofs.standing_after.Given as goal

abbrev pub invariant-loop-i : goal.invariant-loop-i
invariant-loop-i l = (l.sources ≡ standing_of l.table l.rows l.round l.log l.i) × (l.sources.decided ≡ false)
