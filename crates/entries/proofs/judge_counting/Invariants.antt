-- `judge_counting` meets its contract: the first i entries are good, and the table counts them.
-- Assumes nothing.
use mathlib.Core.Bool.{true}
use mathlib.Core.Path.{◌≡◌}
use Rattle.entries.specs.Entries.{good_to, Counting}
use Rattle.entries.proofs.judge_counting.Given as goal

abbrev pub invariant-loop-i : goal.invariant-loop-i
invariant-loop-i l = Counting l.log l.i l.counts × (good_to l.log l.sites l.commands l.i ≡ true)
