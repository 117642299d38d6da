-- `gather` meets its contract: the levels are those of the first k entries.
-- Assumes nothing.
use mathlib.Core.Path.{◌≡◌}
use Rattle.recovery.specs.Decisions.{levels_of}
use Rattle.recovery.proofs.gather.Given as goal

abbrev pub invariant-loop-k : goal.invariant-loop-k
invariant-loop-k l = l.levels ≡ levels_of l.log l.round l.valid l.k
