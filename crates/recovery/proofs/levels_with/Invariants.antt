-- `levels_with` meets its contract: the levels passed are done, and those left are above the one that was passed last.
-- Assumes nothing.
use mathlib.Core.Path.{◌≡◌}
use mathlib.Core.List.{◌++◌}
use lib.ListN.{length, take, drop}
use Rattle.recovery.specs.Decisions.{max_level, above_with}
use Rattle.recovery.proofs.levels_with.Given as goal

abbrev pub invariant-loop-level : goal.invariant-loop-level
invariant-loop-level l =
    (length l.level-items ≡ max_level) × (take l.level-index l.level-items ++ above_with l.nc l.below (drop l.level-index l.level-items) ≡ above_with l.nc l.nc l.fn.levels.at_least)
