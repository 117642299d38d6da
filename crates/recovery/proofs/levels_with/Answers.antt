-- `levels_with` meets its contract, level by level.
-- Assumes nothing.
use mathlib.Core.Path.{◌≡◌}
use mathlib.Core.List.{List, ◌++◌}
use Prim.Native.Nat.{ℕ, ◌+◌, ◌<◌}
use native.Mathlib.Omega.{arith}
use lib.ListN.{length, take, drop, get_or, set}
use Rattle.std.proofs.Common.{append_assoc, rules}
use Rattle.std.proofs.lemmas.List.{drop_more, take_more_set, drop-set-lt}
use Rattle.std.proofs.lemmas.Grind.{common_steps}
use Rattle.sets.specs.declared.Set.{Set}
use Rattle.recovery.specs.Decisions.{level_with, levels_with, above_with}
use Rattle.recovery.proofs.levels_with.Goals as goal

-- A level more is passed.
raised : (nc below : Set) (levels : List Set) (k : ℕ) (d x : Set) (all : List Set) → k < length levels → x ≡ level_with (get_or levels k d) below nc
    → take k levels ++ above_with nc below (drop k levels) ≡ all
    → take (k + 1) (set levels k x) ++ above_with nc (get_or levels k d) (drop (k + 1) (set levels k x)) ≡ all
unfolding above_with
raised nc below levels k d x all h e done =
    let low : k < k + 1 = omega arith in
    let next = drop_more levels k d h in
    let z = rw next at done in
    rw (take_more_set, drop-set-lt (k + 1) levels k x low, append_assoc, e) z

pub loop-level-preserved : goal.loop-level-preserved
loop-level-preserved c =
    let l = c.loop-level in
    (search rules, raised c.args.nc l.below l.level-items l.level-index _ _ _ (omega arith) c.level_with.ensures l.invariant.1)

pub returns : goal.returns
unfolding levels_with above_with
returns c = grind (arith, common_steps)
