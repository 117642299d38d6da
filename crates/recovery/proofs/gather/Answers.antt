-- `gather` meets its contract: the levels are those of the first k entries.
-- Assumes nothing.
use mathlib.Core.Path.{◌∙◌}
use native.Mathlib.Omega.{arith}
use Rattle.recovery.proofs.Counts.{levels_before, levels_more}
use Rattle.recovery.proofs.gather.Goals as goal

pub loop-k-init : goal.loop-k-init
loop-k-init c = let a = c.args in c.no_levels-levels.ensures ∙ levels_before a.log.now a.round a.valid a.from c.requires.2

pub loop-k-preserved : goal.loop-k-preserved
loop-k-preserved c =
    let a = c.args in
    let l = c.loop-k in
    levels_more a.log.now a.round a.valid l.k (λ i. (c.type_inv.log i).fits) (omega arith) l.invariant c.levels_after-levels.ensures
