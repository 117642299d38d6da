-- `layout::judge_phase`: the tag and the sets proposed are those that stand there.
-- Assumes nothing.
use mathlib.Core.Bool.{◌&&◌, ◌||◌}
use lib.Dec.{eqb}
use Rattle.layout.proofs.judge_phase.Goals as goal

pub returns : goal.returns
returns c = λ i. eqb (c.get-tag.ensures i) 1 || eqb (c.get-tag.ensures i) 0 && eqb (c.get-nc.ensures i) 0 && eqb (c.get-c.ensures i) 0
