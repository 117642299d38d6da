-- `lent::judge_slot` asks what the definition asks, test by test.
-- Assumes nothing.
use mathlib.Core.Bool.{◌&&◌, ◌||◌}
use lib.Dec.{eqb, leb, ltb}
use Rattle.lent.proofs.judge_slot.Goals as goal

pub returns : goal.returns
returns c =
    let a = c.args in
    λ i. ltb a.k a.recorded && ltb (c.get-command.ensures i) a.commands || leb a.recorded a.k && eqb (c.get-command.ensures i) 0 && eqb (c.get-answer.ensures i) 0
