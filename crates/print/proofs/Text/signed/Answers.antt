-- `print::Text::signed`: below 0 a minus sign and the size after it, else the size alone.
-- Assumes nothing.
use native.Mathlib.Omega.{arith}
use mathlib.Core.Path.{ap}
use lib.ListN.{length}
use mir.Facts.{to_z-of_z}
use Rattle.print.proofs.Laws.{plain_text, minus_text, more, rest}
use Rattle.print.proofs.Text.signed.Goals as goal
use Rattle.print.proofs.Text.signed.Goals.{then-x-lt0, else-x-lt0}

pub put-requires : goal.put-requires
put-requires c = omega (arith, ap length (minus_text _ (to_z-of_z c.ranges.x) c.if-x-lt0.true c.unsigned_abs-size.ensures.value))

pub decimal-requires : goal.decimal-requires
decimal-requires c =
    elim c.if-x-lt0.branch [
      | then-x-lt0 w ↦ rw w.self-is (rest _ _ (rw (minus_text _ (to_z-of_z c.ranges.x) w.if-x-lt0.true c.unsigned_abs-size.ensures.value) at c.requires) w.put.ensures)
      | else-x-lt0 w ↦ rw w.self-is (rw (plain_text _ (to_z-of_z c.ranges.x) w.if-x-lt0.false c.unsigned_abs-size.ensures.value) at c.requires)
    ]

pub returns : goal.returns
returns c =
    elim c.if-x-lt0.branch [
      | then-x-lt0 w ↦ rw (minus_text _ (to_z-of_z c.ranges.x) w.if-x-lt0.true c.unsigned_abs-size.ensures.value) (more w.put.ensures (rw w.self-is at c.decimal.ensures))
      | else-x-lt0 w ↦ rw (plain_text _ (to_z-of_z c.ranges.x) w.if-x-lt0.false c.unsigned_abs-size.ensures.value) (rw w.self-is at c.decimal.ensures)
    ]
