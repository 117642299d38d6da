-- `print::Text::digits`: the digits that are still to come, before those that stand, give all of them.
-- Assumes nothing.
use mathlib.Core.Path.{◌≡◌}
use Rattle.wire.specs.Wire.{splice}
use Rattle.print.specs.Print.{digits}
use Rattle.print.proofs.Text.digits.Given as goal

abbrev pub invariant-loop-i : goal.invariant-loop-i
invariant-loop-i l = splice l.out l.at (digits l.i l.left) ≡ splice l.initial.out l.at (digits l.n l.x)
