-- `print::Text::digits`: the digits that are still to come, before those that stand, give all of them.
-- Assumes nothing.
use native.Mathlib.Omega.{arith}
use mathlib.Core.Path.{refl, sym, ◌∙◌}
use Rattle.print.proofs.Laws.{length_digits, digits_more, digits-none}
use Rattle.print.proofs.Text.digits.Goals as goal

pub loop-i-preserved : goal.loop-i-preserved
loop-i-preserved c = let l = c.loop-i in digits_more l.out c.args.self.now.end l.i l.left (omega arith) (omega arith) ∙ l.invariant

pub returns : goal.returns
returns c = let a = c.args in let t = a.self.now in let l = c.loop-i in record { same = refl; wrote = record { end = omega (arith, length_digits a.n a.x); bytes = sym (digits-none l.out t.end l.i l.left (omega arith)) ∙ l.invariant }; size = l.auto.out; room = omega (arith, l.auto.out) }
