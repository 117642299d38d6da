-- `print::digit_count`: a number has one digit more than the exponent of the greatest power of ten that it reaches; 0 has one.
-- Assumes nothing.
use Rattle.std.proofs.Common.{◌≡◌, ℕ, ◌+◌, ◌*◌, ◌^◌, ◌≤◌, ◌<◌, Option, Some, None, ap, ◌∙◌, arith, unwrap_or, IfSome, IfNone}
use native.Mathlib.Nat.{pow-succ'}
use Rattle.print.specs.Print.{width}
use Rattle.print.proofs.Laws.{width_one, width-past, width_short}
use Rattle.print.proofs.digit_count.Goals as goal

counted : (x : ℕ) (o : Option ℕ) → IfNone o (x ≡ 0) → IfSome o (λ k. 10 ^ k ≤ x) → IfSome o (λ k. x < 10 * 10 ^ k) → unwrap_or o 0 + 1 ≡ width x
counted x None e h l = omega (arith, width_one x (omega arith))
counted x (Some k) e h l = omega (arith, width-past k x h, width_short k x (omega (arith, pow-succ' 10 k)))

pub returns : goal.returns
returns c = let e = c.checked_ilog10.ensures in omega (arith, c.unwrap_or.ensures, counted c.args.x c.checked_ilog10.result e.none e.power_le e.next_power_gt)
