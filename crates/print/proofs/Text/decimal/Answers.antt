-- `print::Text::decimal`: as many digits as the number has.
-- Assumes nothing.
use native.Mathlib.Omega.{arith}
use Rattle.print.proofs.Laws.{length-decimal, printed_decimal}
use Rattle.print.proofs.Text.decimal.Goals as goal

pub digits-requires : goal.digits-requires
digits-requires c = omega (arith, length-decimal c.args.x, c.digit_count-n.ensures)

pub returns : goal.returns
returns c = printed_decimal _ c.digit_count-n.ensures c.digits.ensures
