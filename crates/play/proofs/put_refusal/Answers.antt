-- `play::put_refusal`: the line has the refusal's number.
-- Assumes nothing.
use native.Mathlib.Omega.{arith}
use Rattle.refusals.specs.Numbers.{number_short}
use Rattle.play.proofs.Laws.{line_short, loud}
use Rattle.play.proofs.put_refusal.Goals as goal

pub put_step_line-requires : goal.put_step_line-requires
put_step_line-requires c =
    let o = c in
    omega (arith, o.requires.0, line_short o.args.number c.from-cause.result o.requires.1 (omega (arith, number_short o.args.refusal, c.from-cause.ensures)))

pub returns : goal.returns
returns c =
    let o = c in
    let w = c.put_step_line.ensures in (
      loud o.args.number o.args.refusal c.from-cause.ensures w,
      omega (arith, w.wrote.end, line_short o.args.number c.from-cause.result o.requires.1 (omega (arith, number_short o.args.refusal, c.from-cause.ensures))),
    )
