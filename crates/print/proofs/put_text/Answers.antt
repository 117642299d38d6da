-- `print::put_text`: the text takes the place of as many bytes.
-- Assumes nothing.
use native.Mathlib.Omega.{arith}
use mathlib.Core.Path.{refl, ap, ◌∙◌}
use lib.ListN.{length}
use Rattle.wire.specs.Wire.{splice}
use Rattle.wire.proofs.Laws.{mid_splice}
use Rattle.print.proofs.put_text.Goals as goal

pub returns : goal.returns
returns c =
    let a = c.args in
    let e = c.copy_from_slice.ensures.after in
    record { end = refl; bytes = mid_splice a.at _ a.out.now c.copy_from_slice.new.self (omega (arith, ap length e)) ∙ ap (splice a.out.now a.at) e }
