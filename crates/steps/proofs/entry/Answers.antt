-- `steps::entry`: two operands and two sets.
-- Assumes nothing.
use native.Mathlib.Omega.{arith}
use mathlib.Core.Path.{refl}
use Rattle.steps.specs.declared.Step.TheVariants.{FalseEntry}
use Rattle.steps.specs.Steps.{read_as}
use Rattle.steps.proofs.Laws.{uncut_same}
use Rattle.steps.proofs.entry.Goals as goal

pub returns : goal.returns
unfolding read_as
returns c =
    let i = c.operand-from.ensures in
    let j = c.operand-round.ensures in
    uncut_same c.args.bytes.now refl (λ h k. FalseEntry (i k) (j k) (c.set_operand-nc.ensures (omega arith) k) (c.set_operand-c.ensures h k))
