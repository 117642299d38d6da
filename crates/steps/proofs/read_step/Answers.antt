-- `steps::read_step`: the code says which step it is.
-- Assumes nothing.
use mathlib.Core.Path.{refl, ap, ◌∙◌}
use Rattle.steps.specs.declared.Step.TheVariants.{Command, Turn, FastDelivery, LogRead, RoundEnd}
use Rattle.steps.specs.Steps.{uncut, read_as}
use Rattle.steps.proofs.Laws.{part_read, no_code}
use Rattle.steps.proofs.read_step.Goals as goal

pub returns-in-1 : goal.returns-in-1
unfolding read_as
returns-in-1 c =
    let o = c in
    let a = o.args in
    part_read a.bytes.now a.at 1 o.operand-code.ensures c.in-1.is (c.uncut_step.ensures ∙ ap (uncut _) (λ k. Command (o.operand-site.ensures k) (o.operand-command.ensures k)))

pub returns-in-2 : goal.returns-in-2
returns-in-2 c =
    let o = c in
    let a = o.args in
    part_read a.bytes.now a.at 2 o.operand-code.ensures c.in-2.is (c.uncut_step-in-2.ensures ∙ c.message.ensures)

pub returns-in-3 : goal.returns-in-3
returns-in-3 c =
    let o = c in
    let a = o.args in
    part_read a.bytes.now a.at 3 o.operand-code.ensures c.in-3.is (c.uncut_step-in-3.ensures ∙ c.message-in-3.ensures)

pub returns-in-4 : goal.returns-in-4
returns-in-4 c =
    let o = c in
    let a = o.args in
    part_read a.bytes.now a.at 4 o.operand-code.ensures c.in-4.is (c.uncut_step-in-4.ensures ∙ c.message-in-4.ensures)

pub returns-in-5 : goal.returns-in-5
returns-in-5 c =
    let o = c in
    let a = o.args in
    part_read a.bytes.now a.at 5 o.operand-code.ensures c.in-5.is (c.uncut_step-in-5.ensures ∙ c.message-in-5.ensures)

pub returns-in-6 : goal.returns-in-6
returns-in-6 c =
    let o = c in
    let a = o.args in
    part_read a.bytes.now a.at 6 o.operand-code.ensures c.in-6.is (c.uncut_step-in-6.ensures ∙ c.entry.ensures)

pub returns-in-7 : goal.returns-in-7
unfolding read_as
returns-in-7 c =
    let o = c in
    let a = o.args in
    part_read a.bytes.now a.at 7 o.operand-code.ensures c.in-7.is (c.uncut_step-in-7.ensures ∙ ap (uncut _) (λ k. Turn (o.operand-site.ensures k)))

pub returns-in-8 : goal.returns-in-8
unfolding read_as
returns-in-8 c =
    let o = c in
    let a = o.args in
    part_read a.bytes.now a.at 8 o.operand-code.ensures c.in-8.is (c.uncut_step-in-8.ensures ∙ ap (uncut _) (λ k. FastDelivery (o.operand-site.ensures k) (o.operand-command.ensures k)))

pub returns-in-9 : goal.returns-in-9
unfolding read_as
returns-in-9 c =
    let o = c in
    let a = o.args in
    part_read a.bytes.now a.at 9 o.operand-code.ensures c.in-9.is (c.uncut_step-in-9.ensures ∙ ap (uncut _) (λ k. LogRead (o.operand-site.ensures k)))

pub returns-in-10 : goal.returns-in-10
unfolding read_as
returns-in-10 c =
    let o = c in
    let a = o.args in
    part_read a.bytes.now a.at 10 o.operand-code.ensures c.in-10.is (c.uncut_step-in-10.ensures ∙ ap (uncut _) (λ k. RoundEnd (o.operand-site.ensures k)))

pub returns-in_default : goal.returns-in_default
returns-in_default c =
    let o = c in
    let a = o.args in
    let r = c.in_default.in_default-own.rest in
    part_read a.bytes.now a.at _ o.operand-code.ensures refl
    (no_code _ _ r.0.0.0.0.0.0.0.0.0.1 r.0.0.0.0.0.0.0.0.1 r.0.0.0.0.0.0.0.1 r.0.0.0.0.0.0.1 r.0.0.0.0.0.1 r.0.0.0.0.1 r.0.0.0.1 r.0.0.1 r.0.1 r.1)
