-- `steps::message`: three operands, and by the code a fourth, none or a set.
-- Assumes nothing.
use native.Mathlib.Omega.{arith}
use mathlib.Core.Path.{◌≡◌, refl, sym, ap, ◌∙◌}
use Prim.Native.Nat.{ℕ}
use Rattle.steps.specs.declared.Step.TheVariants.{Acknowledgment, Check, FalseAcknowledgment, FalseCheck}
use Rattle.steps.specs.Steps.{uncut, read_as}
use Rattle.steps.proofs.Laws.{uncut_same}
use Rattle.steps.proofs.message.Goals as goal

pub returns-in-2 : goal.returns-in-2
unfolding read_as
returns-in-2 c =
    let o = c in
    let s = o.args.bytes.now in
    let i = o.operand-site.ensures in
    let j = o.operand-from.ensures in
    let r = o.operand-round.ensures in
    (λ k. uncut s (Acknowledgment (i k) (j k) (r k) (c.operand.ensures k))) ∙ ap (λ (n : ℕ). read_as n s) (sym c.in-2.is)

pub returns-in-3 : goal.returns-in-3
unfolding read_as
returns-in-3 c =
    let o = c in
    let s = o.args.bytes.now in
    let i = o.operand-site.ensures in
    let j = o.operand-from.ensures in
    let r = o.operand-round.ensures in
    (λ k. uncut s (Check (i k) (j k) (r k))) ∙ ap (λ (n : ℕ). read_as n s) (sym c.in-3.is)

pub returns-in-4 : goal.returns-in-4
unfolding read_as
returns-in-4 c =
    let o = c in
    let s = o.args.bytes.now in
    let i = o.operand-site.ensures in
    let j = o.operand-from.ensures in
    let r = o.operand-round.ensures in
    uncut_same s refl (λ h k. FalseAcknowledgment (i k) (j k) (r k) (c.set_operand.ensures h k)) ∙ ap (λ (n : ℕ). read_as n s) (sym c.in-4.is)

pub returns-in_default : goal.returns-in_default
unfolding read_as
returns-in_default c =
    let o = c in
    let s = o.args.bytes.now in
    let i = o.operand-site.ensures in
    let j = o.operand-from.ensures in
    let r = o.operand-round.ensures in
    let e : 5 ≡ o.args.code = omega (arith, c.in_default.in_default-own.rest.0.0.1, c.in_default.in_default-own.rest.0.1, c.in_default.in_default-own.rest.1) in
    uncut_same s refl (λ h k. FalseCheck (i k) (j k) (r k) (c.set_operand-in_default.ensures h k)) ∙ ap (λ (n : ℕ). read_as n s) e
