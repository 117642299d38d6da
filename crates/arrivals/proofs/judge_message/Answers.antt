-- `arrivals::judge_message`: one law for each answer.
-- Assumes nothing.
use mathlib.Core.Path.{sym, ap, ◌∙◌}
use Rattle.std.specs.Prelude.{Err}
use mathlib.Core.Bool.{Bool}
use Rattle.refusals.specs.declared.Refusal.TheVariants.{Role}
use Rattle.refusals.specs.Refusals.{accepted}
use Rattle.theory.specs.Sets.{pick}
use Rattle.theory.specs.Counting.{not-true, not-false}
use Rattle.arrivals.proofs.Judging.{out_of_range, faulty_receiver, by_role}
use mathlib.Core.Bool.{not}
use Rattle.arrivals.proofs.judge_message.Goals as goal

pub returns-then-not-in_range : goal.returns-then-not-in_range
returns-then-not-in_range c =
    let a = c.args in
    out_of_range a.table a.i a.j a.r a.other a.role c.if-not-in_range.true

pub returns-then-is_faulty : goal.returns-then-is_faulty
returns-then-is_faulty c =
    let a = c.args in
    faulty_receiver a.table a.i a.j a.r a.other a.role c.if-not-in_range.false (sym c.is_faulty.ensures ∙ c.if-is_faulty.true)

pub returns-then-not-role : goal.returns-then-not-role
returns-then-not-role c =
    let a = c.args in
    sym (ap (λ (x : Bool). pick x accepted (Err Role)) (not-true a.role (ap not c.if-not-role.true)))
    ∙ by_role a.table a.i a.j a.r a.other a.role c.if-not-in_range.false (sym c.is_faulty.ensures ∙ c.if-is_faulty.false)

pub returns : goal.returns
returns c =
    let a = c.args in
    sym (ap (λ (x : Bool). pick x accepted (Err Role)) (not-false a.role (ap not c.if-not-role.false)))
    ∙ by_role a.table a.i a.j a.r a.other a.role c.if-not-in_range.false (sym c.is_faulty.ensures ∙ c.if-is_faulty.false)
