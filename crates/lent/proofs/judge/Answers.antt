-- `lent::judge`: where one part is not good the site is not, and after all others the deliveries tell.
-- Rests on Judged.
use mathlib.Core.Path.{refl, sym, ap, ◌∙◌}
use borrow.Author.Tests.{ne_eqb, lt-leb}
use lib.Dec.{leb}
use Prim.Native.Nat.{ℕ}
use Rattle.layout.specs.Good.{good_head}
use Rattle.lent.proofs.Judged.{fails, judged, short, positioned, recorded}
use native.Mathlib.Omega.{arith}
use Rattle.lent.proofs.judge.Goals as goal

pub returns-then-site-ne-SIZE : goal.returns-then-site-ne-SIZE
returns-then-site-ne-SIZE c = let a = c.args in fails a.site.now a.sites a.commands a.entries refl (ne_eqb _ _ c.if-site-ne-SIZE.true) (λ p. p.size)

pub returns-then-position-entries : goal.returns-then-position-entries
returns-then-position-entries c = let a = c.args in fails a.site.now a.sites a.commands a.entries (ap (λ (n : ℕ). leb n a.entries) (positioned a.site.now c.read-header.ensures)) (lt-leb _ _ c.if-position-entries.true) (λ p. p.position)

pub returns-then-not-judge_phase : goal.returns-then-not-judge_phase
returns-then-not-judge_phase c = let a = c.args in fails a.site.now a.sites a.commands a.entries c.judge_phase.ensures c.if-not-judge_phase.true (λ p. p.phase)

pub returns-then-not-judge_header : goal.returns-then-not-judge_header
returns-then-not-judge_header c = let a = c.args in fails a.site.now a.sites a.commands a.entries (c.judge_header.ensures ∙ ap (good_head a.commands) c.read-header.ensures) c.if-not-judge_header.true (λ p. p.head)

pub judge_heard-requires : goal.judge_heard-requires
judge_heard-requires c = let a = c.args in (c.if-site-ne-SIZE.false, short a.commands a.site.now (sym (c.judge_header.ensures ∙ ap (good_head a.commands) c.read-header.ensures) ∙ c.if-not-judge_header.false))

pub returns-then-not-judge_heard : goal.returns-then-not-judge_heard
returns-then-not-judge_heard c = let a = c.args in fails a.site.now a.sites a.commands a.entries c.judge_heard.ensures c.if-not-judge_heard.true (λ p. p.heard)

pub returns-then-not-judge : goal.returns-then-not-judge
returns-then-not-judge c = let a = c.args in fails a.site.now a.sites a.commands a.entries c.judge.ensures c.if-not-judge.true (λ p. p.register)

pub returns : goal.returns
returns c =
    let a = c.args in
    let s = c.read-header.ensures in
    let e = positioned a.site.now s in
    judged a.site.now a.sites a.commands a.entries c.if-site-ne-SIZE.false (omega (arith, c.if-position-entries.false)) (sym c.judge_phase.ensures ∙ c.if-not-judge_phase.false)
    (sym (c.judge_header.ensures ∙ ap (good_head a.commands) s) ∙ c.if-not-judge_header.false) (sym c.judge_heard.ensures ∙ c.if-not-judge_heard.false) (sym c.judge.ensures ∙ c.if-not-judge.false)
    (recorded a.site.now s) c.judge_deliveries.ensures
