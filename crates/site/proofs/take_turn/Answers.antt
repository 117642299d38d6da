-- `site::take_turn`: the choice is the protocol's verdict, and what it changes is written.
-- Assumes nothing.
use mathlib.Core.Path.{refl, sym, ap, ◌∙◌}
use Rattle.std.specs.Prelude.{Ok}
use Rattle.std.proofs.lemmas.Result.{err_from_is_err_and}
use Rattle.site.specs.Steps.{chosen}
use Rattle.site.proofs.Turning.{turn_holds}
use Rattle.site.proofs.take_turn.Goals as goal

pub returns-in_err-turn : goal.returns-in_err-turn
returns-in_err-turn c =
    let a = c.args in
    let p = err_from_is_err_and c.from_residual.result c.from_residual.ensures.1 in
    rw (p.1, p.2)
    (λ t book i log g ef eo.
    turn_holds t book _ (λ i. (c.slice_known-1.given i).fits) g a.free a.third i log
    (sym c.in_err-turn.was ∙ c.choose.ensures ∙ (λ k. chosen (c.read-header.ensures k) a.free a.third))
    refl (λ i. (c.slice_known-1.given i).fits) ef eo)

pub returns-in-Acknowledged : goal.returns-in-Acknowledged
returns-in-Acknowledged c =
    let a = c.args in
    λ t book i log g ef eo.
    turn_holds t book _ (λ i. (c.slice_known-1.given i).fits) g a.free a.third i log
    (ap Ok (sym c.in-Acknowledged.is) ∙ sym c.in_ok-turn.was ∙ c.choose.ensures ∙ (λ k. chosen (c.read-header.ensures k) a.free a.third))
    c.write.ensures (λ i. (c.slice_known-in-Acknowledged-1.given i).fits) ef eo

pub returns-in-Proposed : goal.returns-in-Proposed
returns-in-Proposed c =
    let a = c.args in
    λ t book i log g ef eo.
    turn_holds t book _ (λ i. (c.slice_known-1.given i).fits) g a.free a.third i log
    (ap Ok (sym c.in-Proposed.is) ∙ sym c.in_ok-turn.was ∙ c.choose.ensures ∙ (λ k. chosen (c.read-header.ensures k) a.free a.third))
    c.set_phase.ensures (λ i. (c.slice_known-in-Proposed-1.given i).fits) ef eo
