-- `Round::enter_first` meets its contract, one law for each answer.
-- Assumes nothing.
use mathlib.Core.Path.{sym, ap, ◌∙◌}
use native.Mathlib.Omega.{arith}
use Rattle.sets.specs.declared.Set.{Set}
use Rattle.sets.specs.Sets.{in_set}
use Rattle.table.proofs.Laws.{good_limits}
use Rattle.calm.specs.Rows.{free_by}
use Rattle.rounds.proofs.Entering.{taken_decided, taken_unfree, counts_valid, taken-waiting, taken_deciding}
use Rattle.rounds.proofs.Round.enter_first.Goals as goal

pub note_first-requires : goal.note_first-requires
note_first-requires c = omega (arith, c.requires.5, good_limits c.args.table c.requires.0)

pub returns-then-is_some : goal.returns-then-is_some
returns-then-is_some c =
    let a = c.args in
    let q = c.requires in
    taken_decided a.table a.rows.now a.log.now a.k a.round a.self.now q.0 q.7 q.2 q.3 a.site q.5 q.6 q.8 c.note_first.ensures (sym c.is_some.ensures ∙ c.if-is_some.true)

pub returns-then-not-free : goal.returns-then-not-free
returns-then-not-free c =
    let a = c.args in
    let q = c.requires in
    taken_unfree a.table a.rows.now a.log.now a.k a.round a.self.now q.0 q.7 q.2 q.3 a.site q.5 q.6 q.8 c.note_first.ensures (sym c.is_some.ensures ∙ c.if-is_some.false)
    (c.is_free-free.ensures ∙ ap (λ (x : Set). free_by a.rows.now (in_set x)) c.nc_of.ensures) c.if-not-free.true

pub with-self-requires : goal.with-self-requires
with-self-requires c = omega (arith, c.requires.5, good_limits c.args.table c.requires.0)

pub returns-then-size-n_chk : goal.returns-then-size-n_chk
returns-then-size-n_chk c =
    let a = c.args in
    let q = c.requires in
    taken-waiting a.table a.rows.now a.log.now a.k a.round a.self.now q.0 q.7 q.2 q.3 a.site q.5 q.6 q.8 c.note_first.ensures (sym c.is_some.ensures ∙ c.if-is_some.false)
    (c.is_free-free.ensures ∙ ap (λ (x : Set). free_by a.rows.now (in_set x)) c.nc_of.ensures) c.if-not-free.false
    c.with-self.ensures c.size.ensures c.n_chk.ensures c.if-size-n_chk.true

pub note_decision-requires : goal.note_decision-requires
note_decision-requires c =
    let a = c.args in
    let q = c.requires in (
      q.0,
      q.1,
      q.7,
      counts_valid a.table a.rows.now a.log.now a.k a.round a.self.now q.0 q.7 q.2 q.3 a.site q.5 q.6 q.8 c.note_first.ensures (sym c.is_some.ensures ∙ c.if-is_some.false)
          (c.is_free-free.ensures ∙ ap (λ (x : Set). free_by a.rows.now (in_set x)) c.nc_of.ensures) c.if-not-free.false c.with-self.ensures,
    )

pub returns : goal.returns
returns c =
    let a = c.args in
    let q = c.requires in
    taken_deciding a.table a.rows.now a.log.now a.k a.round a.self.now q.0 q.7 q.2 q.3 a.site q.5 q.6 q.8 c.note_first.ensures (sym c.is_some.ensures ∙ c.if-is_some.false)
    (c.is_free-free.ensures ∙ ap (λ (x : Set). free_by a.rows.now (in_set x)) c.nc_of.ensures) c.if-not-free.false
    c.with-self.ensures c.size.ensures c.n_chk.ensures c.if-size-n_chk.false c.note_decision.ensures
