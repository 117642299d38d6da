-- `turning::turn`: a law for each answer.
-- Assumes nothing.
use mathlib.Core.Path.{refl, sym, ap, ◌∙◌}
use lib.ListN.{length}
use Rattle.judging.specs.Outcomes.{outcome}
use Rattle.std.proofs.lemmas.Result.{err_from_is_err_and}
use Rattle.layout.specs.Layout.{site_size}
use Rattle.conflicts.proofs.Laws.{rows_size}
use Rattle.judging.proofs.Laws.{first_length}
use Rattle.layout.specs.declared.Site.{Site}
use Rattle.turning.proofs.Laws.{turn_refused, turn_range, turn_sized, turn_placed, turn_rows, turn_room, turn_own, turn_done, answered_turn}
use Rattle.turning.proofs.turn.Goals as goal

pub returns-in_err-rules : goal.returns-in_err-rules
returns-in_err-rules c =
    let a = c.args in
    let p = err_from_is_err_and c.from_residual.result c.from_residual.ensures.1 in
    rw (p.1, p.2) (turn_refused a.table.now a.book.now a.site.now a.log.now a.own a.message.now a.entry.now c.judge_site_and_log.ensures.0 c.in_err-rules.was refl)

pub returns-then-own-rules : goal.returns-then-own-rules
returns-then-own-rules c = let a = c.args in turn_range a.table.now a.book.now a.site.now a.log.now a.own a.message.now a.entry.now c.judge_site_and_log.ensures.0 c.in_ok-rules.was c.if-own-rules.true refl

pub conflict_rows-requires : goal.conflict_rows-requires
conflict_rows-requires c =
    let a = c.args in
    let e = c.judge_site_and_log.ensures in
    turn_placed a.table.now a.book.now a.site.now a.log.now a.own a.message.now a.entry.now e.0 c.in_ok-rules.was e.1

pub read-header-requires : goal.read-header-requires
read-header-requires c = let a = c.args in sym (first_length site_size a.site.now (turn_sized a.table.now a.book.now a.site.now a.log.now a.own a.message.now a.entry.now c.judge_site_and_log.ensures.0 c.in_ok-rules.was))

pub take_turn-requires : goal.take_turn-requires
take_turn-requires c =
    let a = c.args in
    let e = c.judge_site_and_log.ensures in
    let h = c.in_ok-rules.was in
    let r = turn_rows a.table.now a.book.now a.site.now a.log.now a.own a.message.now a.entry.now e.0 h e.1 c.conflict_rows.ensures in (
      sym (first_length site_size a.site.now (turn_sized a.table.now a.book.now a.site.now a.log.now a.own a.message.now a.entry.now e.0 h)),
      ap length r ∙ rows_size a.book.now,
    )

pub send-requires : goal.send-requires
send-requires c =
    let a = c.args in
    let room = turn_room a.table.now a.book.now a.site.now a.log.now a.own a.message.now a.entry.now c.judge_site_and_log.ensures.0 c.in_ok-rules.was in
    (room.0, room.1, turn_own a.table.now a.book.now a.site.now a.log.now a.own a.message.now a.entry.now c.judge_site_and_log.ensures.0 c.in_ok-rules.was c.if-own-rules.false)

pub returns-in_err-turn : goal.returns-in_err-turn
returns-in_err-turn c =
    let a = c.args in
    let e = c.judge_site_and_log.ensures in
    let h = c.in_ok-rules.was in
    let r = turn_rows a.table.now a.book.now a.site.now a.log.now a.own a.message.now a.entry.now e.0 h e.1 c.conflict_rows.ensures in
    let p = err_from_is_err_and c.from_residual-in_err-turn.result c.from_residual-in_err-turn.ensures.1 in
    rw (p.1, p.2)
    (turn_done a.table.now a.book.now a.site.now a.log.now a.own a.message.now a.entry.now e.0 h c.if-own-rules.false (λ i. (c.slice_known-1.given i).fits) (ap (λ (h : Site). h.round) c.read-header.ensures)
    r c.take_turn.ensures (ap (answered_turn a.own c.read-header.result.round a.message.now a.entry.now) (sym c.in_err-turn.was)))

pub returns : goal.returns
returns c =
    let a = c.args in
    let e = c.judge_site_and_log.ensures in
    let h = c.in_ok-rules.was in
    let r = turn_rows a.table.now a.book.now a.site.now a.log.now a.own a.message.now a.entry.now e.0 h e.1 c.conflict_rows.ensures in
    turn_done a.table.now a.book.now a.site.now a.log.now a.own a.message.now a.entry.now e.0 h c.if-own-rules.false (λ i. (c.slice_known-1.given i).fits) (ap (λ (h : Site). h.round) c.read-header.ensures)
    r c.take_turn.ensures (ap (outcome 0) c.send.ensures ∙ ap (answered_turn a.own c.read-header.result.round a.message.now a.entry.now) (sym c.in_ok-turn.was))
