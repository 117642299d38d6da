-- `run::run`: a buffer too short, a run refused, a run played.
-- Assumes nothing.
use mathlib.Core.Path.{refl, sym, ap, ◌∙◌}
use native.Mathlib.Omega.{arith}
use lib.ListN.{length}
use Rattle.std.proofs.Common.{rules}
use Rattle.print.proofs.Laws.{left_there}
use Rattle.refusals.specs.Numbers.{number_short}
use Rattle.table.specs.Table.{is_good}
use Rattle.commands.specs.Book.{max_commands}
use Rattle.conflicts.proofs.Laws.{all_noted, rows_part, rows-room}
use Rattle.lines.proofs.Laws.{refused_short}
use Rattle.header.proofs.Laws.{sound, book_part, step_part, judged_taken, judged_table, judged_end, judged_refused}
use Rattle.run.specs.Ran.{working}
use Rattle.run.proofs.Laws.{steps_short, print_refused, print_taken, placed_part, roomy_told, no_room, with-room, refused_left, played_left}
use Rattle.run.proofs.run.Goals as goal

pub returns-then-not-has_room : goal.returns-then-not-has_room
returns-then-not-has_room c =
    let a = c.args in
    no_room a.input.now (working a.sites.now a.log.now a.sent.now) a.out.now (sym c.has_room.ensures ∙ c.if-not-has_room.true)

pub conflict_rows-requires : goal.conflict_rows-requires
conflict_rows-requires c =
    let r = c.args.input.now in
    let q = sym c.in-Ok.is ∙ c.judge_run.ensures.0 in
    placed_part r (book_part r (judged_end r q)) q c.judge_run.ensures.1

pub print_in-requires : goal.print_in-requires
print_in-requires c =
    let a = c.args in
    let r = a.input.now in
    let q = sym c.in-Ok.is ∙ c.judge_run.ensures.0 in
    let s = sound r (judged_taken r q).0 in
    let room = roomy_told (working a.sites.now a.log.now a.sent.now) a.out.now (sym c.has_room.ensures ∙ c.if-not-has_room.false) in
    let e = judged_end r q in
    let p = placed_part r (book_part r e) q c.judge_run.ensures.1 in
    let w = all_noted _ _ p.0 p.2 c.conflict_rows.ensures in
    (record { good = ap is_good (judged_table r q) ∙ s.table; short = steps_short r s e; room = omega (arith, room.1, c.new-text.ensures.end, ap length c.new-text.ensures.now) }, room.0, rows_part _ c.conflict_rows.new.noted w.rows max_commands (omega arith) ∙ w.rows, refl)

pub put_refused_line-requires : goal.put_refused_line-requires
put_refused_line-requires c =
    let a = c.args in
    let room = roomy_told (working a.sites.now a.log.now a.sent.now) a.out.now (sym c.has_room.ensures ∙ c.if-not-has_room.false) in
    omega (arith, room.1, c.new-text.ensures.end, ap length c.new-text.ensures.now, refused_short c.from-cause.result (omega (arith, number_short c.in-Err.refusal, c.from-cause.ensures)))

pub returns-in-Ok : goal.returns-in-Ok
returns-in-Ok c =
    let a = c.args in
    let r = a.input.now in
    let w = (working a.sites.now a.log.now a.sent.now) in
    let o = a.out.now in
    let p = c.print_in in
    let q = sym c.in-Ok.is ∙ c.judge_run.ensures.0 in
    let e = judged_end r q in
    let t = judged_table r q in
    let taken = (judged_taken r q).0 in
    let room = sym c.has_room.ensures ∙ c.if-not-has_room.false in (
      with-room r w o room (print_taken r taken t (book_part r e) (step_part r e) (left_there c.new-text.ensures.now c.new-text.ensures.end p.ensures.0 c.end.ensures (search rules))),
      played_left r w o room taken t (book_part r e) (step_part r e) p.ensures.1,
    )

pub returns-in-Err : goal.returns-in-Err
returns-in-Err c =
    let a = c.args in
    let r = a.input.now in
    let w = (working a.sites.now a.log.now a.sent.now) in
    let o = a.out.now in
    let refused = judged_refused r (sym c.in-Err.is ∙ c.judge_run.ensures.0) in (
      with-room r w o (sym c.has_room.ensures ∙ c.if-not-has_room.false) (print_refused r c.in-Err.refusal refused c.from-cause.ensures (left_there c.new-text.ensures.now c.new-text.ensures.end c.put_refused_line.ensures c.end-in-Err.ensures (search rules))),
      refused_left r w o c.in-Err.refusal refused,
    )

pub slice_bounds-bytes-count : goal.slice_bounds-bytes-count
slice_bounds-bytes-count c =
    let r = c.args.input.now in
    let q = sym c.in-Ok.is ∙ c.judge_run.ensures.0 in
    omega (arith, judged_end r q)

pub slice_bounds-bytes-start : goal.slice_bounds-bytes-start
slice_bounds-bytes-start c =
    let r = c.args.input.now in
    let q = sym c.in-Ok.is ∙ c.judge_run.ensures.0 in
    omega (arith, judged_end r q)

pub slice_bounds-bytes-end : goal.slice_bounds-bytes-end
slice_bounds-bytes-end c =
    let r = c.args.input.now in
    let q = sym c.in-Ok.is ∙ c.judge_run.ensures.0 in
    let s = sound r (judged_taken r q).0 in
    omega (arith, judged_end r q, s.end)

pub slice_bounds-steps-count : goal.slice_bounds-steps-count
slice_bounds-steps-count c =
    let r = c.args.input.now in
    let q = sym c.in-Ok.is ∙ c.judge_run.ensures.0 in
    let s = sound r (judged_taken r q).0 in
    omega (arith, judged_end r q, s.end)

pub slice_bounds-steps-start : goal.slice_bounds-steps-start
slice_bounds-steps-start c =
    let r = c.args.input.now in
    let q = sym c.in-Ok.is ∙ c.judge_run.ensures.0 in
    let s = sound r (judged_taken r q).0 in
    omega (arith, judged_end r q, s.end)

pub invariant_of-book : goal.invariant_of-book
invariant_of-book c =
    let r = c.args.input.now in
    let q = sym c.in-Ok.is ∙ c.judge_run.ensures.0 in
    let p = placed_part r (book_part r (judged_end r q)) q c.judge_run.ensures.1 in
    let w = all_noted _ _ p.0 p.2 c.conflict_rows.ensures in
    record { counted = p.1; placed = w.places }

pub slice_bounds-rows-count : goal.slice_bounds-rows-count
slice_bounds-rows-count c =
    let r = c.args.input.now in
    let q = sym c.in-Ok.is ∙ c.judge_run.ensures.0 in
    let p = placed_part r (book_part r (judged_end r q)) q c.judge_run.ensures.1 in
    let w = all_noted _ _ p.0 p.2 c.conflict_rows.ensures in
    omega (arith, rows-room _ c.conflict_rows.new.noted w.rows)

pub slice_bounds-rows-start : goal.slice_bounds-rows-start
slice_bounds-rows-start c =
    let r = c.args.input.now in
    let q = sym c.in-Ok.is ∙ c.judge_run.ensures.0 in
    let p = placed_part r (book_part r (judged_end r q)) q c.judge_run.ensures.1 in
    let w = all_noted _ _ p.0 p.2 c.conflict_rows.ensures in
    omega (arith, rows-room _ c.conflict_rows.new.noted w.rows)
