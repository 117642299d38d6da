-- `header::judge_run`: a law for each answer.
-- Assumes nothing.
use mathlib.Core.Path.{sym, ◌∙◌}
use Rattle.std.proofs.lemmas.Result.{err_from_is_err_and}
use Rattle.header.proofs.Laws.{too_long, header_cut, bad_table, good_table, book_cut, header_taken, book_part, run_refused, run-counted, run_unreadable}
use Rattle.header.proofs.judge_run.Goals as goal

pub returns-then-n-gt-MAX_RUN : goal.returns-then-n-gt-MAX_RUN
returns-then-n-gt-MAX_RUN c = let a = c.args in run_refused a.run.now a.places.now (sym (too_long a.run.now c.if-n-gt-MAX_RUN.true))

pub returns-then-n-lt-HEADER : goal.returns-then-n-lt-HEADER
returns-then-n-lt-HEADER c = let a = c.args in run_refused a.run.now a.places.now (sym (header_cut a.run.now c.if-n-gt-MAX_RUN.false c.if-n-lt-HEADER.true))

pub returns-in_err-table : goal.returns-in_err-table
returns-in_err-table c =
    let a = c.args in
    let p = err_from_is_err_and c.from_residual.result c.from_residual.ensures.1 in
    rw (p.1, p.2)
    (run_refused a.run.now a.places.now
    (sym (bad_table a.run.now c.if-n-gt-MAX_RUN.false c.if-n-lt-HEADER.false (sym c.read_marked.ensures ∙ c.in_err-table.was))))

pub returns-then-steps-n : goal.returns-then-steps-n
returns-then-steps-n c =
    let a = c.args in
    run_refused a.run.now a.places.now
    (sym (book_cut a.run.now c.if-n-gt-MAX_RUN.false c.if-n-lt-HEADER.false (sym c.read_marked.ensures ∙ c.in_ok-table.was) c.book_end-steps.ensures c.if-steps-n.true))

pub returns-in_default : goal.returns-in_default
returns-in_default c =
    let a = c.args in
    let h = sym (header_taken a.run.now c.if-n-gt-MAX_RUN.false c.if-n-lt-HEADER.false (sym c.read_marked.ensures ∙ c.in_ok-table.was) c.book_end-steps.ensures c.if-steps-n.false) in
    run_unreadable a.run.now a.places.now h (book_part a.run.now c.book_end-steps.ensures) c.note.ensures.1 (sym c.note.ensures.0 ∙ c.in_default.is)

pub returns : goal.returns
returns c =
    let a = c.args in
    let t = sym c.read_marked.ensures ∙ c.in_ok-table.was in
    let h = sym (header_taken a.run.now c.if-n-gt-MAX_RUN.false c.if-n-lt-HEADER.false t c.book_end-steps.ensures c.if-steps-n.false) in
    run-counted a.run.now a.places.now h (book_part a.run.now c.book_end-steps.ensures) c.note.ensures.1 (sym c.note.ensures.0 ∙ c.in-Some.is)
    (good_table a.run.now c.if-n-gt-MAX_RUN.false c.if-n-lt-HEADER.false t).1 c.book_end-steps.ensures
