-- `delivering::fast_delivery`: a law for each answer.
-- Assumes nothing.
use mathlib.Core.Path.{refl, sym}
use Rattle.std.proofs.lemmas.Result.{err_from_is_err_and}
use Rattle.judging.proofs.Laws.{no_places, full_room}
use Rattle.delivering.proofs.Laws.{fast_refused, fast_range, fast_ready, fast_done}
use Rattle.delivering.proofs.fast_delivery.Goals as goal

pub returns-in_err-rules : goal.returns-in_err-rules
returns-in_err-rules c =
    let a = c.args in
    let p = err_from_is_err_and c.from_residual.result c.from_residual.ensures.1 in
    rw (p.1, p.2) (fast_refused a.table.now a.book.now a.site.now a.command c.judge_site.ensures.0 c.in_err-rules.was refl)

pub returns-then-command-rules : goal.returns-then-command-rules
returns-then-command-rules c = let a = c.args in fast_range a.table.now a.book.now a.site.now a.command c.judge_site.ensures.0 c.in_ok-rules.was c.if-command-rules.true refl

pub invariant_of-book : goal.invariant_of-book
invariant_of-book c =
    let a = c.args in
    let w = fast_ready a.table.now a.book.now a.site.now a.command c.judge_site.ensures.0 c.in_ok-rules.was c.if-command-rules.false no_places full_room c.judge_site.ensures.1 in
    record { counted = sym w.3; placed = w.2 }

pub fast_delivery-requires : goal.fast_delivery-requires
fast_delivery-requires c =
    let a = c.args in
    let w = fast_ready a.table.now a.book.now a.site.now a.command c.judge_site.ensures.0 c.in_ok-rules.was c.if-command-rules.false no_places full_room c.judge_site.ensures.1 in
    (w.0, w.1, w.4)

pub returns : goal.returns
returns c = let a = c.args in fast_done a.table.now a.book.now a.site.now a.command c.judge_site.ensures.0 c.in_ok-rules.was c.if-command-rules.false (λ i. (c.slice_known-1.given i).fits) c.fast_delivery.ensures refl
