-- `delivering::round_end`: a law for each answer.
-- Assumes nothing.
use mathlib.Core.Path.{refl}
use Rattle.std.proofs.lemmas.Result.{err_from_is_err_and}
use Rattle.delivering.proofs.Laws.{end_refused, end_placed, end_ready, end_done}
use Rattle.delivering.proofs.round_end.Goals as goal

pub returns-in_err-rules : goal.returns-in_err-rules
returns-in_err-rules c =
    let a = c.args in
    let p = err_from_is_err_and c.from_residual.result c.from_residual.ensures.1 in
    rw (p.1, p.2) (end_refused a.table.now a.book.now a.site.now a.log.now c.judge_site_and_log.ensures.0 c.in_err-rules.was refl)

pub conflict_rows-requires : goal.conflict_rows-requires
conflict_rows-requires c =
    let a = c.args in
    let e = c.judge_site_and_log.ensures in
    end_placed a.table.now a.book.now a.site.now a.log.now e.0 c.in_ok-rules.was e.1

pub end_round-requires : goal.end_round-requires
end_round-requires c =
    let a = c.args in
    let e = c.judge_site_and_log.ensures in
    end_ready a.table.now a.book.now a.site.now a.log.now e.0 c.in_ok-rules.was e.1 c.conflict_rows.ensures

pub returns : goal.returns
returns c = let a = c.args in end_done a.table.now a.book.now a.site.now a.log.now c.judge_site_and_log.ensures.0 c.in_ok-rules.was (λ i. (c.slice_known-1.given i).fits) c.end_round.ensures refl
