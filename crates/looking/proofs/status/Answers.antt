-- `looking::status`: a law for each answer.
-- Assumes nothing.
use mathlib.Core.Path.{refl, sym}
use Rattle.std.proofs.lemmas.Result.{err_from_is_err_and}
use Rattle.layout.specs.Layout.{site_size}
use Rattle.judging.proofs.Laws.{first_length}
use Rattle.looking.proofs.Laws.{status_refused, status_sized, status_few, status_room, status_taken}
use Rattle.looking.proofs.status.Goals as goal

pub returns-in_err-judge_site : goal.returns-in_err-judge_site
returns-in_err-judge_site c =
    let a = c.args in
    let p = err_from_is_err_and c.from_residual.result c.from_residual.ensures.1 in
    rw (p.1, p.2) (status_refused a.table.now a.book.now a.site.now a.out.now c.judge_site.ensures.0 c.in_err-judge_site.was refl)

pub write_status-requires : goal.write_status-requires
write_status-requires c =
    let a = c.args in
    let e = c.judge_site.ensures.0 in
    let h = c.in_ok-judge_site.was in
    (sym (first_length site_size a.site.now (status_sized a.table.now a.book.now a.site.now a.out.now e h)), status_few a.table.now a.book.now a.site.now a.out.now e h, status_room a.table.now a.book.now a.site.now a.out.now e h)

pub returns : goal.returns
returns c = let a = c.args in status_taken a.table.now a.book.now a.site.now a.out.now c.judge_site.ensures.0 c.in_ok-judge_site.was c.write_status.ensures
