-- `looking::bike`: a law for each answer.
-- Assumes nothing.
use mathlib.Core.Path.{refl, sym}
use Rattle.std.proofs.lemmas.Result.{err_from_is_err_and}
use Rattle.layout.specs.Layout.{site_size}
use Rattle.judging.proofs.Laws.{first_length}
use Rattle.looking.proofs.Laws.{bike_refused, bike_range, bike_sized, bike-room, bike-taken}
use Rattle.looking.proofs.bike.Goals as goal

pub returns-in_err-judge_site : goal.returns-in_err-judge_site
returns-in_err-judge_site c =
    let a = c.args in
    let p = err_from_is_err_and c.from_residual.result c.from_residual.ensures.1 in
    rw (p.1, p.2) (bike_refused a.table.now a.book.now a.site.now a.bike a.out.now c.judge_site.ensures.0 c.in_err-judge_site.was refl)

pub returns-then-bike-ge-COUNT : goal.returns-then-bike-ge-COUNT
returns-then-bike-ge-COUNT c = let a = c.args in bike_range a.table.now a.book.now a.site.now a.bike a.out.now c.judge_site.ensures.0 c.in_ok-judge_site.was c.if-bike-ge-COUNT.true refl

pub write_bike-requires : goal.write_bike-requires
write_bike-requires c =
    let a = c.args in
    let e = c.judge_site.ensures.0 in
    let h = c.in_ok-judge_site.was in
    (sym (first_length site_size a.site.now (bike_sized a.table.now a.book.now a.site.now a.bike a.out.now e h)), c.if-bike-ge-COUNT.false, bike-room a.table.now a.book.now a.site.now a.bike a.out.now e h)

pub returns : goal.returns
returns c = let a = c.args in bike-taken a.table.now a.book.now a.site.now a.bike a.out.now c.judge_site.ensures.0 c.in_ok-judge_site.was c.if-bike-ge-COUNT.false c.write_bike.ensures
