-- `looking::delivery`: a law for each answer.
-- Assumes nothing.
use mathlib.Core.Path.{refl, sym}
use Rattle.std.proofs.lemmas.Result.{err_from_is_err_and}
use Rattle.layout.specs.Layout.{site_size}
use Rattle.judging.proofs.Laws.{first_length}
use Rattle.looking.proofs.Laws.{delivery_refused, delivery_sized, delivery_room, delivery_below, delivery_range, delivery_taken}
use Rattle.looking.proofs.delivery.Goals as goal

pub returns-in_err-judge_site : goal.returns-in_err-judge_site
returns-in_err-judge_site c =
    let a = c.args in
    let p = err_from_is_err_and c.from_residual.result c.from_residual.ensures.1 in
    rw (p.1, p.2) (delivery_refused a.table.now a.book.now a.site.now a.k a.out.now c.judge_site.ensures.0 c.in_err-judge_site.was refl)

pub count-requires : goal.count-requires
count-requires c = let a = c.args in sym (first_length site_size a.site.now (delivery_sized a.table.now a.book.now a.site.now a.k a.out.now c.judge_site.ensures.0 c.in_ok-judge_site.was))

pub returns-then-k-count : goal.returns-then-k-count
returns-then-k-count c = let a = c.args in delivery_range a.table.now a.book.now a.site.now a.k a.out.now c.judge_site.ensures.0 c.in_ok-judge_site.was c.count.ensures c.if-k-count.true refl

pub write_delivery-requires : goal.write_delivery-requires
write_delivery-requires c =
    let a = c.args in
    let e = c.judge_site.ensures.0 in
    let h = c.in_ok-judge_site.was in
    (sym (first_length site_size a.site.now (delivery_sized a.table.now a.book.now a.site.now a.k a.out.now e h)), delivery_below a.table.now a.book.now a.site.now a.k a.out.now e h c.count.ensures c.if-k-count.false, delivery_room a.table.now a.book.now a.site.now a.k a.out.now e h)

pub returns : goal.returns
returns c = let a = c.args in delivery_taken a.table.now a.book.now a.site.now a.k a.out.now c.judge_site.ensures.0 c.in_ok-judge_site.was c.count.ensures c.if-k-count.false c.write_delivery.ensures
