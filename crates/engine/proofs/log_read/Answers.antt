-- `engine::log_read`: a law for each answer.
-- Assumes nothing.
use mathlib.Core.Path.{refl, sym}
use Rattle.std.proofs.lemmas.Result.{err_from_is_err_and}
use Rattle.layout.specs.Layout.{site_size}
use Rattle.judging.proofs.Laws.{first_length}
use Rattle.engine.proofs.Reading.{read_refused, read_sized, read_range, read_early, read_done}
use mathlib.Core.Path.{ap}
use mathlib.Core.Bool.{not}
use Rattle.engine.proofs.log_read.Goals as goal

pub returns-in_err-rules : goal.returns-in_err-rules
returns-in_err-rules c =
    let a = c.args in
    let p = err_from_is_err_and c.from_residual.result c.from_residual.ensures.1 in
    rw (p.1, p.2) (read_refused a.table.now a.book.now a.site.now a.log.now c.judge_site_and_log.ensures.0 c.in_err-rules.was refl)

pub position_of-position-requires : goal.position_of-position-requires
position_of-position-requires c = let a = c.args in sym (first_length site_size a.site.now (read_sized a.table.now a.book.now a.site.now a.log.now c.judge_site_and_log.ensures.0 c.in_ok-rules.was))

pub returns-then-not-next_in_range : goal.returns-then-not-next_in_range
returns-then-not-next_in_range c = let a = c.args in read_range a.table.now a.book.now a.site.now a.log.now c.judge_site_and_log.ensures.0 c.in_ok-rules.was c.position_of-position.ensures c.next_in_range.ensures (ap not c.if-not-next_in_range.true) refl

pub read_entry-requires : goal.read_entry-requires
read_entry-requires c =
    let a = c.args in
    (sym (first_length site_size a.site.now (read_sized a.table.now a.book.now a.site.now a.log.now c.judge_site_and_log.ensures.0 c.in_ok-rules.was)), λ _. read_early a.table.now a.book.now a.site.now a.log.now c.judge_site_and_log.ensures.0 c.in_ok-rules.was)

pub returns : goal.returns
returns c = let a = c.args in read_done a.table.now a.book.now a.site.now a.log.now c.judge_site_and_log.ensures.0 c.in_ok-rules.was c.position_of-position.ensures c.next_in_range.ensures (ap not c.if-not-next_in_range.false) (λ i. (c.slice_known-1.given i).fits) c.next_is_third-third.ensures c.read_entry.ensures refl
