-- `judging::judge_site_and_log`: what is judged of a lent site, and then the entries before its position.
-- Assumes nothing.
use mathlib.Core.Path.{sym}
use Rattle.std.proofs.lemmas.Result.{err_from_is_err_and}
use Rattle.layout.specs.Layout.{site_size}
use Rattle.judging.proofs.Laws.{first_length, log_refused, log_sized, log_few, log_position, log_entries, log_taken}
use mathlib.Core.Path.{ap}
use mathlib.Core.Bool.{not}
use Rattle.judging.proofs.judge_site_and_log.Goals as goal

pub returns-in_err-rules : goal.returns-in_err-rules
returns-in_err-rules c =
    let a = c.args in
    let p = err_from_is_err_and c.from_residual.result c.from_residual.ensures.1 in
    rw (p.1, p.2) (log_refused a.table.now a.book.now a.enough a.site.now a.log.now c.judge_lent.ensures.0 c.in_err-rules.was, c.judge_lent.ensures.1)

pub position_of-position-requires : goal.position_of-position-requires
position_of-position-requires c = let a = c.args in sym (first_length site_size a.site.now (log_sized a.table.now a.book.now a.enough a.site.now a.log.now c.judge_lent.ensures.0 c.in_ok-rules.was))

pub judge_prefix-requires : goal.judge_prefix-requires
judge_prefix-requires c =
    let a = c.args in
    let q = c.judge_lent.ensures.0 in
    let h = c.in_ok-rules.was in
    (log_position a.table.now a.book.now a.enough a.site.now a.log.now q h c.position_of-position.ensures, log_few a.table.now a.book.now a.enough a.site.now a.log.now q h)

pub returns-then-not-judge_prefix : goal.returns-then-not-judge_prefix
returns-then-not-judge_prefix c =
    let a = c.args in (
      log_entries a.table.now a.book.now a.enough a.site.now a.log.now c.judge_lent.ensures.0 c.in_ok-rules.was c.position_of-position.ensures c.judge_prefix.ensures (ap not c.if-not-judge_prefix.true),
      c.judge_lent.ensures.1,
    )

pub returns : goal.returns
returns c =
    let a = c.args in (
      log_taken a.table.now a.book.now a.enough a.site.now a.log.now c.judge_lent.ensures.0 c.in_ok-rules.was c.position_of-position.ensures c.judge_prefix.ensures (ap not c.if-not-judge_prefix.false),
      c.judge_lent.ensures.1,
    )
