-- `judging::judge_lent`: a law for each answer.
-- Assumes nothing.
use mathlib.Core.Bool.{◌&&◌}
use lib.Dec.{leb}
use lib.ListN.{length}
use Rattle.refusals.specs.declared.Refusal.TheVariants.{Form, Range}
use Rattle.protocol.specs.System.{granted, ◌else◌⨾◌}
use Rattle.layout.specs.Layout.{site_size}
use Rattle.judging.specs.Judging.{is_site, rules_of, for_rules}
use Rattle.judging.proofs.Laws.{first_length, after_refused, rules_sized, rules_few, lent_form, lent_bad, lent_good}
use mathlib.Core.Path.{ap}
use Rattle.std.proofs.lemmas.Result.{err_from_is_err_and}
use mathlib.Core.Bool.{not}
use Rattle.judging.proofs.judge_lent.Goals as goal

pub returns-in_err-rules : goal.returns-in_err-rules
returns-in_err-rules c =
    let a = c.args in
    let p = err_from_is_err_and c.from_residual.result c.from_residual.ensures.1 in
    rw (p.1, p.2) (
      after_refused (for_rules a.table.now a.book.now (a.enough && leb site_size (length a.site.now)))
          (a.formed else Form ⨾ is_site a.table.now a.book.now a.entries a.site.now else Range ⨾ granted)
          (rules_of a.table.now a.book.now) c.judge_rules.ensures.0 c.in_err-rules.was,
      c.judge_rules.ensures.1,
    )

pub returns-then-not-formed : goal.returns-then-not-formed
returns-then-not-formed c = let a = c.args in (lent_form a.table.now a.book.now a.enough a.site.now c.judge_rules.ensures.0 c.in_ok-rules.was a.formed a.entries (ap not c.if-not-formed.true), c.judge_rules.ensures.1)

pub judge-requires : goal.judge-requires
judge-requires c = let a = c.args in rules_few a.table.now a.book.now a.enough a.site.now c.judge_rules.ensures.0 c.in_ok-rules.was

pub returns-then-not-judge : goal.returns-then-not-judge
returns-then-not-judge c =
    let a = c.args in (
      lent_bad a.table.now a.book.now a.enough a.site.now c.judge_rules.ensures.0 c.in_ok-rules.was a.formed a.entries (ap not c.if-not-formed.false) c.judge.ensures (ap not c.if-not-judge.true),
      c.judge_rules.ensures.1,
    )

pub returns : goal.returns
returns c =
    let a = c.args in (
      lent_good a.table.now a.book.now a.enough a.site.now c.judge_rules.ensures.0 c.in_ok-rules.was a.formed a.entries (ap not c.if-not-formed.false) c.judge.ensures (ap not c.if-not-judge.false),
      c.judge_rules.ensures.1,
    )

pub slice_bounds-judge-end : goal.slice_bounds-judge-end
slice_bounds-judge-end c = let a = c.args in first_length site_size a.site.now (rules_sized a.table.now a.book.now a.enough a.site.now c.judge_rules.ensures.0 c.in_ok-rules.was)
