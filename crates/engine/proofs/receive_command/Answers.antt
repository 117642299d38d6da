-- `engine::receive_command`: a law for each answer.
-- Assumes nothing.
use mathlib.Core.Path.{refl, sym}
use Rattle.std.proofs.lemmas.Result.{err_from_is_err_and}
use Rattle.layout.specs.Layout.{site_size}
use Rattle.judging.proofs.Laws.{first_length}
use Rattle.engine.proofs.Laws.{sized, command_refused, command_below, command_range, command_taken}
use Rattle.engine.proofs.receive_command.Goals as goal

pub returns-in_err-rules : goal.returns-in_err-rules
returns-in_err-rules c =
    let a = c.args in
    let p = err_from_is_err_and c.from_residual.result c.from_residual.ensures.1 in
    rw (p.1, p.2) (command_refused a.table.now a.book.now a.site.now c.judge_site.ensures.0 a.command c.in_err-rules.was refl)

pub returns-then-command-rules : goal.returns-then-command-rules
returns-then-command-rules c = let a = c.args in command_range a.table.now a.book.now a.site.now c.judge_site.ensures.0 a.command c.in_ok-rules.was c.if-command-rules.true refl

pub receive_command-requires : goal.receive_command-requires
receive_command-requires c =
    let a = c.args in
    (sym (first_length site_size a.site.now (sized a.table.now a.book.now a.site.now c.judge_site.ensures.0 c.in_ok-rules.was)), command_below a.table.now a.book.now a.site.now c.judge_site.ensures.0 a.command c.in_ok-rules.was c.if-command-rules.false)

pub returns : goal.returns
returns c = let a = c.args in command_taken a.table.now a.book.now a.site.now c.judge_site.ensures.0 a.command c.in_ok-rules.was c.if-command-rules.false c.receive_command.ensures
