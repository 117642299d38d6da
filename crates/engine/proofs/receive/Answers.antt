-- `engine::receive`: a law for each answer.
-- Assumes nothing.
use mathlib.Core.Path.{refl, sym}
use Rattle.std.proofs.lemmas.Result.{err_from_is_err_and}
use Rattle.layout.specs.Layout.{site_size}
use Rattle.judging.proofs.Laws.{first_length}
use Rattle.engine.proofs.Laws.{message_refused, message_formed, message_sized, message_range, message_ready, message_taken}
use mathlib.Core.Path.{ap}
use mathlib.Core.Bool.{not}
use Rattle.engine.proofs.receive.Goals as goal

pub returns-in_err-rules : goal.returns-in_err-rules
returns-in_err-rules c =
    let a = c.args in
    let p = err_from_is_err_and c.from_residual.result c.from_residual.ensures.1 in
    rw (p.1, p.2) (message_refused a.table.now a.book.now a.site.now a.message.now a.sender c.is_message-formed.ensures c.judge_site_and_message.ensures.0 c.in_err-rules.was refl)

pub read-said-requires : goal.read-said-requires
read-said-requires c = let a = c.args in message_formed a.table.now a.book.now a.site.now a.message.now a.sender c.is_message-formed.ensures c.judge_site_and_message.ensures.0 c.in_ok-rules.was

pub returns-then-not-in_range : goal.returns-then-not-in_range
returns-then-not-in_range c = let a = c.args in message_range a.table.now a.book.now a.site.now a.message.now a.sender c.is_message-formed.ensures c.judge_site_and_message.ensures.0 c.in_ok-rules.was c.read-said.ensures c.in_range.ensures (ap not c.if-not-in_range.true) refl

pub take_message-requires : goal.take_message-requires
take_message-requires c =
    let a = c.args in
    let h = message_ready a.table.now a.book.now a.site.now a.message.now a.sender c.is_message-formed.ensures c.judge_site_and_message.ensures.0 c.in_ok-rules.was c.read-said.ensures c.in_range.ensures (ap not c.if-not-in_range.false) in
    (sym (first_length site_size a.site.now (message_sized a.table.now a.book.now a.site.now a.message.now a.sender c.is_message-formed.ensures c.judge_site_and_message.ensures.0 c.in_ok-rules.was)), h.0, h.1, h.2)

pub returns : goal.returns
returns c = let a = c.args in message_taken a.table.now a.book.now a.site.now a.message.now a.sender c.is_message-formed.ensures c.judge_site_and_message.ensures.0 c.in_ok-rules.was c.read-said.ensures c.in_range.ensures (ap not c.if-not-in_range.false) _ c.take_message.ensures

pub slice_bounds-take_message-end-2 : goal.slice_bounds-take_message-end-2
slice_bounds-take_message-end-2 c = let a = c.args in first_length site_size a.site.now (message_sized a.table.now a.book.now a.site.now a.message.now a.sender c.is_message-formed.ensures c.judge_site_and_message.ensures.0 c.in_ok-rules.was)
