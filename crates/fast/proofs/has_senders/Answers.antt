-- `fast::has_senders`: the invariant is that the senders so far are counted, and that they are too few.
-- Rests on Judging.
use mathlib.Core.Path.{sym, ap}
use native.Mathlib.Omega.{arith}
use borrow.Author.Rules.{rules}
use Rattle.theory.specs.Counting.{count_none}
use Rattle.layout.specs.declared.Site.{Site}
use Rattle.layout.proofs.Encode.{spanned}
use Rattle.fast.proofs.Judging.{past-rows, sender_more, enough-senders, few_senders}
use Rattle.fast.proofs.has_senders.Goals as goal

pub returns-then-round-header : goal.returns-then-round-header
returns-then-round-header c =
    let s = c in
    let a = s.args in
    let none = past-rows a.site.now a.header.round a.m (ap (λ (h : Site). h.span) s.requires.1) c.if-round-header.true in
    few_senders a.site.now a.header.round a.m a.needed none (search rules)

pub loop-sender-init : goal.loop-sender-init
loop-sender-init c = (sym (count_none _), search rules)

pub returns-then-n-needed : goal.returns-then-n-needed
returns-then-n-needed c =
    let l = c.loop-sender in
    let a = c.args in
    let e = ap (λ (h : Site). h.span) c.requires.1 in
    let k = spanned a.site.now in
    let more = sender_more a.site.now a.header.round a.m l.sender (omega arith) (omega arith) (omega arith) l.invariant.0 c.heard-set.ensures c.holds.ensures c.one-n.ensures.0 in
    enough-senders a.site.now a.header.round a.m l.sender a.needed (omega arith) more (let h = c.if-n-needed.true in omega arith)

pub loop-sender-preserved : goal.loop-sender-preserved
loop-sender-preserved c =
    let l = c.loop-sender in
    let a = c.args in
    let e = ap (λ (h : Site). h.span) c.requires.1 in
    let k = spanned a.site.now in (
      sender_more a.site.now a.header.round a.m l.sender (omega arith) (omega arith) (omega arith) l.invariant.0 c.heard-set.ensures c.holds.ensures c.one-n.ensures.0,
      omega arith,
    )
