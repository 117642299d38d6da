-- `arrivals::check`: one law for each answer.
-- Assumes nothing.
use native.Mathlib.Omega.{arith}
use mathlib.Core.Bool.{true, not}
use Rattle.std.proofs.lemmas.Result.{err_from_is_err_and}
use Rattle.table.proofs.Laws.{good_limits}
use Rattle.arrivals.proofs.Arriving.{check_refused, check_never, checked}
use Rattle.arrivals.proofs.Judging.{passed}
use Rattle.arrivals.proofs.check.Goals as goal

pub returns-in_err-judge_message : goal.returns-in_err-judge_message
returns-in_err-judge_message c =
    let a = c.args in
    let p = err_from_is_err_and c.from_residual.result c.from_residual.ensures.1 in
    rw (p.1, p.2)
    (check_refused a.rules.table a.rules.commands a.sent.now a.sites.now (λ k. (c.type_inv.sites k).fits) a.site a.from a.round
    c.is_faulty-faulty.ensures c.judge_message.ensures _ c.in_err-judge_message.was)

pub check-requires : goal.check-requires
check-requires c =
    let o = c in
    let a = o.args in
    let p = passed a.rules.table a.site a.from a.round true (not c.is_faulty-faulty.result) c.judge_message.ensures c.in_ok-judge_message.was in
    let l = good_limits a.rules.table o.requires.1 in
    let s = p.sender in
    (o.requires.2, omega arith, p.first, p.last)

pub returns-in_default : goal.returns-in_default
returns-in_default c =
    let a = c.args in
    check_never a.rules.table a.rules.commands a.sent.now a.sites.now (λ k. (c.type_inv.sites k).fits) a.site a.from a.round
    c.is_faulty-faulty.ensures c.judge_message.ensures c.in_ok-judge_message.was c.check.ensures c.in_default.is

pub receive-requires : goal.receive-requires
receive-requires c =
    let o = c in
    let a = o.args in
    let p = passed a.rules.table a.site a.from a.round true (not c.is_faulty-faulty.result) c.judge_message.ensures c.in_ok-judge_message.was in
    let q = p.receiver in
    omega (arith, o.requires.0)

pub returns : goal.returns
returns c =
    let a = c.args in
    checked a.rules.table a.rules.commands a.sent.now a.sites.now (λ k. (c.slice_known-1.given k).fits) a.site a.from a.round
    c.is_faulty-faulty.ensures c.judge_message.ensures c.in_ok-judge_message.was c.check.ensures
    (passed a.rules.table a.site a.from a.round true (not c.is_faulty-faulty.result) c.judge_message.ensures c.in_ok-judge_message.was) _ c.in-Some.is c.receive.ensures
