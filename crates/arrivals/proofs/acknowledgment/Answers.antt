-- `arrivals::acknowledgment`: one law for each answer.
-- Assumes nothing.
use native.Mathlib.Omega.{arith}
use lib.Dec.{leb}
use mathlib.Core.Bool.{◌&&◌, not}
use Rattle.std.proofs.lemmas.Result.{err_from_is_err_and}
use Rattle.sets.specs.Sets.{capacity}
use Rattle.table.proofs.Laws.{good_limits}
use Rattle.arrivals.proofs.Arriving.{acknowledgment_refused, acknowledgment_never, acknowledged}
use Rattle.arrivals.proofs.Judging.{passed}
use Rattle.arrivals.proofs.acknowledgment.Goals as goal

pub returns-in_err-judge_message : goal.returns-in_err-judge_message
returns-in_err-judge_message c =
    let a = c.args in
    let p = err_from_is_err_and c.from_residual.result c.from_residual.ensures.1 in
    rw (p.1, p.2)
    (acknowledgment_refused a.rules.table a.rules.commands a.sent.now a.sites.now (λ k. (c.type_inv.sites k).fits) a.site a.from a.round a.number
    c.is_faulty-faulty.ensures c.judge_message.ensures _ c.in_err-judge_message.was)

pub acknowledgment-requires : goal.acknowledgment-requires
acknowledgment-requires c =
    let o = c in
    let a = o.args in
    let p = passed a.rules.table a.site a.from a.round (leb 1 a.number && leb a.number capacity) (not c.is_faulty-faulty.result) c.judge_message.ensures c.in_ok-judge_message.was in
    let l = good_limits a.rules.table o.requires.1 in
    let s = p.sender in
    (o.requires.2, omega arith, p.first, p.last)

pub returns-in_default : goal.returns-in_default
returns-in_default c =
    let a = c.args in
    let p = passed a.rules.table a.site a.from a.round (leb 1 a.number && leb a.number capacity) (not c.is_faulty-faulty.result) c.judge_message.ensures c.in_ok-judge_message.was in
    acknowledgment_never a.rules.table a.rules.commands a.sent.now a.sites.now (λ k. (c.type_inv.sites k).fits) a.site a.from a.round a.number
    c.is_faulty-faulty.ensures c.judge_message.ensures c.in_ok-judge_message.was p c.acknowledgment.ensures c.in_default.is

pub hear-requires : goal.hear-requires
hear-requires c =
    let o = c in
    let a = o.args in
    let p = passed a.rules.table a.site a.from a.round (leb 1 a.number && leb a.number capacity) (not c.is_faulty-faulty.result) c.judge_message.ensures c.in_ok-judge_message.was in
    let l = good_limits a.rules.table o.requires.1 in
    let s = p.sender in
    let q = p.receiver in
    (omega (arith, o.requires.0), omega arith, p.first, p.last)

pub returns : goal.returns
returns c =
    let a = c.args in
    let p = passed a.rules.table a.site a.from a.round (leb 1 a.number && leb a.number capacity) (not c.is_faulty-faulty.result) c.judge_message.ensures c.in_ok-judge_message.was in
    acknowledged a.rules.table a.rules.commands a.sent.now a.sites.now (λ k. (c.slice_known-1.given k).fits) a.site a.from a.round a.number
    c.is_faulty-faulty.ensures c.judge_message.ensures c.in_ok-judge_message.was p c.acknowledgment.ensures _ c.in-Some.is c.hear.ensures
