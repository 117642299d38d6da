-- `arrivals::false_acknowledgment`: one law for each answer.
-- Assumes nothing.
use native.Mathlib.Omega.{arith}
use Rattle.std.proofs.lemmas.Result.{err_from_is_err_and}
use Rattle.sets.specs.Sets.{within_of}
use Rattle.table.specs.Table.{faulty_of}
use Rattle.table.proofs.Laws.{good_limits}
use Rattle.arrivals.proofs.Arriving.{false_acknowledgment_refused, false_acknowledged}
use Rattle.arrivals.proofs.Judging.{passed}
use Rattle.arrivals.proofs.false_acknowledgment.Goals as goal

pub returns-in_err-judge_false : goal.returns-in_err-judge_false
returns-in_err-judge_false c =
    let a = c.args in
    let p = err_from_is_err_and c.from_residual.result c.from_residual.ensures.1 in
    rw (p.1, p.2) (λ sent. false_acknowledgment_refused a.rules.table a.rules.commands sent a.sites.now (λ k. (c.type_inv.sites k).fits) a.site a.from a.round a.set c.judge_false.ensures _ c.in_err-judge_false.was)

pub hear-requires : goal.hear-requires
hear-requires c =
    let o = c in
    let a = o.args in
    let p = passed a.rules.table a.site a.from a.round (within_of a.set a.rules.commands) (faulty_of a.rules.table a.from) c.judge_false.ensures c.in_ok-judge_false.was in
    let q = p.receiver in
    let l = good_limits a.rules.table o.requires.1 in
    let s = p.sender in
    (omega (arith, o.requires.0), omega arith, p.first, p.last)

pub returns : goal.returns
returns c =
    let a = c.args in
    λ sent. false_acknowledged a.rules.table a.rules.commands sent a.sites.now (λ k. (c.slice_known-1.given k).fits) a.site a.from a.round a.set c.judge_false.ensures c.in_ok-judge_false.was
    (passed a.rules.table a.site a.from a.round (within_of a.set a.rules.commands) (faulty_of a.rules.table a.from) c.judge_false.ensures c.in_ok-judge_false.was) c.hear.ensures
