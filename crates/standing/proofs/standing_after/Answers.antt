-- `standing_after` meets its contract: the sources stand as after the first i entries, which do not decide the round.
-- Assumes nothing.
use Prim.Native.Nat.{◌+◌}
use native.Mathlib.Omega.{arith}
use Rattle.standing.proofs.Steps.{standing_before, standing_told, standing_counted, standing_passed, standing_stays}
use Rattle.standing.proofs.standing_after.Goals as goal
use Rattle.standing.proofs.standing_after.Goals.{then-round_of-round+else-sources, else-round_of-round}

pub loop-i-init : goal.loop-i-init
loop-i-init c =
    let a = c.args in
    standing_before a.table a.rows.now a.round a.log.now a.from c.requires.4 c.nobody_yet-sources.ensures

pub returns-then-sources : goal.returns-then-sources
returns-then-sources c =
    let a = c.args in
    let l = c.loop-i in
    let s = standing_told a.table a.rows.now a.round a.log.now l.i l.sources l.invariant.0 l.invariant.1 c.nc_of.ensures c.is_free-free.ensures c.with_entry-sources.ensures in
    standing_stays a.table a.rows.now a.round a.log.now (l.i + 1) a.k (omega arith) c.with_entry-sources.result s c.if-sources.true

pub loop-i-preserved : goal.loop-i-preserved
loop-i-preserved c =
    let a = c.args in
    let l = c.loop-i in
    elim c.if-round_of-round.branch [
      | then-round_of-round+else-sources w ↦
          standing_counted a.table a.rows.now a.round a.log.now l.i l.sources l.invariant.0 l.invariant.1 w.nc_of.ensures w.is_free-free.ensures w.with_entry-sources.ensures w.if-sources.false w.sources-is
      | else-round_of-round w ↦
          standing_passed a.table a.rows.now a.round a.log.now l.i l.sources l.invariant.0 l.invariant.1 c.round_of.ensures w.if-round_of-round.false w.sources-is
    ]
