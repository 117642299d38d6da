-- `entries_of` meets its contract: the entries counted are those among the first i.
-- Assumes nothing.
use native.Mathlib.Omega.{arith}
use lib.Dec.{eqb}
use mathlib.Core.Bool.{◌&&◌}
use Rattle.theory.specs.Counting.{one_le}
use Rattle.entries.specs.Entries.{entry_of}
use Rattle.entries.proofs.Judging.{entries_none, entries_next}
use Rattle.entries.proofs.entries_of.Goals as goal

pub loop-i-init : goal.loop-i-init
loop-i-init c = let a = c.args in (omega arith, entries_none a.log.now a.site a.round)

pub loop-i-preserved : goal.loop-i-preserved
loop-i-preserved c =
    let a = c.args in
    let l = c.loop-i in
    let few = one_le (eqb (entry_of a.log.now l.i).site a.site && eqb (entry_of a.log.now l.i).round a.round) in (
      omega (arith, l.invariant.0, c.one_of-all.ensures, few),
      omega (arith, l.invariant.1, c.one_of-all.ensures, entries_next a.log.now a.site a.round l.i),
    )
