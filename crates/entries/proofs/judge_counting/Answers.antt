-- `judge_counting` meets its contract: the first i entries are good, and the table counts them.
-- Assumes nothing.
use Rattle.theory.specs.Counting.{all_none}
use Rattle.entries.specs.Entries.{good_at}
use Rattle.entries.proofs.Counts.{counting_none, entry_bad, third_bad, prefix_more}
use native.Mathlib.Omega.{arith}
use mathlib.Core.Path.{ap}
use mathlib.Core.Bool.{not}
use Rattle.entries.proofs.judge_counting.Goals as goal

pub loop-i-init : goal.loop-i-init
loop-i-init c = let a = c.args in (counting_none a.log.now c.requires.2, all_none (good_at a.log.now a.sites a.commands))

pub returns-then-not-in_range : goal.returns-then-not-in_range
returns-then-not-in_range c =
    let a = c.args in
    entry_bad a.log.now a.sites a.commands c.requires.1 c.loop-i.i c.read_entry-entry.ensures c.in_range.ensures (ap not c.if-not-in_range.true) a.k (omega arith)

pub returns-then-before-ge2 : goal.returns-then-before-ge2
returns-then-before-ge2 c =
    let a = c.args in
    third_bad a.log.now a.sites a.commands c.requires.1 c.loop-i.i c.read_entry-entry.ensures c.in_range.ensures (ap not c.if-not-in_range.false) c.loop-i.counts c.loop-i.invariant.0 (omega arith) a.k (omega arith)

pub loop-i-preserved : goal.loop-i-preserved
loop-i-preserved c =
    let a = c.args in
    prefix_more a.log.now a.sites a.commands c.requires.1 c.loop-i.i c.read_entry-entry.ensures c.in_range.ensures (ap not c.if-not-in_range.false) c.loop-i.counts c.loop-i.invariant.0 (omega arith) c.loop-i.invariant.1
