-- `conflicts::gather`: one command more at each turn.
-- Rests on Gathering.
use native.Mathlib.Omega.{arith}
use Rattle.commands.proofs.Counted.{below}
use Rattle.commands.proofs.Walk.{few_commands}
use Rattle.conflicts.proofs.Gathering.{bike_below, gathered_more}
use Rattle.conflicts.proofs.gather.Goals as goal

pub join-requires : goal.join-requires
join-requires c =
    let s = c.args.book.now.bytes.now in
    (bike_below s c.loop-k.k (below c.args.book.now (omega arith)) c.command.ensures, omega (arith, few_commands s, c.args.book.now.counted))

pub loop-k-preserved : goal.loop-k-preserved
loop-k-preserved c =
    let l = c.loop-k in
    gathered_more c.args.book.now.bytes.now l.sets l.k (below c.args.book.now (omega arith)) c.command.ensures c.join.ensures l.invariant
