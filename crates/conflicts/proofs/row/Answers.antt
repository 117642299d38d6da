-- `conflicts::row`: what the command is opposed to, but itself.
-- Rests on Gathering.
use native.Mathlib.Omega.{arith}
use Rattle.commands.proofs.Counted.{below}
use Rattle.commands.proofs.Walk.{few_commands}
use Rattle.conflicts.proofs.Gathering.{bike_below, gathered_all, row_told}
use Rattle.conflicts.proofs.row.Goals as goal

pub with-itself-requires : goal.with-itself-requires
with-itself-requires c = omega (arith, few_commands c.args.book.now.bytes.now, below c.args.book.now c.requires.0)

pub opposed-requires : goal.opposed-requires
opposed-requires c = let o = c in bike_below o.args.book.now.bytes.now o.args.m (below o.args.book.now o.requires.0) c.command.ensures

pub returns : goal.returns
returns c =
    let o = c in
    let s = o.args.book.now.bytes.now in
    row_told s o.args.m (few_commands s) (below o.args.book.now o.requires.0) (gathered_all s o.args.book.now.counted o.requires.1) c.command.ensures c.empty.ensures c.with-itself.ensures c.opposed.ensures c.without.ensures
