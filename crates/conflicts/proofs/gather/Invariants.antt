-- `conflicts::gather`: one command more at each turn.
-- Rests on Gathering.
use Rattle.conflicts.specs.Conflicts.{Gathered}
use Rattle.conflicts.proofs.gather.Given as goal

abbrev pub invariant-loop-k : goal.invariant-loop-k
invariant-loop-k l = Gathered l.book.bytes.now l.k l.sets
