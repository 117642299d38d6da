-- `conflicts::fill_rows`: a row at each turn.
-- Rests on Laws.
use Prim.Native.Nat.{◌+◌, ◌-◌}
use mathlib.Core.Path.{◌≡◌}
use mathlib.Core.List.{◌++◌}
use lib.ListN.{length, take}
use lib.Seq as seq
use Rattle.commands.specs.Book.{max_commands, Placed}
use Rattle.conflicts.specs.Conflicts.{rows_from, conflict_rows}
use Rattle.conflicts.proofs.fill_rows.Given as goal

abbrev pub invariant-loop-m : goal.invariant-loop-m
invariant-loop-m l = (length l.noted ≡ length l.initial.noted)
    × (seq.sets l.noted (max_commands + l.m) (rows_from l.book (l.n - l.m) l.m) ≡ take max_commands l.initial.noted ++ conflict_rows l.book)
    × Placed l.book l.noted
