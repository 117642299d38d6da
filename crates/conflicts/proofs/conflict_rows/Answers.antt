use Rattle.conflicts.proofs.Gathering.{gathered_none}
use Rattle.conflicts.proofs.conflict_rows.Goals as goal

pub gather-requires : goal.gather-requires
gather-requires c = let o = c in gathered_none o.args.book.now c.empty-none.ensures

pub invariant_of-read : goal.invariant_of-read
invariant_of-read c = record { counted = c.requires.1; placed = c.requires.2 }
