-- `layout::hear`: the table reaches the round, and the set is united with the one that stands there and written back.
-- Assumes nothing.
use mathlib.Core.Path.{ap, ◌∙◌}
use mathlib.Core.List.{List}
use Prim.Native.Nat.{ℕ}
use Rattle.sets.specs.Sets.{union_of, read_set, write_set}
use Rattle.layout.specs.Layout.{cell}
use Rattle.layout.proofs.Senders.{united}
use Rattle.layout.proofs.hear.Goals as goal

pub returns : goal.returns
returns c =
    let o = c in
    let reached = c.reach.ensures in
    united _ _ o.args.set c.heard_place-place.ensures.0 c.read-before.ensures
    c.union.ensures c.write.ensures
    ∙ ap (λ (l : List ℕ). write_set l (cell o.args.sender o.args.round) (union_of (read_set l (cell o.args.sender o.args.round)) o.args.set)) reached
