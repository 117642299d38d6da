-- `layout::heard`: the set is read at the place of its sender and round.
-- Assumes nothing.
use mathlib.Core.Path.{ap, ◌∙◌}
use Prim.Native.Nat.{ℕ}
use Rattle.sets.specs.Sets.{read_set}
use Rattle.layout.proofs.heard.Goals as goal

pub returns : goal.returns
returns c = c.read.ensures ∙ ap (λ (n : ℕ). read_set c.args.site.now n) c.heard_place.ensures.0
