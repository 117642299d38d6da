-- `ending::due`: the set without the union of both.
-- Assumes nothing.
use mathlib.Core.Path.{ap, ◌∙◌}
use Rattle.sets.specs.Sets.{without_of}
use Rattle.ending.proofs.due.Goals as goal

pub returns : goal.returns
returns c = c.without.ensures ∙ ap (without_of c.args.set) c.union.ensures
