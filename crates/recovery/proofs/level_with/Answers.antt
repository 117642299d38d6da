-- `level_with` meets its contract, by the definition of `level_with`.
-- Assumes nothing.
use mathlib.Core.Path.{ap, ◌∙◌}
use Rattle.sets.specs.Sets.{union_of}
use Rattle.recovery.specs.Decisions.{level_with}
use Rattle.recovery.proofs.level_with.Goals as goal

pub returns : goal.returns
unfolding level_with
returns c = c.union.ensures ∙ ap (union_of c.args.level) c.common-raised.ensures
