use native.Mathlib.Numerals.{towards_suc}
use mathlib.Core.List.{[], ◌∷◌}
use Rattle.wire.proofs.Laws.{sets-splice}
use Rattle.commands.proofs.put_head.Goals as goal

pub returns : goal.returns
returns c = let a = c.args in simp towards_suc (sets-splice (a.kind ∷ a.bike ∷ []) a.out.now a.at c.requires)
