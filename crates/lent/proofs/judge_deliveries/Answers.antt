-- `lent::judge_deliveries`: the call of `all` looks at every place, and each tells whether it is good.
-- Rests on Ranges.
use mathlib.Core.Path.{refl, ◌∙◌}
use Rattle.std.proofs.Common.{rules, tests}
use Rattle.std.proofs.lemmas.Iterator.{YieldsList-from_range}
use Rattle.std.proofs.lemmas.Iterator.Search.{all_from_yields_List}
use Rattle.sets.specs.Sets.{capacity}
use Rattle.layout.specs.Good.{good_slot}
use Rattle.lent.proofs.Ranges.{all_range}
use Rattle.lent.proofs.judge_deliveries.Goals as goal

pub returns : goal.returns
returns c =
    let a = c.args in
    let good = good_slot a.commands a.recorded a.site.now in
    all_from_yields_List good _ _ _ c.all.ensures.ran (YieldsList-from_range 0 capacity capacity refl refl) (λ x b q k. search (rules, tests)) ∙ all_range capacity good
