-- `ending::next_round`: what stands there after each field is written is that of the definition.
-- Rests on Next.
use mathlib.Core.Path.{ap, ◌∙◌}
use Rattle.sets.specs.Sets.{write_set}
use Rattle.layout.specs.Layout.{pending_place, fast_place}
use Rattle.ending.proofs.Next.{next_is}
use Rattle.ending.proofs.next_round.Goals as goal

pub returns : goal.returns
returns c =
    let s = c in
    let a = s.args in
    next_is a.site.now a.header a.sets a.deliveries s.requires.2 c.put.ensures c.put-2.ensures
    c.union.ensures c.union-delivered.ensures c.write.ensures
    (c.write-2.ensures ∙ ap (write_set _ pending_place) c.empty-none.ensures) (c.write-3.ensures ∙ ap (write_set _ fast_place) c.empty-none.ensures) c.set_phase.ensures
