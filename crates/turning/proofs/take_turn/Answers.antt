-- `turning::take_turn`: by the conflict test and the entries of the round.
-- Assumes nothing.
use mathlib.Core.Path.{ap, ◌∙◌}
use Rattle.layout.specs.declared.Site.{Site}
use Rattle.site.specs.Steps.{undelivered_of}
use Rattle.turning.proofs.Laws.{take_told}
use Rattle.turning.proofs.take_turn.Goals as goal

pub returns : goal.returns
returns c =
    let a = c.args in
    take_told a.rows.now a.log.now a.own a.site.now (c.undelivered.ensures ∙ ap undelivered_of c.read-header.ensures) c.is_free-free.ensures (ap (λ (h : Site). h.round) c.read-header.ensures)
    c.entries_of-third.ensures c.take_turn.ensures
