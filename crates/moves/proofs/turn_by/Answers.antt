-- `moves::turn_by`: the tests by the rows and by what is kept.
-- Assumes nothing.
use mathlib.Core.Path.{ap, ◌∙◌}
use native.Mathlib.Omega.{arith}
use Rattle.layout.specs.declared.Site.{Site}
use Rattle.site.specs.Steps.{undelivered_of}
use Rattle.moves.proofs.Turns.{turned_by}
use Rattle.moves.proofs.turn_by.Goals as goal

pub third-third-requires : goal.third-third-requires
third-third-requires c = let s = c in (s.requires.2, omega (arith, s.requires.3, ap (λ (h : Site). h.round) c.read-header.ensures))

pub returns : goal.returns
returns c =
    let a = c.args in
    turned_by a.rows.now a.kept.now a.i _ (c.undelivered.ensures ∙ ap undelivered_of c.read-header.ensures) c.is_free-free.ensures
    (ap (λ (h : Site). h.round) c.read-header.ensures) c.third-third.ensures c.take_turn.ensures
