-- `Round::enter` meets its contract: by whether the site has an entry of the round.
-- Assumes nothing.
use mathlib.Core.Path.{sym, ◌∙◌}
use native.Mathlib.Omega.{arith}
use Rattle.table.proofs.Laws.{good_limits}
use Rattle.rounds.proofs.Entering.{taken_again}
use Rattle.rounds.proofs.Round.enter.Goals as goal

pub note_again-requires : goal.note_again-requires
note_again-requires c = omega (arith, c.requires.5, c.site_of-site.ensures, good_limits c.args.table c.requires.0)

pub returns-then-has : goal.returns-then-has
returns-then-has c =
    let a = c.args in
    let q = c.requires in
    let es = c.site_of-site.ensures in
    taken_again a.table a.rows.now a.log.now a.k a.round a.self.now q.0 q.6 q.2 q.3
    c.site_of-site.result (omega (arith, q.5, es)) es (sym c.has.ensures ∙ c.if-has.true) c.note_again.ensures
