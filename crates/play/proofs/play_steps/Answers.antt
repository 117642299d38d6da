-- `play::play_steps`: what is kept at the start is that of a log with no entry.
-- Assumes nothing.
use mathlib.Core.Path.{sym, subst}
use Prim.Native.Nat.{ℕ}
use Rattle.world.specs.Parts.{lent}
use Rattle.play.specs.Played.{Playable}
use Rattle.play.proofs.play_steps.Goals as goal

pub play_on-requires : goal.play_on-requires
play_on-requires c =
    let o = c in
    let a = o.args in
    let e = c.none-kept.ensures in (
      subst (λ (n : ℕ). Playable a.rules a.book.now a.rows.now a.steps.now a.text.now (lent a.sites.now a.log.now n a.sent.now)) (sym e.0) o.requires,
      e.1 a.rules.table a.rows.now a.log.now,
    )
