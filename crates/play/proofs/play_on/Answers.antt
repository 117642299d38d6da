-- `play::play_on`: what is left of the steps becomes less, one after another.
-- Assumes nothing.
use mathlib.Core.Path.{refl, sym, ap, ◌∙◌}
use Prim.Native.Nat.{ℕ, ◌+◌, ◌<◌}
use native.Mathlib.Omega.{arith}
use lib.ListN.{length}
use Rattle.commands.specs.Book.{commands_of}
use Rattle.steps.specs.Meaning.{meaning}
use Rattle.steps.proofs.Walk.{inside}
use Rattle.play.proofs.Laws.{playing_none, playing_more, playing_last, playing_end}
use Rattle.play.proofs.Room.{entries_few, acks_few}
use Rattle.play.proofs.play_on.Goals as goal

pub loop-at-init : goal.loop-at-init
loop-at-init c =
    let o = c in
    let a = o.args in (
      omega arith,
      omega arith,
      omega arith,
      refl,
      refl,
      refl,
      playing_none a.rules.table (commands_of a.book.now.bytes.now) a.steps.now a.text.now o.requires.0.world (omega (arith, o.requires.0.room)),
      o.requires.1,
    )

pub read_step-requires : goal.read_step-requires
read_step-requires c = c.loop-at.invariant.0

pub put_refusal-requires : goal.put_refusal-requires
put_refusal-requires c =
    let o = c in
    let a = o.args in
    let l = c.loop-at in
    (omega (arith, o.requires.0.room, o.requires.0.short, l.invariant.0, l.invariant.1, l.invariant.2, l.invariant.6.lines.size, c.loop-at-test.true), omega (arith, o.requires.0.short, l.invariant.0, l.invariant.1))

pub returns-in_default : goal.returns-in_default
returns-in_default c =
    let o = c in
    let a = o.args in
    let l = c.loop-at in
    let w = c.put_refusal.ensures in
    let g : l.at < length a.steps.now = omega (arith, c.loop-at-test.true) in
    playing_end a.rules.table (commands_of a.book.now.bytes.now) a.steps.now a.text.now
    (playing_last a.rules.table (commands_of a.book.now.bytes.now) a.steps.now a.text.now l.invariant.6 g (sym c.read_step.ensures ∙ c.in_default.is) refl w.0)
    (omega arith) (omega (arith, o.requires.0.short, l.invariant.1, l.invariant.2, w.1, g))

pub step-verdict-requires : goal.step-verdict-requires
step-verdict-requires c =
    let o = c in
    let a = o.args in
    let l = c.loop-at in
    let t = a.rules.table in
    let k = a.book.now.bytes.now in
    let q = o.requires.0 in
    let p = l.invariant.6 in
    let n = entries_few t k q.good p.past p.world in (
      (record {
        table = q.good;
        conflicts = q.conflicts;
        world = p.world.good;
        room = omega (arith, q.log, l.invariant.4);
        acks = acks_few t k q.good p.past p.world (meaning c.in-Some.step);
      }),
      q.counted,
      l.invariant.7,
    )

pub report-requires : goal.report-requires
report-requires c =
    let o = c in
    let a = o.args in
    let l = c.loop-at in
    (omega (arith, o.requires.0.room, o.requires.0.short, l.invariant.0, l.invariant.1, l.invariant.2, l.invariant.6.lines.size, c.loop-at-test.true), omega (arith, o.requires.0.short, l.invariant.0, l.invariant.1))

pub loop-at-smaller : goal.loop-at-smaller
loop-at-smaller c =
    let o = c in
    let a = o.args in
    let l = c.loop-at in
    let e = sym c.read_step.ensures ∙ c.in-Some.is in
    let i = inside a.steps.now l.at l.invariant.0 e c.size-size.ensures in
    omega (arith, i.0, i.1)

pub loop-at-preserved : goal.loop-at-preserved
loop-at-preserved c =
    let o = c in
    let a = o.args in
    let l = c.loop-at in
    let b = c.step-verdict in
    let w = c.report.ensures in
    let e = sym c.read_step.ensures ∙ c.in-Some.is in
    let i = inside a.steps.now l.at l.invariant.0 e c.size-size.ensures in (
      i.1,
      omega (arith, l.invariant.1, i.0),
      omega (arith, w.1, l.invariant.2),
      b.auto.sites ∙ l.invariant.3,
      b.auto.log ∙ l.invariant.4,
      b.auto.sent ∙ l.invariant.5,
      playing_more a.rules.table (commands_of a.book.now.bytes.now) a.steps.now a.text.now l.invariant.6 e (ap (λ (z : ℕ). l.at + z) c.size-size.ensures) b.ensures.0 w.0,
      b.ensures.1,
    )

pub returns : goal.returns
returns c =
    let o = c in
    let a = o.args in
    let l = c.loop-at in
    playing_end a.rules.table (commands_of a.book.now.bytes.now) a.steps.now a.text.now l.invariant.6
    (omega arith) (omega (arith, o.requires.0.short, l.invariant.0, l.invariant.1, l.invariant.2))
