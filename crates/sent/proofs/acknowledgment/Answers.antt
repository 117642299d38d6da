-- `sent::acknowledgment`: the count tells whether there is an a-th, and its set stands a - 1 sets after the first.
-- Rests on Laws.
use mathlib.Core.Path.{◌≡◌, ap, ◌∙◌}
use Prim.Native.Nat.{ℕ, ◌-◌, ◌≤◌}
use mathlib.Core.Bool.{false, ◌||◌}
use lib.Dec.{eqb, ltb}
use borrow.Author.Tests.{ne_eqb, eqb-false, ltb-true, ltb-false}
use Rattle.theory.specs.Counting.{second, neither}
use Rattle.wire.specs.Wire.{read_le}
use Rattle.sent.specs.Sent.{cell_of, count_place, set_place, count_in}
use Rattle.sent.proofs.Laws.{in_table_lem, no_acknowledgment, some_acknowledgment}
use native.Mathlib.Omega.{arith}
use Rattle.sent.proofs.acknowledgment.Goals as goal

within : (count a : ℕ) → (eqb a 0 || ltb count a) ≡ false → (1 ≤ a) × (a ≤ count)
within count a h =
    let w = neither (eqb a 0) (ltb count a) h in
    let z = eqb-false a 0 w.0 in
    let l = ltb-false count a w.1 in
    (omega arith, l)

pub returns-then-a-count : goal.returns-then-a-count
returns-then-a-count c =
    let a = c.args in
    no_acknowledgment a.sent.now a.j a.r (in_table_lem a.j a.r c.requires.1 c.requires.2 c.requires.3) a.a (c.count_at.ensures ∙ ap count_place c.cell_of-cell.ensures.0) c.get-count.ensures
    (λ h. ltb-true c.get-count.result a.a (second (eqb a.a 0) (ltb c.get-count.result a.a) c.if-a-count.true (ne_eqb a.a 0 (λ z. omega arith))))

pub set_at-requires : goal.set_at-requires
set_at-requires c =
    let w = within c.get-count.result c.args.a c.if-a-count.false in
    let k = c.cell_of-cell.ensures in
    let e : c.get-count.result ≡ count_in c.args.sent.now (cell_of c.args.j c.args.r) =
    c.get-count.ensures ∙ ap (read_le 1 c.args.sent.now) (c.count_at.ensures ∙ ap count_place k.0) in
    (k.1, omega (arith, e, w, c.requires.0.counts (cell_of c.args.j c.args.r) (omega arith)))

pub returns : goal.returns
returns c =
    let a = c.args in
    let w = within c.get-count.result c.args.a c.if-a-count.false in
    some_acknowledgment a.sent.now a.j a.r (in_table_lem a.j a.r c.requires.1 c.requires.2 c.requires.3) a.a (c.count_at.ensures ∙ ap count_place c.cell_of-cell.ensures.0) c.get-count.ensures w.0 w.1
    (c.set_at.ensures ∙ (λ i. set_place (c.cell_of-cell.ensures.0 i) (a.a - 1))) c.read-set.ensures
