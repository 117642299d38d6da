-- What was sent, over all sites and rounds: which have a cell, views that differ in one cell, and what a message read means.
-- Assumes nothing.
use mathlib.Core.Path.{◌≡◌, refl, sym, ap, ◌∙◌}
use Rattle.std.specs.Prelude.{None, Some}
use mathlib.Core.Bool.{Bool, true, false, ◌&&◌}
use mathlib.Core.Logic.{⊎_elim}
use mathlib.Core.List.{List, []}
use Prim.Native.Nat.{ℕ, zero, suc, pred, ◌+◌, ◌*◌, ◌-◌, ◌≤◌, ◌<◌}
use native.Mathlib.Omega.{arith}
use lib.Dec.{eqb, leb, ltb}
use lib.ListN.{length}
use borrow.Author.Tests.{ltb-true, leb-true, eqb-true, lt-ltb, le-leb, lt-leb, eq-eqb, ne_eqb}
use Rattle.theory.specs.Sets.{pick}
use Rattle.theory.specs.Sets as theory
use Rattle.theory.specs.Lists.{nth}
use Rattle.theory.specs.ListLaws.{nth_end}
use Rattle.theory.specs.Counting.{both, left, right, known, never}
use Rattle.wire.specs.Wire.{read_le}
use Rattle.sets.specs.declared.Set.{Set}
use Rattle.sets.specs.Sets.{in_set, set_bytes, read_set}
use Rattle.table.specs.Table.{max_sites}
use Rattle.sent.specs.Sent.{sent_rounds, max_acknowledgments, cells, cell_of, count_place, flag_place, set_place, check_place}
use Rattle.sent.specs.Sent.{count_in, flag_in, acks_in, check_in, in_table, acks_of, checks_of, numbered, acknowledgment_of, check_of, GoodSent, Read}
use Rattle.sent.proofs.Cells.{length-sets, nth-set}

-- ---- sites and rounds that have a cell

pub in_table_lem : (j r : ℕ) → j < max_sites → 1 ≤ r → r ≤ sent_rounds → in_table j r ≡ true
in_table_lem j r a b c = both (ltb j max_sites) (leb 1 r && leb r sent_rounds) (lt-ltb j max_sites a) (both (leb 1 r) (leb r sent_rounds) (le-leb 1 r b) (le-leb r sent_rounds c))

pub table_told : (j r : ℕ) → in_table j r ≡ true → (j < max_sites) × (1 ≤ r) × (r ≤ sent_rounds)
table_told j r h =
    let t = right (ltb j max_sites) (leb 1 r && leb r sent_rounds) h in (
      ltb-true j max_sites (left (ltb j max_sites) (leb 1 r && leb r sent_rounds) h),
      leb-true 1 r (left (leb 1 r) (leb r sent_rounds) t),
      leb-true r sent_rounds (right (leb 1 r) (leb r sent_rounds) t),
    )

-- A cell is below the number of cells.
pub cell_inside : (j r : ℕ) → in_table j r ≡ true → cell_of j r < cells
cell_inside j r h = let w = table_told j r h in omega arith

-- Two of them have the same cell only where both are the same.
pub cell_same : (j r i s : ℕ) → in_table j r ≡ true → in_table i s ≡ true → cell_of j r ≡ cell_of i s → (j ≡ i) × (r ≡ s)
cell_same j r i s h l e =
    let w = table_told j r h in
    let v = table_told i s l in
    (omega arith, omega arith)

-- Where a test holds, what it picks may be compared.
pick_under : {A : Type 0} (t : Bool) (a b d : A) → (t ≡ true → a ≡ b) → pick t a d ≡ pick t b d
pick_under true a b d h = h refl
pick_under false a b d h = refl

-- Two views by cells that are the same in every cell.
pub same_view : {A : Type 0} (f g : ℕ → A) (d : A) → ((k : ℕ) → k < cells → f k ≡ g k)
    → (j r : ℕ) → pick (in_table j r) (f (cell_of j r)) d ≡ pick (in_table j r) (g (cell_of j r)) d
same_view f g d h j r = pick_under (in_table j r) (f (cell_of j r)) (g (cell_of j r)) d (λ e. h (cell_of j r) (cell_inside j r e))

-- Two views by cells that differ in the cell of i and s only.
pub other_view : {A : Type 0} (f g : ℕ → A) (d : A) (new : A → A) (i s : ℕ) → in_table i s ≡ true
    → f (cell_of i s) ≡ new (g (cell_of i s)) → ((k : ℕ) → k < cells → (k ≡ cell_of i s → ⊥) → f k ≡ g k)
    → (j r : ℕ)
    → pick (in_table j r) (f (cell_of j r)) d
    ≡ pick (eqb j i && eqb r s) (new (pick (in_table j r) (g (cell_of j r)) d)) (pick (in_table j r) (g (cell_of j r)) d)
other_view {A} f g d new i s t here there j r = ⊎_elim same other (known (eqb j i && eqb r s))
  where
    same : (eqb j i && eqb r s) ≡ true → pick (in_table j r) (f (cell_of j r)) d ≡ pick (eqb j i && eqb r s) (new (pick (in_table j r) (g (cell_of j r)) d)) (pick (in_table j r) (g (cell_of j r)) d)
    same e =
        let a = eqb-true j i (left (eqb j i) (eqb r s) e) in
        let b = eqb-true r s (right (eqb j i) (eqb r s) e) in
        let u : in_table j r ≡ true = (λ k. in_table (a k) (b k)) ∙ t in
        let c : cell_of j r ≡ cell_of i s = λ k. cell_of (a k) (b k) in
        (λ k. pick (u k) (f (cell_of j r)) d) ∙ ap f c ∙ here ∙ ap (λ (x : ℕ). new (g x)) (sym c)
        ∙ sym (λ k. pick (e k) (new (pick (u k) (g (cell_of j r)) d)) (pick (u k) (g (cell_of j r)) d))

    other : (eqb j i && eqb r s) ≡ false → pick (in_table j r) (f (cell_of j r)) d ≡ pick (eqb j i && eqb r s) (new (pick (in_table j r) (g (cell_of j r)) d)) (pick (in_table j r) (g (cell_of j r)) d)
    other e =
        pick_under (in_table j r) (f (cell_of j r)) (g (cell_of j r)) d
        (λ u.
        there (cell_of j r) (cell_inside j r u)
        (λ c.
        let w = cell_same j r i s u t c in
        never (eqb j i && eqb r s) (both (eqb j i) (eqb r s) (eq-eqb j i w.0) (eq-eqb r s w.1)) e))
        ∙ sym (λ k. pick (e k) (new (pick (in_table j r) (g (cell_of j r)) d)) (pick (in_table j r) (g (cell_of j r)) d))

-- ---- messages read

-- From 1 on the a-th of a list is the one that the protocol looks for.
pub numbered-nth : (l : List theory.Set) (a : ℕ) → 1 ≤ a → numbered l a ≡ nth l (pred a)
numbered-nth l zero h = absurd (omega arith)
numbered-nth l (suc n) h = refl

module _ (b : List ℕ) (j r : ℕ) (t : in_table j r ≡ true) where
  pub acks_at : acks_of b j r ≡ acks_in b (cell_of j r)
  unfolding acks_of
  acks_at = λ k. pick (t k) (acks_in b (cell_of j r)) []

  pub checks_at : checks_of b j r ≡ check_in b (cell_of j r)
  unfolding checks_of
  checks_at = λ k. pick (t k) (check_in b (cell_of j r)) None

  -- There are as many acknowledgments as the cell counts.
  pub length_acks : length (acks_of b j r) ≡ count_in b (cell_of j r)
  unfolding acks_in
  length_acks = ap length acks_at ∙ length-sets (count_in b (cell_of j r)) (set_place (cell_of j r) 0) b

  pub no_acknowledgment : (a : ℕ) {p n : ℕ} → p ≡ count_place (cell_of j r) → n ≡ read_le 1 b p → (1 ≤ a → n < a) → Read None (acknowledgment_of b j r a) (numbered (acks_of b j r) a)
  unfolding acks_in acknowledgment_of
  no_acknowledgment zero q c l = record { answer = refl; means = refl }
  no_acknowledgment (suc a) {p} {n} q c l =
      let d : n ≡ count_in b (cell_of j r) = c ∙ ap (read_le 1 b) q in
      let f : count_in b (cell_of j r) < suc a = omega (arith, l (omega arith)) in
      record {
        answer = sym (λ i. pick (le-leb 1 (suc a) (omega arith) i && lt-leb (suc a) (count_in b (cell_of j r)) f i) (Some (read_set b (set_place (cell_of j r) (suc a - 1)))) None);
        means = sym (ap (λ (x : List theory.Set). nth x a) acks_at ∙ nth_end (acks_in b (cell_of j r)) a (omega (arith, length-sets (count_in b (cell_of j r)) (set_place (cell_of j r) 0) b)));
      }

  pub some_acknowledgment : (a : ℕ) {p n at : ℕ} {s : Set} → p ≡ count_place (cell_of j r) → n ≡ read_le 1 b p → 1 ≤ a → a ≤ n → at ≡ set_place (cell_of j r) (a - 1) → s ≡ read_set b at
      → Read (Some s) (acknowledgment_of b j r a) (numbered (acks_of b j r) a)
  unfolding acks_in acknowledgment_of
  some_acknowledgment zero q c h l o m = absurd (omega arith)
  some_acknowledgment (suc a) {p} {n} {at} {s} q c h l o m =
      let d : n ≡ count_in b (cell_of j r) = c ∙ ap (read_le 1 b) q in
      let e : set_place (cell_of j r) (suc a - 1) ≡ set_place (cell_of j r) 0 + a * set_bytes = omega arith in
      let w : s ≡ read_set b (set_place (cell_of j r) (suc a - 1)) = m ∙ ap (read_set b) o in
      record {
        answer =
            ap Some w
            ∙ sym (λ i. pick (le-leb 1 (suc a) (omega arith) i && le-leb (suc a) (count_in b (cell_of j r)) (omega arith) i) (Some (read_set b (set_place (cell_of j r) (suc a - 1)))) None);
        means =
            ap (λ (x : Set). Some (in_set x)) (w ∙ ap (read_set b) e)
            ∙ sym (ap (λ (x : List theory.Set). nth x a) acks_at ∙ nth-set (count_in b (cell_of j r)) (set_place (cell_of j r) 0) b a (omega arith));
      }

  -- The number of an acknowledgment that was sent.
  pub sent_number : (a : ℕ) {s : Set} → GoodSent b → Some s ≡ acknowledgment_of b j r a → (1 ≤ a) × (a ≤ max_acknowledgments)
  unfolding acknowledgment_of
  sent_number a {s} good h = go (leb 1 a && leb a (count_in b (cell_of j r))) refl h
    where
      go : (x : Bool) → (leb 1 a && leb a (count_in b (cell_of j r))) ≡ x → Some s ≡ pick x (Some (read_set b (set_place (cell_of j r) (a - 1)))) None
          → (1 ≤ a) × (a ≤ max_acknowledgments)
      go true e l =
          let few = leb-true a (count_in b (cell_of j r)) (right (leb 1 a) (leb a (count_in b (cell_of j r))) e) in
          (leb-true 1 a (left (leb 1 a) (leb a (count_in b (cell_of j r))) e), omega (arith, good.counts (cell_of j r) (cell_inside j r t)))
      go false e l = absurd (let z : ◌≡◌ {A = ℕ} 0 1 = cc in omega arith)

  pub no_check : {p n : ℕ} → p ≡ flag_place (cell_of j r) → n ≡ read_le 1 b p → (n ≡ 1 → ⊥) → Read None (check_of b j r) (checks_of b j r)
  unfolding check_in check_of
  no_check q c h =
      let f = ne_eqb (flag_in b (cell_of j r)) 1 (λ x. h (c ∙ ap (read_le 1 b) q ∙ x)) in
      record {
        answer = sym (λ i. pick (f i) (Some (read_set b (check_place (cell_of j r)))) None);
        means = sym (checks_at ∙ (λ i. pick (f i) (Some (in_set (read_set b (check_place (cell_of j r))))) None));
      }

  pub some_check : {p n at : ℕ} {s : Set} → p ≡ flag_place (cell_of j r) → n ≡ read_le 1 b p → n ≡ 1 → at ≡ check_place (cell_of j r) → s ≡ read_set b at
      → Read (Some s) (check_of b j r) (checks_of b j r)
  unfolding check_in check_of
  some_check {p} {n} {at} {s} q c h o m =
      let f = eq-eqb (flag_in b (cell_of j r)) 1 (sym (c ∙ ap (read_le 1 b) q) ∙ h) in
      let w : s ≡ read_set b (check_place (cell_of j r)) = m ∙ ap (read_set b) o in
      record {
        answer = ap Some w ∙ sym (λ i. pick (f i) (Some (read_set b (check_place (cell_of j r)))) None);
        means = ap (λ (x : Set). Some (in_set x)) w ∙ sym (checks_at ∙ (λ i. pick (f i) (Some (in_set (read_set b (check_place (cell_of j r))))) None));
      }
