-- Laws of the sets heard: an acknowledgment united with what stands there, and the bytes of the whole table.
-- Assumes nothing.
use mathlib.Core.Path.{◌≡◌, refl, sym, ap, ◌∙◌}
use mathlib.Core.Bool.{Bool, true, false, ◌&&◌, ◌||◌}
use mathlib.Core.List.{List, ◌++◌}
use mathlib.Core.Logic.{inl, inr}
use Prim.Native.Nat.{ℕ, zero, suc, ◌+◌, ◌*◌, ◌-◌, ◌/◌, ◌%◌, ◌^◌, ◌≤◌, ◌<◌}
use native.Mathlib.Omega.{arith}
use native.Mathlib.Decide.{dec_lt}
use lib.Dec.{eqb, leb, ltb}
use lib.ListN.{length, take, drop, get_or}
use lib.Seq.{drop-drop, take-add}
use borrow.Author.Tests.{lt-ltb, le-leb, eq-eqb, eqb-true, ltb-true, leb-true}
use Rattle.theory.specs.Counting.{both, left, right, never, or_false}
use Rattle.wire.specs.Wire.{bytes, read_le}
use Rattle.wire.proofs.Laws.{read_lt, read-bytes}
use Rattle.sets.specs.declared.Set.{Set}
use Rattle.sets.specs.Sets.{has, capacity, in_set, set_of, read_set, write_set, union_of}
use Rattle.sets.proofs.Laws.{in_union, union_fits, read_fits, read-written, read_other, word_ext, word-has}
use Rattle.table.specs.Table.{max_sites}
use Rattle.layout.specs.Layout.{heard_place, site_size, site_rounds, in_table, row_at, cell, heard_in, heard_bytes}

pub in_table_lem : (k j r : ℕ) → j < max_sites → 1 ≤ r → r ≤ k → in_table k j r ≡ true
in_table_lem k j r h l m =
    both (ltb j max_sites) (leb 1 r && leb r k) (lt-ltb j max_sites h) (both (leb 1 r) (leb r k) (le-leb 1 r l) (le-leb r k m))

pub table_bounds : (k j r : ℕ) → in_table k j r ≡ true → (j < max_sites) × (1 ≤ r) × (r ≤ k)
table_bounds k j r h =
    let n = right (ltb j max_sites) (leb 1 r && leb r k) h in
    (ltb-true j max_sites (left (ltb j max_sites) (leb 1 r && leb r k) h), leb-true 1 r (left (leb 1 r) (leb r k) n), leb-true r k (right (leb 1 r) (leb r k) n))

-- The n-th set heard is that of sender n % 11 and round n / 11 + 1.
pub cell_number : (n : ℕ) → cell (n % max_sites) (n / max_sites + 1) ≡ heard_place + 8 * n
cell_number n = omega arith

-- What the code of hear does, in one step.
pub united : (b : List ℕ) (at : ℕ) (set : Set) {place : ℕ} {old new : Set} {l : List ℕ} → place ≡ at → old ≡ read_set b place → new ≡ union_of old set
    → l ≡ write_set b place new
    → l ≡ write_set b at (union_of (read_set b at) set)
united b at set ep eo en el =
    el ∙ (λ i. write_set b (ep i) ((en ∙ ap (λ (s : Set). union_of s set) (eo ∙ ap (read_set b) ep)) i))

-- ---- an acknowledgment is kept, in a row that there is

module _ (b : List ℕ) (small : (i : ℕ) → get_or b i 0 < 256) (size : length b ≡ site_size) (j r : ℕ) (x : Set) (fits : x.bits < 2 ^ 64)
    (hj : j < max_sites) (h1 : 1 ≤ r) (h33 : r ≤ site_rounds) where
  -- The bytes with the acknowledgment.
  abbrev pub kept : List ℕ
  kept = write_set b (cell j r) (union_of (read_set b (cell j r)) x)

  pub union_small : (union_of (read_set b (cell j r)) x).bits < 2 ^ 64
  union_small = union_fits (read_set b (cell j r)) x (read_fits b (cell j r) small (omega arith)) fits

  pub here : read_set kept (cell j r) ≡ union_of (read_set b (cell j r)) x
  here = read-written b (cell j r) (union_of (read_set b (cell j r)) x) (omega arith) union_small

  -- A cell that is another, and so its place is.
  pub elsewhere : (j' r' : ℕ) → j' < max_sites → 1 ≤ r' → r' ≤ site_rounds → (j' ≡ j → r' ≡ r → ⊥) → read_set kept (cell j' r') ≡ read_set b (cell j' r')
  elsewhere j' r' kj k1 k33 n =
      read_other b (cell j r) (union_of (read_set b (cell j r)) x) (cell j' r') (omega arith)
      (elim (dec_lt (max_sites * r' + j') (max_sites * r + j)) [
        | yes h ↦ inl (omega arith)
        | no h ↦ inr (after (elim (dec_lt (max_sites * r + j) (max_sites * r' + j')) [ yes g ↦ g | no g ↦ absurd (n (omega arith) (omega arith)) ]))
      ])
    where
      after : max_sites * r + j < max_sites * r' + j' → cell j r + 8 ≤ cell j' r'
      after h = omega arith

  module _ (k : ℕ) (hr : r ≤ k) (hk : k ≤ site_rounds) where
    point : (j' r' m : ℕ) (t e : Bool) → in_table k j' r' ≡ t → (eqb j' j && eqb r' r) ≡ e
        → (t && in_set (read_set kept (cell j' r')) m) ≡ (t && in_set (read_set b (cell j' r')) m || e && in_set x m)
    point j' r' m true true et ee =
        let ej = eqb-true j' j (left (eqb j' j) (eqb r' r) ee) in
        let er = eqb-true r' r (right (eqb j' j) (eqb r' r) ee) in
        ap (λ (n : ℕ). in_set (read_set kept n) m) (λ i. cell (ej i) (er i))
        ∙ ap (λ (s : Set). in_set s m) here
        ∙ in_union (read_set b (cell j r)) x m
        ∙ ap (λ (n : ℕ). in_set (read_set b n) m || in_set x m) (λ i. cell (sym ej i) (sym er i))
    point j' r' m true false et ee =
        let w = table_bounds k j' r' et in
        ap (λ (s : Set). in_set s m) (elsewhere j' r' w.0 w.1 (omega (arith, w.2)) (λ ej er. never (eqb j' j && eqb r' r) (both (eqb j' j) (eqb r' r) (eq-eqb j' j ej) (eq-eqb r' r er)) ee))
        ∙ sym (or_false (in_set (read_set b (cell j' r')) m))
    point j' r' m false true et ee =
        let ej = eqb-true j' j (left (eqb j' j) (eqb r' r) ee) in
        let er = eqb-true r' r (right (eqb j' j) (eqb r' r) ee) in
        absurd (never (in_table k j' r') ((λ i. in_table k (ej i) (er i)) ∙ in_table_lem k j r hj h1 hr) et)
    point j' r' m false false et ee = refl

    -- What is heard after an acknowledgment.
    pub heard_set : heard_in k kept ≡ (λ j' r' m. heard_in k b j' r' m || eqb j' j && eqb r' r && in_set x m)
    unfolding heard_in read_set
    heard_set = λ i j' r' m. point j' r' m (in_table k j' r') (eqb j' j && eqb r' r) refl refl i

-- ---- the bytes of the table

module _ (b : List ℕ) (small : (i : ℕ) → get_or b i 0 < 256) (size : length b ≡ site_size) (k : ℕ) (rows : k ≤ site_rounds) where
  -- The word of what a sender acknowledged.
  heard_word : (n : ℕ) → n < max_sites * k → (set_of capacity (heard_in k b (n % max_sites) (n / max_sites + 1))).bits ≡ read_le 8 b (heard_place + 8 * n)
  unfolding heard_in
  heard_word n h =
      word_ext 64 (heard_in k b (n % max_sites) (n / max_sites + 1)) (has (read_le 8 b (heard_place + 8 * n)))
      (λ m l. (λ i. in_table_lem k (n % max_sites) (n / max_sites + 1) (omega arith) (omega arith) (omega arith) i && has (read_le 8 b (cell_number n i)) m))
      ∙ word-has 64 (read_le 8 b (heard_place + 8 * n)) (read_lt b small 8 (heard_place + 8 * n) (omega arith))

  heard_first : (n : ℕ) → n ≤ max_sites * k → heard_bytes n (heard_in k b) ≡ take (8 * n) (drop heard_place b)
  unfolding heard_bytes
  heard_first zero h = refl
  heard_first (suc n) h =
      let e : 8 * suc n ≡ 8 * n + 8 = omega arith in
      (λ i. heard_first n (omega arith) i ++ bytes 8 (heard_word n (omega arith) i))
      ∙ ap (λ (l : List ℕ). take (8 * n) (drop heard_place b) ++ l)
      (read-bytes b small 8 (heard_place + 8 * n) (omega arith) ∙ ap (take 8) (sym (drop-drop (8 * n) heard_place b)))
      ∙ sym (take-add (8 * n) 8 (drop heard_place b))
      ∙ ap (λ (m : ℕ). take m (drop heard_place b)) (sym e)

  -- All rows.
  pub heard_bytes_lem : heard_bytes (max_sites * k) (heard_in k b) ≡ take (row_at k - heard_place) (drop heard_place b)
  heard_bytes_lem =
      let e : 8 * (max_sites * k) ≡ row_at k - heard_place = omega arith in
      heard_first (max_sites * k) (omega arith) ∙ ap (λ (m : ℕ). take m (drop heard_place b)) e
