-- Cells of what was sent: bytes that agree on a cell say the same there, and what a write says of its own cell.
-- Assumes nothing.
use Rattle.std.specs.Prelude.{None, Some}
use mathlib.Core.Path.{◌≡◌, refl, ap, ◌∙◌}
use mathlib.Core.Logic.{◌⊎◌, inl, inr, ⊎_elim}
use mathlib.Core.List.{List, [], ◌∷◌, ◌++◌}
use Prim.Native.Nat.{ℕ, zero, suc, ◌+◌, ◌*◌, ◌^◌, ◌≤◌, ◌<◌}
use native.Mathlib.Omega.{arith}
use native.Mathlib.Numerals.{add-one}
use lib.Dec.{eqb}
use lib.ListN.{length}
use Rattle.theory.specs.Sets.{pick}
use Rattle.theory.specs.Sets as theory
use Rattle.theory.specs.Lists.{nth}
use Rattle.theory.specs.Counting.{lt_or_le}
use Rattle.wire.specs.Wire.{read_le, bytes}
use Rattle.wire.proofs.Laws.{length-bytes, length-splice, read_same}
use Rattle.wire.proofs.Agree.{Agree, agree_trans, agree_sized}
use Rattle.sets.specs.declared.Set.{Set}
use Rattle.sets.specs.Sets.{in_set, set_bytes, read_set, write_set}
use Rattle.sets.proofs.Laws.{read-written, length_write, agree_set}
use Rattle.sent.specs.Sent.{cells, counts_offset, sent_size, count_place, set_place, flag_place, check_place, max_acknowledgments}
use Rattle.sent.specs.Sent.{count_in, flag_in, sets_from, acks_in, check_in, written, acknowledged_in, checked_in}

-- ---- what a cell says

pub sets_agree : (n at : ℕ) {b b' : List ℕ} {from to : ℕ} → Agree b b' from to → from ≤ at → at + n * set_bytes ≤ to
    → sets_from n at b' ≡ sets_from n at b
unfolding sets_from
sets_agree zero at g h l = refl
sets_agree (suc n) at g h l =
    λ i. in_set (agree_set at g h (omega arith) i) ∷ sets_agree n (at + set_bytes) g (omega arith) (omega arith) i

pub acks_agree : (k : ℕ) {b b' : List ℕ} → count_in b' k ≡ count_in b k → Agree b b' (set_place k 0) (set_place k max_acknowledgments) → count_in b k ≤ max_acknowledgments → acks_in b' k ≡ acks_in b k
unfolding acks_in
acks_agree k {b} {b'} e g h = ap (λ (n : ℕ). sets_from n (set_place k 0) b') e ∙ sets_agree (count_in b k) (set_place k 0) g (omega arith) (omega arith)

pub check_agree : (k : ℕ) {b b' : List ℕ} → flag_in b' k ≡ flag_in b k → Agree b b' (check_place k) (check_place k + set_bytes) → check_in b' k ≡ check_in b k
unfolding check_in
check_agree k e g = λ i. pick (eqb (e i) 1) (Some (in_set (agree_set (check_place k) g (omega arith) (omega arith) i))) None

-- One set more stands after those before it.
pub sets_more : (n at : ℕ) (b : List ℕ) → sets_from (suc n) at b ≡ sets_from n at b ++ (in_set (read_set b (at + n * set_bytes)) ∷ [])
unfolding sets_from
sets_more zero at b = let e : at + 0 * set_bytes ≡ at = omega arith in rw e refl
sets_more (suc n) at b =
    let e : at + suc n * set_bytes ≡ at + set_bytes + n * set_bytes = omega arith in
    rw e (ap (λ (l : List theory.Set). in_set (read_set b at) ∷ l) (sets_more n (at + set_bytes) b))

pub length-sets : (n at : ℕ) (b : List ℕ) → length (sets_from n at b) ≡ n
unfolding sets_from
length-sets zero at b = refl
length-sets (suc n) at b = ap suc (length-sets n (at + set_bytes) b)

pub nth-set : (n at : ℕ) (b : List ℕ) (i : ℕ) → i < n → nth (sets_from n at b) i ≡ Some (in_set (read_set b (at + i * set_bytes)))
unfolding sets_from
nth-set zero at b i h = absurd (omega arith)
nth-set (suc n) at b zero h = let e : at + 0 * set_bytes ≡ at = omega arith in rw e refl
nth-set (suc n) at b (suc i) h =
    let e : at + suc i * set_bytes ≡ at + set_bytes + i * set_bytes = omega arith in
    rw e (nth-set n (at + set_bytes) b i (omega arith))

-- ---- a set and a byte written

module _ (b : List ℕ) (p : ℕ) (s : Set) (q x : ℕ) (hp : p + set_bytes ≤ length b) (hq : q + 1 ≤ length b) where
  pub length-written : length (written b p s q x) ≡ length b
  unfolding written
  length-written =
      let e = length_write b p s hp in
      let n = length-bytes 1 x in
      length-splice (write_set b p s) q (bytes 1 x) (omega arith) ∙ e

  pub agree_written : (from to : ℕ) → (to ≤ p) ⊎ (p + set_bytes ≤ from) → (to ≤ q) ⊎ (q + 1 ≤ from) → Agree b (written b p s q x) from to
  unfolding written write_set
  agree_written from to l m =
      let e = length_write b p s hp in
      agree_trans (agree_sized b p (bytes set_bytes s.bits) set_bytes from to (length-bytes set_bytes s.bits) hp l)
      (agree_sized (write_set b p s) q (bytes 1 x) 1 from to (length-bytes 1 x) (omega arith) m)

  pub number_written : x < 256 → read_le 1 (written b p s q x) q ≡ x
  unfolding written
  number_written h = let e = length_write b p s hp in read_same 1 (write_set b p s) q x (omega arith) h

  pub set-written : p + set_bytes ≤ q → s.bits < 2 ^ 64 → read_set (written b p s q x) p ≡ s
  unfolding written
  set-written l h =
      let e = length_write b p s hp in
      agree_set p (agree_sized (write_set b p s) q (bytes 1 x) 1 p (p + set_bytes) (length-bytes 1 x) (omega arith) (inl l)) (omega arith) (omega arith)
      ∙ read-written b p s hp h

-- A set and a byte after the sets leave every other byte there, and every other set.
module _ (b : List ℕ) (p : ℕ) (s : Set) (q x : ℕ) (size : length b ≡ sent_size) (among : p + set_bytes ≤ counts_offset) (lo : counts_offset ≤ q) (hi : q < sent_size) where
  pub number_kept : (at : ℕ) → counts_offset ≤ at → (at ≡ q → ⊥) → read_le 1 (written b p s q x) at ≡ read_le 1 b at
  number_kept at h n =
      (agree_written b p s q x (omega arith) (omega arith) at (at + 1) (inr (omega arith))
      (⊎_elim {C = (at + 1 ≤ q) ⊎ (q + 1 ≤ at)} (λ l. inl (omega arith)) (λ l. inr (omega arith)) (lt_or_le at q))
      ).reads 1 at (omega arith) (omega arith)

  pub sets-kept : (from to : ℕ) → to ≤ counts_offset → (to ≤ p) ⊎ (p + set_bytes ≤ from) → Agree b (written b p s q x) from to
  sets-kept from to h l = agree_written b p s q x (omega arith) (omega arith) from to l (inl (omega arith))

-- ---- the two writes, at their own cell

module _ (b : List ℕ) (k : ℕ) (s : Set) (size : length b ≡ sent_size) (inside : k < cells) where
  module _ (few : count_in b k < max_acknowledgments) where
    pub count_acknowledged : count_in (acknowledged_in b k s) k ≡ count_in b k + 1
    count_acknowledged =
        number_written b (set_place k (count_in b k)) s (count_place k) (count_in b k + 1) (omega arith) (omega arith) (omega arith)

    pub acks_acknowledged : s.bits < 2 ^ 64 → acks_in (acknowledged_in b k s) k ≡ acks_in b k ++ (in_set s ∷ [])
    unfolding acks_in
    acks_acknowledged h =
        let n = count_in b k in
        let b' = acknowledged_in b k s in
        let g = sets-kept b (set_place k n) s (count_place k) (n + 1) size (omega arith) (omega arith) (omega arith) (set_place k 0) (set_place k n) (omega arith) (inl (omega arith)) in
        let w = set-written b (set_place k n) s (count_place k) (n + 1) (omega arith) (omega arith) (omega arith) h in
        let e : set_place k 0 + n * set_bytes ≡ set_place k n = omega arith in
        ap (λ (m : ℕ). sets_from m (set_place k 0) b') (count_acknowledged ∙ add-one n) ∙ sets_more n (set_place k 0) b'
        ∙ (λ i. sets_agree n (set_place k 0) g (omega arith) (omega arith) i ++ (in_set ((ap (read_set b') e ∙ w) i) ∷ []))

    pub flag_acknowledged : flag_in (acknowledged_in b k s) k ≡ flag_in b k
    flag_acknowledged =
        number_kept b (set_place k (count_in b k)) s (count_place k) (count_in b k + 1) size (omega arith) (omega arith) (omega arith) (flag_place k) (omega arith) (λ e. omega arith)

    pub check_acknowledged : check_in (acknowledged_in b k s) k ≡ check_in b k
    check_acknowledged =
        check_agree k flag_acknowledged
        (sets-kept b (set_place k (count_in b k)) s (count_place k) (count_in b k + 1) size (omega arith) (omega arith) (omega arith) (check_place k) (check_place k + set_bytes)
        (omega arith) (inr (omega arith)))

  pub flag_checked : flag_in (checked_in b k s) k ≡ 1
  flag_checked = number_written b (check_place k) s (flag_place k) 1 (omega arith) (omega arith) (omega arith)

  pub check_checked : s.bits < 2 ^ 64 → check_in (checked_in b k s) k ≡ Some (in_set s)
  unfolding check_in
  check_checked h =
      let w = set-written b (check_place k) s (flag_place k) 1 (omega arith) (omega arith) (omega arith) h in
      λ i. pick (eqb (flag_checked i) 1) (Some (in_set (w i))) None

  pub count-checked : count_in (checked_in b k s) k ≡ count_in b k
  count-checked =
      number_kept b (check_place k) s (flag_place k) 1 size (omega arith) (omega arith) (omega arith) (count_place k) (omega arith) (λ e. omega arith)

  pub acks_checked : count_in b k ≤ max_acknowledgments → acks_in (checked_in b k s) k ≡ acks_in b k
  acks_checked =
      acks_agree k count-checked
      (sets-kept b (check_place k) s (flag_place k) 1 size (omega arith) (omega arith) (omega arith) (set_place k 0) (set_place k max_acknowledgments) (omega arith) (inl (omega arith)))
