-- What was sent after each write: the bytes are good, and the views differ in one cell, or say that nothing was sent.
-- Assumes nothing.
use Rattle.std.specs.Prelude.{None, Some}
use mathlib.Core.Path.{◌≡◌, refl, sym, ap, subst, ◌∙◌}
use mathlib.Core.Bool.{true}
use mathlib.Core.Logic.{◌⊎◌, inl, inr, ⊎_elim}
use mathlib.Core.List.{List, [], ◌∷◌, ◌++◌}
use Prim.Native.Nat.{ℕ, ◌+◌, ◌*◌, ◌^◌, ◌≤◌, ◌<◌}
use native.Mathlib.Omega.{arith}
use native.Mathlib.Decide.{ℕ_discrete}
use lib.Dec.{eqb}
use lib.ListN.{length, replicate, length-replicate}
use Rattle.theory.specs.Sets.{pick}
use Rattle.theory.specs.Counting.{lt_or_le, pick_same}
use Rattle.wire.specs.Wire.{read_le, bytes, splice}
use Rattle.wire.proofs.Laws.{length-splice}
use Rattle.wire.proofs.Agree.{Agree}
use Rattle.wire.proofs.Small.{read_zeros}
use Rattle.sets.specs.declared.Set.{Set}
use Rattle.sets.specs.Sets.{in_set, set_bytes, read_set, write_set}
use Rattle.sent.specs.Sent.{max_acknowledgments, cells, counts_offset, sent_size, cell_of, count_place, set_place, flag_place, check_place}
use Rattle.sent.specs.Sent.{count_in, flag_in, sets_from, acks_in, check_in, in_table, acks_of, checks_of, GoodSent}
use Rattle.sent.specs.Sent.{cleared, written, acknowledged_in, checked_in, one_more, checked, Holds}
use Rattle.sent.proofs.Cells.{acks_agree, check_agree, length-written, number_kept, sets-kept}
use Rattle.sent.proofs.Cells.{count_acknowledged, acks_acknowledged, flag_acknowledged, check_acknowledged, flag_checked, check_checked, count-checked, acks_checked}
use Rattle.sent.proofs.Laws.{cell_inside, same_view, other_view, length_acks}

-- A cell is the same.
record Same (b b' : List ℕ) (k : ℕ) : Type 0 where
  count : count_in b' k ≡ count_in b k
  flag : flag_in b' k ≡ flag_in b k
  sets : Agree b b' (set_place k 0) (set_place k max_acknowledgments)
  check : Agree b b' (check_place k) (check_place k + set_bytes)

same_acks : (k : ℕ) {b b' : List ℕ} → Same b b' k → count_in b k ≤ max_acknowledgments → acks_in b' k ≡ acks_in b k
same_acks k g h = acks_agree k g.count g.sets h

same_check : (k : ℕ) {b b' : List ℕ} → Same b b' k → check_in b' k ≡ check_in b k
same_check k g = check_agree k g.flag g.check

-- ---- a message sent

-- A cell is the one written, or another.
module _ (k : ℕ) {b b' : List ℕ} (old : GoodSent b) (size : length b' ≡ sent_size) (there : (m : ℕ) → m < cells → (m ≡ k → ⊥) → Same b b' m) where
  -- The bytes stay good where the cell written is.
  good_after : count_in b' k ≤ max_acknowledgments → flag_in b' k ≤ 1 → GoodSent b'
  good_after c f =
      record {
        size = size;
        counts =
            λ m l. elim (ℕ_discrete m k) [ yes e ↦ subst (λ (x : ℕ). count_in b' x ≤ max_acknowledgments) (sym e) c | no n ↦ omega (arith, (there m l n).count, old.counts m l) ];
        flags = λ m l. elim (ℕ_discrete m k) [ yes e ↦ subst (λ (x : ℕ). flag_in b' x ≤ 1) (sym e) f | no n ↦ omega (arith, (there m l n).flag, old.flags m l) ];
      }

  -- The check messages stay where those of the cell written do.
  checks_same : check_in b' k ≡ check_in b k → checks_of b' ≡ checks_of b
  unfolding checks_of
  checks_same h =
      λ i j r.
      same_view (check_in b') (check_in b) None
      (λ m l. elim (ℕ_discrete m k) [ yes e ↦ ap (check_in b') e ∙ h ∙ ap (check_in b) (sym e) | no n ↦ same_check m (there m l n) ]) j r i

  acks_same : acks_in b' k ≡ acks_in b k → acks_of b' ≡ acks_of b
  unfolding acks_of
  acks_same h =
      λ i j r.
      same_view (acks_in b') (acks_in b) []
      (λ m l. elim (ℕ_discrete m k) [ yes e ↦ ap (acks_in b') e ∙ h ∙ ap (acks_in b) (sym e) | no n ↦ same_acks m (there m l n) (old.counts m l) ]) j r i

-- Two parts that share no byte.
abbrev Apart : ℕ → ℕ → ℕ → ℕ → Type 0
Apart from to p n = (to ≤ p) ⊎ (p + n ≤ from)

-- A write that meets no set of another cell leaves that cell.
elsewhere : (b : List ℕ) (p : ℕ) (s : Set) (q x k m : ℕ) → length b ≡ sent_size → k < cells → m < cells → p + set_bytes ≤ counts_offset
    → Apart (set_place m 0) (set_place m max_acknowledgments) p set_bytes → Apart (check_place m) (check_place m + set_bytes) p set_bytes
    → (q ≡ count_place k) ⊎ (q ≡ flag_place k) → (m ≡ k → ⊥) → Same b (written b p s q x) m
elsewhere b p s q x k m size inside there among sets check at n =
    let lower : counts_offset ≤ q = ⊎_elim (λ e. omega arith) (λ e. omega arith) at in
    let upper : q < sent_size = ⊎_elim (λ e. omega arith) (λ e. omega arith) at in
    record {
      count = number_kept b p s q x size among lower upper (count_place m) (omega arith) (λ e. ⊎_elim (λ f. omega arith) (λ f. omega arith) at);
      flag = number_kept b p s q x size among lower upper (flag_place m) (omega arith) (λ e. ⊎_elim (λ f. omega arith) (λ f. omega arith) at);
      sets = sets-kept b p s q x size among lower upper (set_place m 0) (set_place m max_acknowledgments) (omega arith) sets;
      check = sets-kept b p s q x size among lower upper (check_place m) (check_place m + set_bytes) (omega arith) check;
    }

-- An acknowledgment of one cell stands apart from those of another, and a check message from another's.
module _ (k m : ℕ) (other : m ≡ k → ⊥) where
  sets_apart : (n : ℕ) → n < max_acknowledgments → Apart (set_place m 0) (set_place m max_acknowledgments) (set_place k n) set_bytes
  sets_apart n h =
      ⊎_elim {C = Apart (set_place m 0) (set_place m max_acknowledgments) (set_place k n) set_bytes} (λ l. inl (omega arith)) (λ l. inr (omega arith)) (lt_or_le m k)

  checks_apart : Apart (check_place m) (check_place m + set_bytes) (check_place k) set_bytes
  checks_apart = ⊎_elim {C = Apart (check_place m) (check_place m + set_bytes) (check_place k) set_bytes} (λ l. inl (omega arith)) (λ l. inr (omega arith)) (lt_or_le m k)

module _ (b : List ℕ) (j r : ℕ) (s : Set) (old : GoodSent b) (t : in_table j r ≡ true) (fits : s.bits < 2 ^ 64) where
  -- One acknowledgment more.
  pub acknowledged : length (acks_of b j r) < max_acknowledgments → {b' : List ℕ} → b' ≡ acknowledged_in b (cell_of j r) s
      → Holds b' (acknowledged_in b (cell_of j r) s) (one_more j r (in_set s) (acks_of b)) (checks_of b)
  unfolding acks_of
  acknowledged h e =
      let k = cell_of j r in
      let z = old.size in
      let inside = cell_inside j r t in
      let few : count_in b k < max_acknowledgments = subst (λ (x : ℕ). x < max_acknowledgments) (length_acks b j r t) h in
      let new = acknowledged_in b k s in
      let there : (m : ℕ) → m < cells → (m ≡ k → ⊥) → Same b new m =
      λ m l n. elsewhere b (set_place k (count_in b k)) s (count_place k) (count_in b k + 1) k m z inside l (omega arith) (sets_apart k m n (count_in b k) few) (inr (omega arith)) (inl refl) n in
      let size : length new ≡ sent_size = length-written b (set_place k (count_in b k)) s (count_place k) (count_in b k + 1) (omega arith) (omega arith) ∙ z in
      let c = count_acknowledged b k s z inside few in
      let f : flag_in new k ≤ 1 = omega (arith, flag_acknowledged b k s z inside few, old.flags k inside) in
      subst (λ (x : List ℕ). Holds x new (one_more j r (in_set s) (acks_of b)) (checks_of b)) (sym e)
      (record {
        bytes = refl;
        acks =
            λ i j' r'.
            other_view (acks_in new) (acks_in b) [] (λ l. l ++ (in_set s ∷ [])) j r t (acks_acknowledged b k s z inside few fits)
            (λ m l n. same_acks m (there m l n) (old.counts m l)) j' r' i;
        checks = checks_same k old size there (check_acknowledged b k s z inside few);
        good = good_after k old size there (omega arith) f;
      })

  -- A check message.
  pub check_sent : {b' : List ℕ} → b' ≡ checked_in b (cell_of j r) s → Holds b' (checked_in b (cell_of j r) s) (acks_of b) (checked j r (in_set s) (checks_of b))
  unfolding checks_of
  check_sent e =
      let k = cell_of j r in
      let z = old.size in
      let inside = cell_inside j r t in
      let new = checked_in b k s in
      let there : (m : ℕ) → m < cells → (m ≡ k → ⊥) → Same b new m =
      λ m l n. elsewhere b (check_place k) s (flag_place k) 1 k m z inside l (omega arith) (inl (omega arith)) (checks_apart k m n) (inr refl) n in
      let size : length new ≡ sent_size = length-written b (check_place k) s (flag_place k) 1 (omega arith) (omega arith) ∙ z in
      let c : count_in new k ≤ max_acknowledgments = omega (arith, count-checked b k s z inside, old.counts k inside) in
      let f = flag_checked b k s z inside in
      subst (λ (x : List ℕ). Holds x new (acks_of b) (checked j r (in_set s) (checks_of b))) (sym e)
      (record {
        bytes = refl;
        acks = acks_same k old size there (acks_checked b k s z inside (old.counts k inside));
        checks =
            λ i j' r'.
            other_view (check_in new) (check_in b) None (λ l. Some (in_set s)) j r t (check_checked b k s z inside fits)
            (λ m l n. same_check m (there m l n)) j' r' i;
        good = good_after k old size there c (omega arith);
      })

-- The writes as they are made, from the cell.
pub acknowledged_bytes : (b : List ℕ) (k : ℕ) (s : Set) {counted n at : ℕ} {c d : List ℕ} → counted ≡ count_place k → n ≡ read_le 1 b counted → at ≡ set_place k n → c ≡ write_set b at s
    → d ≡ splice c counted (bytes 1 (n + 1)) → d ≡ acknowledged_in b k s
unfolding written
acknowledged_bytes b k s q e f g h = rw (h, g, f, e, q) refl

pub checked-bytes : (b : List ℕ) (k : ℕ) (s : Set) {flagged at : ℕ} {c d : List ℕ} → flagged ≡ flag_place k → at ≡ check_place k → c ≡ write_set b at s → d ≡ splice c flagged (bytes 1 1)
    → d ≡ checked_in b k s
unfolding written
checked-bytes b k s q e f g = rw (g, f, e, q) refl

-- ---- nothing sent

-- A number among the bytes cleared is 0.
cleared_at : (b : List ℕ) → length b ≡ sent_size → (at : ℕ) → counts_offset ≤ at → at < sent_size → read_le 1 (cleared b) at ≡ 0
unfolding cleared
cleared_at b size at h l = read_zeros 1 b counts_offset (2 * cells) at (omega arith) h (omega arith)

-- Nothing is sent once all counts and flags are cleared.
pub cleared_holds : (b : List ℕ) {b' : List ℕ} → length b ≡ sent_size → b' ≡ splice b counts_offset (replicate (2 * cells) 0) → Holds b' (cleared b) (λ j r. []) (λ j r. None)
unfolding cleared acks_of checks_of acks_in check_in sets_from
cleared_holds b h e =
    let new = cleared b in
    let at = cleared_at b h in
    subst (λ (x : List ℕ). Holds x new (λ j r. []) (λ j r. None)) (sym e)
    (record {
      bytes = refl;
      acks =
          λ i j r.
          (same_view (acks_in new) (λ m. []) [] (λ m l. ap (λ (n : ℕ). sets_from n (set_place m 0) new) (at (count_place m) (omega arith) (omega arith))) j r ∙ pick_same (in_table j r) []) i;
      checks =
          λ i j r.
          (same_view (check_in new) (λ m. None) None
          (λ m l. ap (λ (n : ℕ). pick (eqb n 1) (Some (in_set (read_set new (check_place m)))) None) (at (flag_place m) (omega arith) (omega arith))) j r
          ∙ pick_same (in_table j r) None) i;
      good =
          record {
            size = length-splice b counts_offset (replicate (2 * cells) 0) (omega (arith, length-replicate {A = ℕ} (2 * cells) 0)) ∙ h;
            counts = λ m l. omega (arith, at (count_place m) (omega arith) (omega arith));
            flags = λ m l. omega (arith, at (flag_place m) (omega arith) (omega arith));
          };
    })
