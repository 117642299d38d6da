-- How the levels grow, set by set and entry by entry.
-- Assumes nothing.
use mathlib.Core.Path.{◌≡◌, refl, sym, ap, ◌∙◌}
use mathlib.Core.Bool.{Bool, true, false, ◌&&◌, ◌||◌, not}
use mathlib.Core.List.{List, ◌∷◌}
use mathlib.Core.Logic.{◌⊎◌, inl, inr}
use Prim.Native.Nat.{ℕ, zero, suc, ◌+◌, ◌*◌, ◌^◌, ◌≤◌, ◌<◌}
use native.Mathlib.Numerals.{add-one}
use native.Mathlib.Omega.{arith}
use lib.Dec.{leb}
use lib.ListN.{length, get_or}
use borrow.Author.Tests.{le-leb, lt-leb, eq-eqb, ne_eqb}
use Rattle.theory.specs.Sets.{pick, one, any}
use Rattle.theory.specs.Counting.{lt_or_le, not-true, not-false, count_none, count-more, any_empty, and_false, or_false}
use Rattle.sets.specs.declared.Set.{Set}
use Rattle.sets.specs.Sets.{capacity, in_set, set_of, empty_of, union_of, common_of}
use Rattle.sets.proofs.Laws.{word_lt, word_ext, in_empty, in_union, in_common, in_set_of, set_ext, union_fits, common_fits}
use Rattle.entries.specs.declared.Entry.{Entry}
use Rattle.entries.specs.Entries.{entry_size, entry_of}
use Rattle.entries.proofs.Bytes.{Fits, entry_fits}
use Rattle.recovery.specs.declared.Levels.{Levels}
use Rattle.std.proofs.Common.{replicate}
use Rattle.recovery.specs.Decisions.{counts_in, nc_count, in_any, at_least, max_level, levels_from, levels_of, no_levels, level_with, above_with, levels_with, levels_after}

same_levels : {a b : Levels} → a.at_least ≡ b.at_least → a.proposed ≡ b.proposed → a ≡ b
same_levels e p = λ i. record { at_least = e i; proposed = p i }

-- ---- one entry more, one law for each answer

module _ (r : ℕ) (valid : Set) (e : Entry) (l : Levels) where
  pub other_round : {x : ℕ} → x ≡ e.round → (x ≡ r → ⊥) → l ≡ levels_after r valid e l
  unfolding levels_after
  other_round ex n =
      ap (λ (b : Bool). pick (b && in_set valid e.site) (levels_with l e.nc e.c) l) (sym (ne_eqb e.round r (λ q. n (ex ∙ q))))

  module _ {x y : ℕ} {t : Bool} (ex : x ≡ e.round) (q : x ≡ r) (ey : y ≡ e.site) (et : t ≡ in_set valid y) where
    tested : pick t (levels_with l e.nc e.c) l ≡ levels_after r valid e l
    unfolding levels_after
    tested =
        λ i. pick (sym (eq-eqb e.round r (sym ex ∙ q)) i && (et ∙ ap (in_set valid) ey) i) (levels_with l e.nc e.c) l

    pub other_source : not t ≡ true → l ≡ levels_after r valid e l
    other_source h = ap (λ (b : Bool). pick b (levels_with l e.nc e.c) l) (sym (not-true t h)) ∙ tested

    pub valid_source : {nc c : Set} {l' : Levels} → not t ≡ false → nc ≡ e.nc → c ≡ e.c → l' ≡ levels_with l nc c → l' ≡ levels_after r valid e l
    valid_source h en ec el =
        el ∙ (λ i. levels_with l (en i) (ec i)) ∙ ap (λ (b : Bool). pick b (levels_with l e.nc e.c) l) (sym (not-false t h)) ∙ tested

-- ---- levels as sets

-- A set with the members of a predicate.
pub set_is : (s : Set) (p : ℕ → Bool) → s.bits < 2 ^ 64 → ((m : ℕ) → m < capacity → in_set s m ≡ p m) → s ≡ set_of capacity p
set_is s p h k = set_ext s (set_of capacity p) h (word_lt capacity p) (λ m l. k m l ∙ sym (in_set_of capacity p m l))

pub set_of_ext : (p q : ℕ → Bool) → ((m : ℕ) → m < capacity → p m ≡ q m) → set_of capacity p ≡ set_of capacity q
set_of_ext p q h = λ i. record { bits = word_ext capacity p q h i }

pub empty_is : (p : ℕ → Bool) → ((m : ℕ) → p m ≡ false) → empty_of ≡ set_of capacity p
empty_is p h = set_is empty_of p (omega arith) (λ m l. in_empty m ∙ sym (h m))

-- At least j and one more, where a number grows by one or by none.
level_up : (j n : ℕ) (b : Bool) → (leb (suc j) n || (leb j n && b)) ≡ leb (suc j) (n + one b)
level_up j n b = go (lt_or_le n (suc j)) (lt_or_le n j) b
  where
    go : (n < suc j) ⊎ (suc j ≤ n) → (n < j) ⊎ (j ≤ n) → (b : Bool) → (leb (suc j) n || (leb j n && b)) ≡ leb (suc j) (n + one b)
    go (inr h) w b =
        ap (λ (x : Bool). x || (leb j n && b)) (le-leb (suc j) n h) ∙ sym (le-leb (suc j) (n + one b) (omega arith))
    go (inl h) (inl l) true =
        (λ i. lt-leb (suc j) n h i || (lt-leb j n l i && true)) ∙ sym (lt-leb (suc j) (n + 1) (omega arith))
    go (inl h) (inr l) true =
        (λ i. lt-leb (suc j) n h i || (le-leb j n l i && true)) ∙ sym (le-leb (suc j) (n + 1) (omega arith))
    go (inl h) w false =
        ap (λ (x : Bool). x || (leb j n && false)) (lt-leb (suc j) n h) ∙ and_false (leb j n) ∙ sym (lt-leb (suc j) (n + 0) (omega arith))

-- One level with an NC set more.
level_more : (j : ℕ) (n : ℕ → ℕ) (nc : Set) → nc.bits < 2 ^ 64
    → level_with (set_of capacity (λ m. leb (suc j) (n m))) (set_of capacity (λ m. leb j (n m))) nc ≡ set_of capacity (λ m. leb (suc j) (n m + one (in_set nc m)))
unfolding level_with
level_more j n nc f =
    let high = set_of capacity (λ m. leb (suc j) (n m)) in
    let low = set_of capacity (λ m. leb j (n m)) in
    set_is (union_of high (common_of low nc)) (λ m. leb (suc j) (n m + one (in_set nc m)))
    (union_fits high (common_of low nc) (word_lt capacity (λ m. leb (suc j) (n m))) (common_fits low nc (word_lt capacity (λ m. leb j (n m))) f))
    (λ m l. in_union high (common_of low nc) m
    ∙ (λ i. in_set_of capacity (λ m. leb (suc j) (n m)) m l i || in_common low nc m i)
    ∙ ap (λ (x : Bool). leb (suc j) (n m) || (x && in_set nc m)) (in_set_of capacity (λ m. leb j (n m)) m l)
    ∙ level_up j (n m) (in_set nc m))

-- The lowest, below which every command counts.
lowest_more : (n : ℕ → ℕ) (nc : Set) → nc.bits < 2 ^ 64
    → level_with (set_of capacity (λ m. leb 1 (n m))) nc nc ≡ set_of capacity (λ m. leb 1 (n m + one (in_set nc m)))
unfolding level_with
lowest_more n nc f =
    let high = set_of capacity (λ m. leb 1 (n m)) in
    set_is (union_of high (common_of nc nc)) (λ m. leb 1 (n m + one (in_set nc m)))
    (union_fits high (common_of nc nc) (word_lt capacity (λ m. leb 1 (n m))) (common_fits nc nc f f))
    (λ m l. in_union high (common_of nc nc) m
    ∙ (λ i. in_set_of capacity (λ m. leb 1 (n m)) m l i || in_common nc nc m i)
    ∙ ap (λ (x : Bool). leb 1 (n m) || x) (and_same (in_set nc m))
    ∙ ap (λ (x : Bool). leb 1 (n m) || (x && in_set nc m)) (sym (le-leb 0 (n m) (omega arith)))
    ∙ level_up 0 (n m) (in_set nc m))
  where
    and_same : (x : Bool) → (x && x) ≡ x
    and_same true = refl
    and_same false = refl

proposed-more : (p : ℕ → Bool) (nc c : Set) → nc.bits < 2 ^ 64 → c.bits < 2 ^ 64
    → union_of (set_of capacity p) (union_of nc c) ≡ set_of capacity (λ m. p m || (in_set nc m || in_set c m))
proposed-more p nc c f g =
    set_is (union_of (set_of capacity p) (union_of nc c)) (λ m. p m || (in_set nc m || in_set c m))
    (union_fits (set_of capacity p) (union_of nc c) (word_lt capacity p) (union_fits nc c f g))
    (λ m l. in_union (set_of capacity p) (union_of nc c) m ∙ (λ i. in_set_of capacity p m l i || in_union nc c m i))

-- ---- the loop over the entries

-- Levels are the same if each is.
levels_ext : (p q : ℕ → Set) → ((j : ℕ) → 0 < j → p j ≡ q j) → (k c : ℕ) → 0 < k → levels_from p k c ≡ levels_from q k c
unfolding levels_from
levels_ext p q h k zero l = refl
levels_ext p q h k (suc c) l = λ i. h k l i ∷ levels_ext p q h (suc k) c (omega arith) i

levels_empty : (k c : ℕ) → replicate c empty_of ≡ levels_from (λ j. empty_of) k c
unfolding levels_from
levels_empty k zero = refl
levels_empty k (suc c) = λ i. empty_of ∷ levels_empty (suc k) c i

module _ (b : List ℕ) (r : ℕ) (valid : Set) where
  pub levels_none : no_levels ≡ levels_of b r valid 0
  unfolding levels_of
  levels_none =
      same_levels (levels_empty 1 max_level ∙ levels_ext (λ j. empty_of) (at_least b r valid 0) level 1 max_level (omega arith))
      (empty_is (in_any b r valid 0) (λ m. any_empty (λ i. counts_in r valid (entry_of b i) && (in_set (entry_of b i).nc m || in_set (entry_of b i).c m))))
    where
      level : (j : ℕ) → 0 < j → empty_of ≡ at_least b r valid 0 j
      level j h =
          empty_is (λ m. leb j (nc_count b r valid 0 m))
          (λ m. ap (leb j) (count_none (λ i. counts_in r valid (entry_of b i) && in_set (entry_of b i).nc m)) ∙ lt-leb j 0 h)

  module _ (k : ℕ) where
    count_next : (m : ℕ) → nc_count b r valid (k + 1) m ≡ nc_count b r valid k m + one (counts_in r valid (entry_of b k) && in_set (entry_of b k).nc m)
    count_next m = count-more k (λ i. counts_in r valid (entry_of b i) && in_set (entry_of b i).nc m)

    any_next : (m : ℕ) → in_any b r valid (k + 1) m
        ≡ (in_any b r valid k m || (counts_in r valid (entry_of b k) && (in_set (entry_of b k).nc m || in_set (entry_of b k).c m)))
    unfolding any
    any_next m = ap (λ (n : ℕ). any n (λ i. counts_in r valid (entry_of b i) && (in_set (entry_of b i).nc m || in_set (entry_of b i).c m))) (add-one k)

    level_next : (t : Bool) → counts_in r valid (entry_of b k) ≡ t → (j : ℕ)
        → set_of capacity (λ m. leb j (nc_count b r valid k m + one (t && in_set (entry_of b k).nc m))) ≡ at_least b r valid (k + 1) j
    level_next t e j =
        set_of_ext (λ m. leb j (nc_count b r valid k m + one (t && in_set (entry_of b k).nc m))) (λ m. leb j (nc_count b r valid (k + 1) m))
        (λ m l. ap (λ (x : Bool). leb j (nc_count b r valid k m + one (x && in_set (entry_of b k).nc m))) (sym e) ∙ ap (leb j) (sym (count_next m)))

    proposed-next : (t : Bool) → counts_in r valid (entry_of b k) ≡ t
        → set_of capacity (λ m. in_any b r valid k m || (t && (in_set (entry_of b k).nc m || in_set (entry_of b k).c m))) ≡ set_of capacity (in_any b r valid (k + 1))
    proposed-next t e =
        set_of_ext (λ m. in_any b r valid k m || (t && (in_set (entry_of b k).nc m || in_set (entry_of b k).c m))) (in_any b r valid (k + 1))
        (λ m l. ap (λ (x : Bool). in_any b r valid k m || (x && (in_set (entry_of b k).nc m || in_set (entry_of b k).c m))) (sym e) ∙ sym (any_next m))

    -- The levels from the one above the j-th on, with the NC set of an entry that counts.
    from_counted : Fits (entry_of b k) → counts_in r valid (entry_of b k) ≡ true → (j c : ℕ)
        → above_with (entry_of b k).nc (at_least b r valid k j) (levels_from (at_least b r valid k) (suc j) c)
        ≡ levels_from (at_least b r valid (k + 1)) (suc j) c
    unfolding above_with levels_from
    from_counted f e j zero = refl
    from_counted f e j (suc c) =
        λ i. (level_more j (nc_count b r valid k) (entry_of b k).nc f.nc ∙ level_next true e (suc j)) i ∷ from_counted f e (suc j) c i

    levels_counted : Fits (entry_of b k) → counts_in r valid (entry_of b k) ≡ true
        → levels_with (levels_of b r valid k) (entry_of b k).nc (entry_of b k).c ≡ levels_of b r valid (k + 1)
    unfolding levels_with levels_of above_with levels_from
    levels_counted f e =
        same_levels (λ i. (lowest_more (nc_count b r valid k) (entry_of b k).nc f.nc ∙ level_next true e 1) i ∷ from_counted f e 1 5 i)
        (proposed-more (in_any b r valid k) (entry_of b k).nc (entry_of b k).c f.nc f.c ∙ proposed-next true e)

    levels_passed : counts_in r valid (entry_of b k) ≡ false → levels_of b r valid k ≡ levels_of b r valid (k + 1)
    unfolding levels_of
    levels_passed e =
        same_levels (levels_ext (at_least b r valid k) (at_least b r valid (k + 1)) (λ j l. level j) 1 max_level (omega arith))
        (set_of_ext (in_any b r valid k) (λ m. in_any b r valid k m || false) (λ m l. sym (or_false (in_any b r valid k m))) ∙ proposed-next false e)
      where
        level : (j : ℕ) → at_least b r valid k j ≡ at_least b r valid (k + 1) j
        level j =
            set_of_ext (λ m. leb j (nc_count b r valid k m)) (λ m. leb j (nc_count b r valid k m + 0))
            (λ m l. let q : nc_count b r valid k m ≡ nc_count b r valid k m + 0 = omega arith in ap (leb j) q) ∙ level_next false e j

    pub levels_more : ((i : ℕ) → get_or b i 0 < 256) → k * entry_size + entry_size ≤ length b → {l l' : Levels} → l ≡ levels_of b r valid k
        → l' ≡ levels_after r valid (entry_of b k) l → l' ≡ levels_of b r valid (k + 1)
    unfolding levels_after
    levels_more small h el en =
        en ∙ ap (λ (x : Levels). levels_after r valid (entry_of b k) x) el ∙ go (counts_in r valid (entry_of b k)) refl
      where
        go : (t : Bool) → counts_in r valid (entry_of b k) ≡ t
            → pick t (levels_with (levels_of b r valid k) (entry_of b k).nc (entry_of b k).c) (levels_of b r valid k) ≡ levels_of b r valid (k + 1)
        go true e = levels_counted (entry_fits b small k h) e
        go false e = levels_passed e

  -- Entries of other rounds leave the levels empty.
  pub levels_before : (n : ℕ) → ((i : ℕ) → i < n → (entry_of b i).round ≡ r → ⊥) → no_levels ≡ levels_of b r valid n
  levels_before zero h = levels_none
  levels_before (suc n) h =
      levels_before n (λ i l. h i (omega arith))
      ∙ levels_passed n (ap (λ (x : Bool). x && in_set valid (entry_of b n).site) (ne_eqb (entry_of b n).round r (h n (omega arith))))
      ∙ ap (levels_of b r valid) (add-one n)
