-- A round that no entry decides yet has too few valid sources; a member added to a set once more changes nothing.
-- Assumes nothing.
use mathlib.Core.Path.{◌≡◌, refl, sym, ap, ◌∙◌}
use mathlib.Core.Bool.{Bool, true, false, ◌&&◌, not}
use mathlib.Core.List.{List}
use mathlib.Core.Logic.{◌⊎◌, inl, inr}
use Prim.Native.Nat.{ℕ, zero, suc, ◌+◌, ◌≤◌, ◌<◌, ◌^◌}
use native.Mathlib.Decide.{ℕ_discrete}
use native.Mathlib.Omega.{arith}
use lib.Dec.{eqb, ltb}
use lib.Pow.{pow_mono, pow-lt}
use lib.Bits.{or_lt}
use borrow.Author.Tests.{ltb-true, eqb-false}
use Rattle.theory.specs.Sets.{pick}
use Rattle.theory.specs.Counting.{left, right, never, lt_or_le, count_mono, count-some}
use Rattle.sets.specs.declared.Set.{Set}
use Rattle.sets.specs.Sets.{capacity, in_set, empty_of, with_of, without_of, size_of}
use Rattle.sets.proofs.Laws.{has_ext, in_empty, in_without}
use Rattle.table.specs.declared.SiteTable.{SiteTable}
use Rattle.table.specs.Table.{is_good, n_chk_of}
use Rattle.table.proofs.Laws.{good_limits}
use Rattle.calm.specs.Rows.{free_by}
use Rattle.calm.proofs.Laws.{less_same, less_other, less_size}
use Rattle.entries.specs.declared.Entry.{Entry}
use Rattle.entries.specs.Entries.{entry_of}
use Rattle.standing.specs.declared.Standing.{Standing}
use Rattle.standing.specs.Standings.{valid_after, marked, with_entry, standing_of}
use Rattle.standing.proofs.Agreement.{with_same, with_other}

-- ---- a member added once more

small : (n : ℕ) → n < 2 ^ n
small zero = omega arith
small (suc n) = omega (arith, small n, pow-lt {i = n} {j = suc n} (omega arith))

pub with_member : (s : Set) (m : ℕ) → in_set s m ≡ true → with_of s m ≡ s
unfolding with_of
with_member s m h = λ i. record { bits = same i }
  where
    low : s.bits < 2 ^ (s.bits + (m + 1))
    low = omega (arith, small s.bits, pow_mono {i = s.bits} {j = s.bits + (m + 1)} (omega arith))

    one : 2 ^ m < 2 ^ (s.bits + (m + 1))
    one = pow-lt {i = m} {j = s.bits + (m + 1)} (omega arith)

    at : (j : ℕ) → Dec (j ≡ m) → in_set (with_of s m) j ≡ in_set s j
    at j (yes q) = ap (in_set (with_of s m)) q ∙ with_same s m ∙ sym h ∙ ap (in_set s) (sym q)
    at j (no n) = with_other s m j n

    same : (with_of s m).bits ≡ s.bits
    same =
        has_ext (s.bits + (m + 1)) (with_of s m).bits s.bits (or_lt (s.bits + (m + 1)) s.bits (2 ^ m) low one) low
        (λ j l. at j (ℕ_discrete j m))

-- ---- how many sources are valid

none_size : size_of empty_of ≡ 0
none_size = go (lt_or_le 0 (size_of empty_of))
  where
    go : (0 < size_of empty_of) ⊎ (size_of empty_of ≤ 0) → size_of empty_of ≡ 0
    go (inl l) = let m = count-some capacity (in_set empty_of) l in absurd (never (in_set empty_of m.0) m.2 (in_empty m.0))
    go (inr l) = omega arith

pub less_fewer : (s : Set) (m : ℕ) → size_of (without_of s (with_of empty_of m)) ≤ size_of s
less_fewer s m =
    count_mono capacity (in_set (without_of s (with_of empty_of m))) (in_set s)
    (λ j l h. left (in_set s j) (not (in_set (with_of empty_of m) j)) (sym (in_without s (with_of empty_of m) j) ∙ h))

with-one-more : (s : Set) (m : ℕ) → m < capacity → size_of (with_of s m) ≤ size_of s + 1
with-one-more s m l =
    let rest = without_of (with_of s m) (with_of empty_of m) in
    omega (arith, less_size (with_of s m) m l (with_same s m), count_mono capacity (in_set rest) (in_set s) (λ j b h. within j (ℕ_discrete j m) h))
  where
    within : (j : ℕ) → Dec (j ≡ m) → in_set (without_of (with_of s m) (with_of empty_of m)) j ≡ true → in_set s j ≡ true
    within j (yes q) h =
        absurd (never (in_set (without_of (with_of s m) (with_of empty_of m)) m) (ap (in_set (without_of (with_of s m) (with_of empty_of m))) (sym q) ∙ h) (less_same (with_of s m) m))
    within j (no n) h = sym (with_other s m j n) ∙ sym (less_other (with_of s m) m j n) ∙ h

one_entry : (rows : List ℕ) (site : ℕ) (nc : Set) (s : Standing) → site < capacity → size_of (valid_after rows site nc s) ≤ size_of s.valid + 1
unfolding valid_after
one_entry rows site nc s l = go (in_set s.seen site) (free_by rows (in_set nc))
  where
    go : (a f : Bool) → size_of (pick a (without_of s.valid (with_of empty_of site)) (pick f (with_of s.valid site) s.valid)) ≤ size_of s.valid + 1
    go true f = omega (arith, less_fewer s.valid site)
    go false true = with-one-more s.valid site l
    go false false = omega arith

-- A round is decided as soon as it has enough, and each entry adds one at most.
pub too_few : (t : SiteTable) (rows : List ℕ) (r : ℕ) (b : List ℕ) → is_good t ≡ true → (k : ℕ) → (standing_of t rows r b k).decided ≡ false
    → size_of (standing_of t rows r b k).valid < n_chk_of t
unfolding standing_of with_entry
too_few t rows r b good zero d = let l = good_limits t good in omega (arith, none_size)
too_few t rows r b good (suc k) d =
    go (entry_of b k) (standing_of t rows r b k) (standing_of t rows r b k).decided refl (too_few t rows r b good k) d
  where
    added : (e : Entry) (s : Standing) → size_of s.valid < n_chk_of t → (c : Bool) → (eqb e.round r && ltb e.site t.sites) ≡ c
        → (pick c (marked t rows (suc k) e s) s).decided ≡ false → size_of (pick c (marked t rows (suc k) e s) s).valid < n_chk_of t
    added e s h true q d =
        let l = (good_limits t good).sites in
        let w = ltb-true e.site t.sites (right (eqb e.round r) (ltb e.site t.sites) q) in
        let n = eqb-false (size_of (valid_after rows e.site e.nc s)) (n_chk_of t) d in
        omega (arith, one_entry rows e.site e.nc s (omega arith))
    added e s h false q d = h

    go : (e : Entry) (s : Standing) (c : Bool) → s.decided ≡ c → (s.decided ≡ false → size_of s.valid < n_chk_of t)
        → (pick c s (with_entry t rows r (suc k) e s)).decided ≡ false → size_of (pick c s (with_entry t rows r (suc k) e s)).valid < n_chk_of t
    go e s true q h d = absurd (never s.decided q d)
    go e s false q h d = added e s (h q) (eqb e.round r && ltb e.site t.sites) refl d
