-- A log whose entries a log read would take has at most 704: two of each of 11 sites in each of 32 rounds.
-- Assumes nothing.
use mathlib.Core.Path.{◌≡◌, refl, sym, ap, ◌∙◌}
use mathlib.Core.Bool.{true}
use mathlib.Core.List.{List}
use mathlib.Core.Logic.{◌⊎◌, inl, inr}
use Prim.Native.Nat.{ℕ, zero, suc, ◌+◌, ◌-◌, ◌≤◌, ◌<◌}
use native.Mathlib.Decide.{ℕ_discrete}
use native.Mathlib.Numerals.{add-one}
use native.Mathlib.Omega.{arith}
use lib.Dec.{ltb}
use borrow.Author.Tests.{ltb-true}
use Rattle.theory.specs.Sets.{all}
use Rattle.theory.specs.Counting.{left, right, last_or_below}
use Rattle.table.specs.Table.{max_sites}
use Rattle.protocol.specs.Recovery.{entries}
use Rattle.system.specs.Dash.{last_round}
use Rattle.entries.specs.Entries.{entry_of, log_to, in_range_of, good_at, good_to}
use Rattle.entries.proofs.Judging.{entries_none, entries_next, one_yes, one_no_site, one_no_round, in_range_told}

-- ---- sums

unfoldable total : ℕ → (ℕ → ℕ) → ℕ
total zero f = 0
total (suc n) f = total n f + f n

total_le : (n m : ℕ) (f : ℕ → ℕ) → ((i : ℕ) → i < n → f i ≤ m) → total n f ≤ total n (λ i. m)
unfolding total
total_le zero m f h = omega arith
total_le (suc n) m f h =
    let a = total_le n m f (λ i l. h i (omega arith)) in
    let b = h n (omega arith) in
    omega arith

total_same : (n : ℕ) (f g : ℕ → ℕ) → ((i : ℕ) → i < n → g i ≡ f i) → total n g ≡ total n f
unfolding total
total_same zero f g h = refl
total_same (suc n) f g h = λ i. total_same n f g (λ j l. h j (omega arith)) i + h n (omega arith) i

-- One of the numbers is one more.
total-one : (n : ℕ) (f g : ℕ → ℕ) (c : ℕ) → c < n → g c ≡ f c + 1 → ((i : ℕ) → (i ≡ c → ⊥) → g i ≡ f i) → total n g ≡ total n f + 1
unfolding total
total-one zero f g c l e h = absurd (omega arith)
total-one (suc n) f g c l e h = go (last_or_below c n l) (λ k. total-one n f g c k e h)
  where
    go : (c ≡ n) ⊎ (c < n) → (c < n → total n g ≡ total n f + 1) → total (suc n) g ≡ total (suc n) f + 1
    go (inl q) r =
        let a = total_same n f g (λ i k. h i (λ z. omega arith)) in
        let b : g n ≡ f n + 1 = ap g (sym q) ∙ e ∙ ap (λ (x : ℕ). f x + 1) q in
        omega arith
    go (inr k) r =
        let a = r k in
        let b = h n (λ z. omega arith) in
        omega arith

-- Sums of one number.
rounds_twice : total last_round (λ i. 2) ≡ 64
unfolding total
rounds_twice = refl

sites_rounds_twice : total max_sites (λ i. 64) ≡ 704
unfolding total
sites_rounds_twice = refl

zeros : (n : ℕ) → total n (λ i. 0) ≡ 0
unfolding total
zeros zero = refl
zeros (suc n) = let e = zeros n in omega arith

-- ---- entries

module _ (b : List ℕ) (n m : ℕ) where
  -- How many of the first k entries are of each site and round, summed up.
  abbrev entries_in : ℕ → ℕ
  entries_in k = total max_sites (λ j. total last_round (λ r. entries j (suc r) (log_to b k)))

  none_of : (j r k : ℕ) → (j ≡ (entry_of b k).site → r ≡ (entry_of b k).round → ⊥) → entries j r (log_to b (k + 1)) ≡ entries j r (log_to b k)
  none_of j r k d =
      let e = entries_next b j r k in
      elim (ℕ_discrete (entry_of b k).site j) [
        | yes s ↦ let z = one_no_round b j r k refl (λ q. d (sym s) (sym q)) in omega arith
        | no s ↦ let z = one_no_site b j r k refl s in omega arith
      ]

  one_of : (k : ℕ) → entries (entry_of b k).site (entry_of b k).round (log_to b (k + 1)) ≡ entries (entry_of b k).site (entry_of b k).round (log_to b k) + 1
  one_of k =
      let e = entries_next b (entry_of b k).site (entry_of b k).round k in
      let z = one_yes b (entry_of b k).site (entry_of b k).round k refl refl refl refl in
      omega arith

  last_good : (k : ℕ) → good_to b n m (suc k) ≡ true → (good_to b n m k ≡ true) × (good_at b n m k ≡ true)
  unfolding all
  last_good k h = (left (good_to b n m k) (good_at b n m k) h, right (good_to b n m k) (good_at b n m k) h)

  -- No third of a site and round.
  each_two : (k : ℕ) → good_to b n m k ≡ true → (j r : ℕ) → entries j r (log_to b k) ≤ 2
  each_two zero h j r = let e = entries_none b j r in omega arith
  each_two (suc k) h j r =
      let g = last_good k h in
      let before = each_two k g.0 j r in
      let few = ltb-true (entries (entry_of b k).site (entry_of b k).round (log_to b k)) 2
      (right (in_range_of n m (entry_of b k)) (ltb (entries (entry_of b k).site (entry_of b k).round (log_to b k)) 2) g.1) in
      rw (← add-one k) (elim (ℕ_discrete j (entry_of b k).site) [
        | yes s ↦ elim (ℕ_discrete r (entry_of b k).round) [
          | yes t ↦ (let z = one_of k in rw (s, t) (omega arith))
          | no t ↦ (let z = none_of j r k (λ p q. t q) in omega arith)
        ]
        | no s ↦ (let z = none_of j r k (λ p q. s p) in omega arith)
      ])

  -- Every entry is of one site and round.
  sum_is : n ≤ max_sites → (k : ℕ) → good_to b n m k ≡ true → entries_in k ≡ k
  sum_is l zero h =
      total_same max_sites (λ j. 0) (λ j. total last_round (λ r. entries j (suc r) (log_to b 0)))
      (λ j _. total_same last_round (λ r. 0) (λ r. entries j (suc r) (log_to b 0)) (λ r _. sym (entries_none b j (suc r))) ∙ zeros last_round)
      ∙ zeros max_sites
  sum_is l (suc k) h =
      let g = last_good k h in
      let before = sum_is l k g.0 in
      let w = in_range_told n m (entry_of b k) (left (in_range_of n m (entry_of b k)) (ltb (entries (entry_of b k).site (entry_of b k).round (log_to b k)) 2) g.1) in
      let z : suc ((entry_of b k).round - 1) ≡ (entry_of b k).round = omega (arith, w.some-round) in
      let more =
      total-one max_sites (λ j. total last_round (λ r. entries j (suc r) (log_to b k))) (λ j. total last_round (λ r. entries j (suc r) (log_to b (k + 1))))
      (entry_of b k).site (omega (arith, w.site))
      (total-one last_round (λ r. entries (entry_of b k).site (suc r) (log_to b k)) (λ r. entries (entry_of b k).site (suc r) (log_to b (k + 1)))
      ((entry_of b k).round - 1) (omega (arith, w.round, w.some-round))
      (rw z (one_of k))
      (λ r d. none_of (entry_of b k).site (suc r) k (λ p q. d (omega arith))))
      (λ j d. total_same last_round (λ r. entries j (suc r) (log_to b k)) (λ r. entries j (suc r) (log_to b (k + 1)))
      (λ r _. none_of j (suc r) k (λ p q. d p))) in
      ap entries_in (sym (add-one k)) ∙ more ∙ ap (λ (x : ℕ). x + 1) before ∙ add-one k

  pub few_entries : n ≤ max_sites → (k : ℕ) → good_to b n m k ≡ true → k ≤ 704
  few_entries l k h =
      let e = sum_is l k h in
      let t = total_le max_sites 64 (λ j. total last_round (λ r. entries j (suc r) (log_to b k)))
      (λ j _. rw rounds_twice at (total_le last_round 2 (λ r. entries j (suc r) (log_to b k)) (λ r _. each_two k h j (suc r)))) in
      let w = sites_rounds_twice in
      omega arith
