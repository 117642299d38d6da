-- The first entry of a round among a log's first entries.
-- Assumes nothing.
use Rattle.std.specs.Option.{MatchOption, unwrap_or}
use Rattle.std.proofs.Common.{Option, Some, None}
use mathlib.Core.Path.{◌≡◌}
use mathlib.Core.Bool.{Bool}
use mathlib.Core.List.{List}
use mathlib.Core.Logic.{⊎_elim}
use Prim.Native.Nat.{ℕ, ◌≤◌, ◌<◌}
use native.Mathlib.Omega.{arith}
use lib.Dec.{eqb}
use borrow.Author.Tests.{eq-eqb, eqb-true}
use Rattle.theory.specs.Counting.{lt_or_le, never}
use Rattle.sets.specs.Sets.{least}
use Rattle.sets.proofs.Laws.{least_le, least_in, least-before}
use Rattle.entries.specs.Entries.{entry_of}

module _ (b : List ℕ) (r : ℕ) where
  -- The i-th entry is of the round.
  abbrev is_of : ℕ → Bool
  is_of i = eqb (entry_of b i).round r

  -- None of the first i is.
  abbrev NoneOf : ℕ → Type 0
  NoneOf i = (j : ℕ) → 0 ≤ j → j < i → (entry_of b j).round ≡ r → ⊥

  -- The first is no earlier then.
  none_below : (i k : ℕ) → i ≤ k → NoneOf i → i ≤ least k is_of
  none_below i k l h =
      ⊎_elim
      (λ g. absurd (h (least k is_of) (omega arith) g (eqb-true (entry_of b (least k is_of)).round r (least_in k is_of (omega arith)))))
      (λ g. g)
      (lt_or_le (least k is_of) i)

  -- What a search among the first k tells.
  pub first_searched : (k : ℕ) (o : Option ℕ)
      → MatchOption o (NoneOf k) (λ i. (0 ≤ i) × (i < k) × ((entry_of b i).round ≡ r) × NoneOf i)
      → unwrap_or o k ≡ least k is_of
  first_searched k None h = omega (arith, least_le k is_of, none_below k k (omega arith) h)
  first_searched k (Some i) h =
      let n = none_below i k (omega arith) h.3 in
      ⊎_elim
      (λ g. absurd (never (is_of i) (eq-eqb (entry_of b i).round r h.2) (least-before k is_of i g)))
      (λ g. omega arith)
      (lt_or_le i (least k is_of))

  -- No entry before the first is of the round.
  pub first_told : (k : ℕ) {f : ℕ} → f ≡ least k is_of → (f ≤ k) × ((i : ℕ) → i < f → (entry_of b i).round ≡ r → ⊥)
  first_told k {f} e =
      let g = least_le k is_of in
      (omega arith, λ i l q. never (is_of i) (eq-eqb (entry_of b i).round r q) (least-before k is_of i (omega arith)))
