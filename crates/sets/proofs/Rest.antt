-- A word and the word before it: they differ up to the lowest digit that is set.
-- Rests on Laws.
use mathlib.Core.Path.{◌≡◌, refl, sym, ap, ◌∙◌}
use mathlib.Core.Bool.{Bool, true, false, ◌&&◌, ◌||◌, not}
use Prim.Native.Nat.{ℕ, zero, suc, ◌-◌, ◌/◌, ◌%◌, ◌^◌, ◌<◌}
use native.Mathlib.Omega.{arith}
use lib.Arith.{lt-one}
use lib.Dec.{eqb, eqb-suc-suc, eqb-suc-zero}
use lib.Bits.{bit_and, and_lt}
use lib.Pow.{pow_pos}
use borrow.Author.Tests.{eqb-false}
use Rattle.theory.specs.Sets.{pick}
use Rattle.theory.specs.Counting.{never, under_test}
use Rattle.sets.specs.declared.Set.{Set}
use Rattle.sets.specs.Sets.{has, least, in_set, empty_of, with_of, is_empty_of, first_of, rest_of}
use Rattle.sets.proofs.Laws.{has-zero, has-suc, has_and, half_lt, least_ext, in_empty, in_with, in_without}
use Rattle.sets.proofs.Laws.{set_ext, with_fits, without_fits, first_in, empty_word}

-- Of a word's members all but the least are in the word before it.
before : (k n j : ℕ) → 0 < n → n < 2 ^ k → has n j ≡ true → has (n - 1) j ≡ not (eqb j (least k (has n)))
unfolding least
before zero n j p h i = let e = lt-one h in absurd (omega arith)
before (suc k) n j p h i =
    go (n % 2) refl (omega arith) j i (λ q m. before k (n / 2) m q (half_lt k n h))
    ∙ ap (λ (b : Bool). not (eqb j (pick b 0 (suc (least k (λ m. has n (suc m))))))) (sym (has-zero n))
  where
    go : (x : ℕ) → n % 2 ≡ x → x < 2 → (j : ℕ) → has n j ≡ true
        → (0 < n / 2 → (m : ℕ) → has (n / 2) m ≡ true → has (n / 2 - 1) m ≡ not (eqb m (least k (has (n / 2)))))
        → has (n - 1) j ≡ not (eqb j (pick (eqb x 1) 0 (suc (least k (λ m. has n (suc m))))))
    go zero e l zero i r = absurd (never (has n 0) i (has-zero n ∙ ap (λ (x : ℕ). eqb x 1) e))
    go zero e l (suc j) i r =
        let half : (n - 1) / 2 ≡ n / 2 - 1 = omega arith in
        has-suc (n - 1) j ∙ ap (λ (x : ℕ). has x j) half ∙ r (omega arith) j (sym (has-suc n j) ∙ i)
        ∙ ap (λ (x : ℕ). not (eqb j x)) (least_ext k (has (n / 2)) (λ m. has n (suc m)) (λ m. sym (has-suc n m)))
        ∙ ap not (sym (eqb-suc-suc j (least k (λ m. has n (suc m)))))
    go (suc zero) e l zero i r = let low : (n - 1) % 2 ≡ 0 = omega arith in has-zero (n - 1) ∙ ap (λ (x : ℕ). eqb x 1) low
    go (suc zero) e l (suc j) i r =
        let half : (n - 1) / 2 ≡ n / 2 = omega arith in
        has-suc (n - 1) j ∙ ap (λ (x : ℕ). has x j) half ∙ sym (has-suc n j) ∙ i ∙ ap not (sym (eqb-suc-zero j))
    go (suc (suc x)) e l j i r = absurd (omega arith)

-- A set that is not empty is a word from 1 on.
pub some_word : (s : Set) → s.bits < 2 ^ 64 → is_empty_of s ≡ false → 0 < s.bits
some_word s b h = let n = eqb-false s.bits 0 (empty_word s b ∙ h) in omega arith

pub in_rest : (s : Set) (j : ℕ) → in_set (rest_of s) j ≡ (in_set s j && not (eqb j (first_of s)))
in_rest s j =
    in_without s (with_of empty_of (first_of s)) j
    ∙ ap (λ (b : Bool). in_set s j && not b) (in_with empty_of (first_of s) j ∙ ap (λ (b : Bool). b || eqb j (first_of s)) (in_empty j))

-- What it has in common with the word before it is the set without its least command.
pub rest-word : (s : Set) → s.bits < 2 ^ 64 → is_empty_of s ≡ false → record { bits = bit_and s.bits (s.bits - 1) } ≡ rest_of s
rest-word s b h =
    set_ext _ (rest_of s) (and_lt 64 s.bits (s.bits - 1) b (omega arith))
    (without_fits s (with_of empty_of (first_of s)) b (with_fits empty_of (first_of s) (pow_pos 64) (first_in s h).0))
    (λ j l. has_and s.bits (s.bits - 1) j ∙ under_test (in_set s j) (has (s.bits - 1) j) (not (eqb j (first_of s))) (before 64 s.bits j (some_word s b h) b) ∙ sym (in_rest s j))
