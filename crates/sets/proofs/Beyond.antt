-- The commands from a number on, as a word, and the sets that have none of them.
-- Rests on Laws.
use mathlib.Core.Path.{◌≡◌, refl, sym, ap, ◌∙◌}
use mathlib.Core.Bool.{Bool, true, false, ◌&&◌, not}
use mathlib.Core.Logic.{◌⊎◌, inl, inr}
use Prim.Native.Nat.{ℕ, suc, ◌+◌, ◌-◌, ◌*◌, ◌/◌, ◌%◌, ◌^◌, ◌≤◌, ◌<◌}
use native.Mathlib.Nat.{pow-suc, mul_assoc, mul-mod_left}
use native.Mathlib.Omega.{arith}
use lib.Dec.{eqb, leb, lit<}
use lib.Pow.{pow-add, shl-shr, shl_exact, shr_lt}
use borrow.Author.Tests.{le-leb, lt-leb}
use Rattle.theory.specs.Sets.{any}
use Rattle.theory.specs.Counting.{any_some, both, left, right, never, same_test, lt_or_le}
use Rattle.sets.specs.declared.Set.{Set}
use Rattle.sets.specs.Sets.{has, word, in_set, common_of, is_empty_of, within_of, beyond_of}
use Rattle.sets.proofs.Laws.{has_shr, has_word, word_lt, set_ext, in_empty, in_set_of, in_common, empty_at, within_at, within_of_lem}

-- ---- the word

-- Every digit of the greatest word is set.
full : (m : ℕ) → m < 64 → has (2 ^ 64 - 1) m ≡ true
unfolding word
full m l = has_word 64 (λ j. true) m l

-- A word shifted up has no number below the shift.
shifted_low : (x n m : ℕ) → m < n → has (x * 2 ^ n) m ≡ false
unfolding has
shifted_low x n m l =
    let i = n - suc m in
    let e : n ≡ suc i + m = omega arith in
    let up : x * 2 ^ n ≡ x * 2 ^ i * 2 * 2 ^ m =
    ap (λ (k : ℕ). x * 2 ^ k) e ∙ ap (λ (y : ℕ). x * y) (pow-add 2 (suc i) m) ∙ sym (mul_assoc x (2 ^ suc i) (2 ^ m))
    ∙ ap (λ (y : ℕ). x * y * 2 ^ m) (pow-suc 2 i) ∙ ap (λ (y : ℕ). y * 2 ^ m) (sym (mul_assoc x (2 ^ i) 2)) in
    ap (λ (y : ℕ). eqb (y / 2 ^ m % 2) 1) up ∙ ap (λ (y : ℕ). eqb (y % 2) 1) (shl-shr (x * 2 ^ i * 2) m) ∙ ap (λ (y : ℕ). eqb y 1) (mul-mod_left (x * 2 ^ i) 2)

-- From the shift on it has those of the word.
shifted_high : (x n m : ℕ) → n ≤ m → has (x * 2 ^ n) m ≡ has x (m - n)
shifted_high x n m l =
    let e : n + (m - n) ≡ m = omega arith in
    ap (λ (k : ℕ). has (x * 2 ^ n) k) (sym e) ∙ sym (has_shr (x * 2 ^ n) n (m - n)) ∙ ap (λ (y : ℕ). has y (m - n)) (shl-shr x n)

module _ (n : ℕ) (h : n < 64) where
  high : (m : ℕ) → m < 64 → has ((2 ^ 64 - 1) / 2 ^ n * 2 ^ n) m ≡ leb n m
  high m l = go (lt_or_le m n)
    where
      go : (m < n) ⊎ (n ≤ m) → has ((2 ^ 64 - 1) / 2 ^ n * 2 ^ n) m ≡ leb n m
      go (inl k) = shifted_low ((2 ^ 64 - 1) / 2 ^ n) n m k ∙ sym (lt-leb n m k)
      go (inr k) =
          let e : n + (m - n) ≡ m = omega arith in
          shifted_high ((2 ^ 64 - 1) / 2 ^ n) n m k ∙ has_shr (2 ^ 64 - 1) n (m - n) ∙ ap (has (2 ^ 64 - 1)) e ∙ full m l ∙ sym (le-leb n m k)

  rest : (2 ^ 64 - 1) / 2 ^ n < 2 ^ (64 - n)
  rest = let e : 64 - n + n ≡ 64 = omega arith in shr_lt (64 - n) n (rw e (lit< tt))

  -- The greatest word without its first n digits.
  pub beyond_word : record { bits = ((2 ^ 64 - 1) / 2 ^ n * 2 ^ n) % 2 ^ 64 } ≡ beyond_of n
  beyond_word =
      let exact = shl_exact (64 - n) n 64 rest (omega arith) in
      set_ext _ (beyond_of n) (omega arith) (word_lt 64 (leb n))
      (λ m l. ap (λ (x : ℕ). has x m) exact ∙ high m l ∙ sym (in_set_of 64 (leb n) m l))

-- From the capacity on there is no command.
pub beyond_none : (n : ℕ) → 64 ≤ n → record { bits = 0 } ≡ beyond_of n
beyond_none n h = set_ext _ (beyond_of n) (lit< tt) (word_lt 64 (leb n)) (λ m l. in_empty m ∙ sym (in_set_of 64 (leb n) m l ∙ lt-leb n m (omega arith)))

-- ---- the sets without these commands

pub within_common : (s : Set) (n : ℕ) {b d : Set} {r : Bool} → b ≡ beyond_of n → d ≡ common_of s b → r ≡ is_empty_of d → r ≡ within_of s n
within_common s n eb ed er = er ∙ ap is_empty_of (ed ∙ ap (common_of s) eb) ∙ same_test (is_empty_of (common_of s (beyond_of n))) (within_of s n) inside outside
  where
    in_both : (m : ℕ) → m < 64 → in_set (common_of s (beyond_of n)) m ≡ (in_set s m && leb n m)
    in_both m l = in_common s (beyond_of n) m ∙ ap (λ (t : Bool). in_set s m && t) (in_set_of 64 (leb n) m l)

    inside : is_empty_of (common_of s (beyond_of n)) ≡ true → within_of s n ≡ true
    inside e = within_of_lem s n (λ m l i. go m l i (lt_or_le m n))
      where
        go : (m : ℕ) → m < 64 → in_set s m ≡ true → (m < n) ⊎ (n ≤ m) → m < n
        go m l i (inl k) = k
        go m l i (inr k) =
            absurd (never (in_set (common_of s (beyond_of n)) m) (in_both m l ∙ both (in_set s m) (leb n m) i (le-leb n m k)) (empty_at (common_of s (beyond_of n)) e m l))

    outside : within_of s n ≡ true → is_empty_of (common_of s (beyond_of n)) ≡ true
    outside w = go (any 64 (in_set (common_of s (beyond_of n)))) (any_some 64 (in_set (common_of s (beyond_of n))))
      where
        go : (t : Bool) → (t ≡ true → (m : ℕ) × (m < 64) × (in_set (common_of s (beyond_of n)) m ≡ true)) → not t ≡ true
        go false f = refl
        go true f =
            let x = f refl in
            let m = x.0 in
            let two = sym (in_both m x.1) ∙ x.2 in
            let low = within_at s n w m x.1 (left (in_set s m) (leb n m) two) in
            absurd (never (leb n m) (right (in_set s m) (leb n m) two) (lt-leb n m low))
