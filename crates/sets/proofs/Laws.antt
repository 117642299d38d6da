-- Membership in words and in sets of commands: what each operation of `Sets` means.
-- Assumes nothing.
use mathlib.Core.Path.{◌≡◌, refl, sym, ap, ◌∙◌}
use mathlib.Core.Bool.{Bool, true, false, ◌&&◌, ◌||◌, not}
use mathlib.Core.Logic.{◌⊎◌, inl, inr, ⊎_elim}
use mathlib.Core.List.{List}
use lib.ListN.{length, get_or}
use Prim.Native.Nat.{ℕ, zero, suc, ◌+◌, ◌*◌, ◌/◌, ◌%◌, ◌^◌, ◌≤◌, ◌<◌, min, max}
use native.Mathlib.Nat.{div-one, div-eq_of_lt, pow-suc, lt_of_lt_of_le, mul-div_cancel, mul-mod_left, one-mul}
use native.Mathlib.Numerals.{add-one, one-add}
use native.Mathlib.Omega.{arith}
use lib.Dec.{eqb, ltb, eqb-suc-suc, eqb-zero-suc, eqb-suc-zero, lit<}
use lib.Arith.{digits_mod, lt-one}
use lib.Pow.{pow_pos, pow_mono, pow-lt, shr-shr, shr_lt, shl_exact}
use lib.Bits.{bit_and, bit_or, bit_xor, differ, and_step, or_step, xor_step, and_shr, or_shr, xor_shr, or_shifted_r}
use lib.Bits.{or_lt, and_lt, xor_lt}
use lib.Count.{ones, ones_step, count_trailing_zeros, under}
use borrow.Author.Tests.{lt-ltb, ltb-true, eq-eqb, ne_eqb}
use Rattle.theory.specs.Sets.{pick, one, any, count}
use Rattle.theory.specs.Counting.{either, not-true, not-false, never, lt_or_le, one_le}
use Rattle.theory.specs.Counting.{all_at, all_of, any_some, any_none, count_none, count_first, count_ext}
use Rattle.sets.specs.Sets.{has, word, least, in_set, set_of, empty_of, with_of, union_of, without_of, common_of}
use Rattle.sets.specs.Sets.{is_empty_of, within_of, size_of, first_of}
use Rattle.sets.specs.Sets.{read_set, write_set}
use Rattle.sets.specs.declared.Set.{Set}
use Rattle.wire.specs.Wire.{bytes}
use Rattle.wire.proofs.Laws.{length-bytes, length-splice, read_same, read-before, read-after, read_lt, splice_same}
use Rattle.wire.proofs.Agree.{Agree}

-- ---- the digits of a word

pub has-zero : (n : ℕ) → has n 0 ≡ eqb (n % 2) 1
unfolding has
has-zero n = ap (λ (x : ℕ). eqb (x % 2) 1) (div-one n)

pub has_shr : (n k m : ℕ) → has (n / 2 ^ k) m ≡ has n (k + m)
unfolding has
has_shr n k m = ap (λ (x : ℕ). eqb (x % 2) 1) (shr-shr n k m)

pub has-suc : (n m : ℕ) → has n (suc m) ≡ has (n / 2) m
has-suc n m = sym (has_shr n 1 m ∙ ap (λ (x : ℕ). has n x) (one-add m))

or_digit : (x y : ℕ) → x < 2 → y < 2 → eqb (max x y) 1 ≡ (eqb x 1 || eqb y 1)
or_digit zero zero h l = refl
or_digit zero (suc zero) h l = refl
or_digit (suc zero) zero h l = refl
or_digit (suc zero) (suc zero) h l = refl
or_digit (suc (suc x)) y h l = absurd (omega arith)
or_digit zero (suc (suc y)) h l = absurd (omega arith)
or_digit (suc zero) (suc (suc y)) h l = absurd (omega arith)

and_digit : (x y : ℕ) → x < 2 → y < 2 → eqb (min x y) 1 ≡ (eqb x 1 && eqb y 1)
and_digit zero zero h l = refl
and_digit zero (suc zero) h l = refl
and_digit (suc zero) zero h l = refl
and_digit (suc zero) (suc zero) h l = refl
and_digit (suc (suc x)) y h l = absurd (omega arith)
and_digit zero (suc (suc y)) h l = absurd (omega arith)
and_digit (suc zero) (suc (suc y)) h l = absurd (omega arith)

less_digit : (x y : ℕ) → x < 2 → y < 2 → eqb (differ x (min x y)) 1 ≡ (eqb x 1 && not (eqb y 1))
less_digit zero zero h l = refl
less_digit zero (suc zero) h l = refl
less_digit (suc zero) zero h l = refl
less_digit (suc zero) (suc zero) h l = refl
less_digit (suc (suc x)) y h l = absurd (omega arith)
less_digit zero (suc (suc y)) h l = absurd (omega arith)
less_digit (suc zero) (suc (suc y)) h l = absurd (omega arith)

or_low : (a b : ℕ) → bit_or a b % 2 ≡ max (a % 2) (b % 2)
or_low a b = ap (λ (x : ℕ). x % 2) (or_step a b) ∙ digits_mod (bit_or (a / 2) (b / 2)) (omega arith)

and_low : (a b : ℕ) → bit_and a b % 2 ≡ min (a % 2) (b % 2)
and_low a b = ap (λ (x : ℕ). x % 2) (and_step a b) ∙ digits_mod (bit_and (a / 2) (b / 2)) (omega arith)

differ_lt : (x y : ℕ) → x < 2 → y < 2 → differ x y < 2
differ_lt zero y h l = l
differ_lt (suc zero) zero h l = h
differ_lt (suc zero) (suc y) h l = omega arith
differ_lt (suc (suc x)) y h l = absurd (omega arith)

xor_low : (a b : ℕ) → bit_xor a b % 2 ≡ differ (a % 2) (b % 2)
xor_low a b =
    ap (λ (x : ℕ). x % 2) (xor_step a b)
    ∙ digits_mod (bit_xor (a / 2) (b / 2)) (differ_lt (a % 2) (b % 2) (omega arith) (omega arith))

-- ---- membership in words

pub has_or : (a b m : ℕ) → has (bit_or a b) m ≡ (has a m || has b m)
unfolding has
has_or a b m =
    ap (λ (x : ℕ). eqb (x % 2) 1) (or_shr a b m) ∙ ap (λ (x : ℕ). eqb x 1) (or_low (a / 2 ^ m) (b / 2 ^ m))
    ∙ or_digit (a / 2 ^ m % 2) (b / 2 ^ m % 2) (omega arith) (omega arith)

pub has_and : (a b m : ℕ) → has (bit_and a b) m ≡ (has a m && has b m)
unfolding has
has_and a b m =
    ap (λ (x : ℕ). eqb (x % 2) 1) (and_shr a b m) ∙ ap (λ (x : ℕ). eqb x 1) (and_low (a / 2 ^ m) (b / 2 ^ m))
    ∙ and_digit (a / 2 ^ m % 2) (b / 2 ^ m % 2) (omega arith) (omega arith)

pub has_less : (a b m : ℕ) → has (bit_xor a (bit_and a b)) m ≡ (has a m && not (has b m))
unfolding has
has_less a b m =
    let x = a / 2 ^ m in
    let y = b / 2 ^ m in
    ap (λ (z : ℕ). eqb (z % 2) 1) (xor_shr a (bit_and a b) m ∙ ap (λ (z : ℕ). bit_xor x z) (and_shr a b m))
    ∙ ap (λ (z : ℕ). eqb z 1) (xor_low x (bit_and x y) ∙ ap (λ (z : ℕ). differ (x % 2) z) (and_low x y))
    ∙ less_digit (x % 2) (y % 2) (omega arith) (omega arith)

pub has_empty : (m : ℕ) → has 0 m ≡ false
unfolding has
has_empty m = ap (λ (x : ℕ). eqb (x % 2) 1) (div-eq_of_lt (pow_pos m))

-- A word below 2 ^ k has no number from k on.
pub has_above : (k n m : ℕ) → n < 2 ^ k → k ≤ m → has n m ≡ false
unfolding has
has_above k n m h l = ap (λ (x : ℕ). eqb (x % 2) 1) (div-eq_of_lt (lt_of_lt_of_le h (pow_mono l)))

pub has_single : (m j : ℕ) → has (2 ^ m) j ≡ eqb j m
has_single zero zero = has-zero 1
has_single zero (suc j) = has-suc 1 j ∙ has_empty j ∙ sym (eqb-suc-zero j)
has_single (suc m) zero =
    has-zero (2 ^ suc m) ∙ ap (λ (x : ℕ). eqb (x % 2) 1) (pow-suc 2 m) ∙ ap (λ (x : ℕ). eqb x 1) (mul-mod_left (2 ^ m) 2)
    ∙ sym (eqb-zero-suc m)
has_single (suc m) (suc j) =
    has-suc (2 ^ suc m) j ∙ ap (λ (x : ℕ). has (x / 2) j) (pow-suc 2 m)
    ∙ ap (λ (x : ℕ). has x j) (mul-div_cancel (2 ^ m) (lit< tt)) ∙ has_single m j ∙ sym (eqb-suc-suc j m)

pub half_lt : (k n : ℕ) → n < 2 ^ suc k → n / 2 < 2 ^ k
half_lt k n h = shr_lt k 1 (rw add-one h)

low_digit : (a b : ℕ) → a < 2 → b < 2 → eqb a 1 ≡ eqb b 1 → a ≡ b
low_digit zero zero h l e = refl
low_digit (suc zero) (suc zero) h l e = refl
low_digit zero (suc zero) h l e = absurd (never true refl (sym e))
low_digit (suc zero) zero h l e = absurd (never true refl e)
low_digit (suc (suc a)) b h l e = absurd (omega arith)
low_digit zero (suc (suc b)) h l e = absurd (omega arith)
low_digit (suc zero) (suc (suc b)) h l e = absurd (omega arith)

-- Two words below 2 ^ k with the same numbers below k are equal.
pub has_ext : (k a b : ℕ) → a < 2 ^ k → b < 2 ^ k → ((m : ℕ) → m < k → has a m ≡ has b m) → a ≡ b
has_ext zero a b h l s = lt-one h ∙ sym (lt-one l)
has_ext (suc k) a b h l s =
    let rest : a / 2 ≡ b / 2 =
    has_ext k (a / 2) (b / 2) (half_lt k a h) (half_lt k b l)
    (λ m q. sym (has-suc a m) ∙ s (suc m) (omega arith) ∙ has-suc b m) in
    let low : a % 2 ≡ b % 2 =
    low_digit (a % 2) (b % 2) (omega arith) (omega arith) (sym (has-zero a) ∙ s 0 (omega arith) ∙ has-zero b) in
    omega arith

one_digit : (x : ℕ) → x < 2 → one (eqb x 1) ≡ x
one_digit zero l = refl
one_digit (suc zero) l = refl
one_digit (suc (suc x)) l = absurd (omega arith)

ones_none : ones 0 ≡ 0
unfolding ones
ones_none = refl

-- The digits that are set are as many as the members.
pub ones-count : (k n : ℕ) → n < 2 ^ k → ones n ≡ count k (has n)
ones-count zero n h = ap ones (lt-one h) ∙ ones_none ∙ sym (count_none (has n))
ones-count (suc k) n h =
    let rest = count_ext k (λ m. has n (suc m)) (has (n / 2)) (λ m l. has-suc n m) in
    let first : one (has n 0) ≡ n % 2 = ap one (has-zero n) ∙ one_digit (n % 2) (omega arith) in
    omega (arith, ones_step n, ones-count k (n / 2) (half_lt k n h), count_first k (has n), rest)

-- ---- the least number that satisfies a predicate

pub least_ext : (n : ℕ) (p q : ℕ → Bool) → ((m : ℕ) → p m ≡ q m) → least n p ≡ least n q
unfolding least
least_ext zero p q h = refl
least_ext (suc n) p q h = rw (h 0, least_ext n (λ m. p (suc m)) (λ m. q (suc m)) (λ m. h (suc m)))

pub least_le : (n : ℕ) (p : ℕ → Bool) → least n p ≤ n
unfolding least
least_le zero p = omega arith
least_le (suc n) p = go (p 0) (least_le n (λ m. p (suc m)))
  where
    go : (b : Bool) → least n (λ m. p (suc m)) ≤ n → pick b 0 (suc (least n (λ m. p (suc m)))) ≤ suc n
    go true h = omega arith
    go false h = omega arith

pub least_in : (n : ℕ) (p : ℕ → Bool) → least n p < n → p (least n p) ≡ true
unfolding least
least_in zero p h = absurd (omega arith)
least_in (suc n) p h = go (p 0) refl h (least_in n (λ m. p (suc m)))
  where
    go : (b : Bool) → p 0 ≡ b → pick b 0 (suc (least n (λ m. p (suc m)))) < suc n
        → (least n (λ m. p (suc m)) < n → p (suc (least n (λ m. p (suc m)))) ≡ true)
        → p (pick b 0 (suc (least n (λ m. p (suc m))))) ≡ true
    go true e l r = e
    go false e l r = r (omega arith)

pub least-before : (n : ℕ) (p : ℕ → Bool) (m : ℕ) → m < least n p → p m ≡ false
unfolding least
least-before zero p m h = absurd (omega arith)
least-before (suc n) p m h = go (p 0) refl m h (least-before n (λ k. p (suc k)))
  where
    go : (b : Bool) → p 0 ≡ b → (j : ℕ) → j < pick b 0 (suc (least n (λ k. p (suc k))))
        → ((k : ℕ) → k < least n (λ k. p (suc k)) → p (suc k) ≡ false) → p j ≡ false
    go true e j l r = absurd (omega arith)
    go false e zero l r = e
    go false e (suc j) l r = r j (omega arith)

-- It is below n where some number is.
pub least-any : (n : ℕ) (p : ℕ → Bool) → any n p ≡ true → least n p < n
least-any n p h = go (any_some n p h) (lt_or_le (least n p) n)
  where
    go : (m : ℕ) × (m < n) × (p m ≡ true) → (least n p < n) ⊎ (n ≤ least n p) → least n p < n
    go w (inl l) = l
    go w (inr l) = absurd (never (p w.0) w.2 (least-before n p w.0 (omega arith)))

-- The digits below the lowest that is set are as many as the least member.
pub trailing_least : (k n : ℕ) → count_trailing_zeros k n ≡ least k (has n)
unfolding count_trailing_zeros least
trailing_least zero n = refl
trailing_least (suc k) n =
    go (n % 2) (omega arith) (trailing_least k (n / 2))
    ∙ ap (λ (b : Bool). pick b 0 (suc (least k (λ m. has n (suc m))))) (sym (has-zero n))
  where
    go : (x : ℕ) → x < 2 → count_trailing_zeros k (n / 2) ≡ least k (has (n / 2))
        → under x (count_trailing_zeros k (n / 2)) ≡ pick (eqb x 1) 0 (suc (least k (λ m. has n (suc m))))
    go zero l e = ap suc (e ∙ least_ext k (has (n / 2)) (λ m. has n (suc m)) (λ m. sym (has-suc n m)))
    go (suc zero) l e = refl
    go (suc (suc x)) l e = absurd (omega arith)

-- ---- the word of a predicate

pub word_lt : (k : ℕ) (p : ℕ → Bool) → word k p < 2 ^ k
unfolding word
word_lt zero p = lit< tt
word_lt (suc k) p = go (p k) (word_lt k p)
  where
    go : (b : Bool) → word k p < 2 ^ k → word k p + one b * 2 ^ k < 2 ^ suc k
    go true h = omega (arith, pow-suc 2 k)
    go false h = omega (arith, pow-suc 2 k)

word_first : (k : ℕ) (p : ℕ → Bool) → word (suc k) p ≡ one (p 0) + 2 * word k (λ m. p (suc m))
unfolding word
word_first zero p = omega arith
word_first (suc k) p = go (p (suc k)) (word_first k p)
  where
    go : (b : Bool) → word (suc k) p ≡ one (p 0) + 2 * word k (λ m. p (suc m))
        → word (suc k) p + one b * 2 ^ suc k ≡ one (p 0) + 2 * (word k (λ m. p (suc m)) + one b * 2 ^ k)
    go true h = omega (arith, pow-suc 2 k)
    go false h = omega arith

one_back : (b : Bool) → eqb (one b) 1 ≡ b
one_back true = refl
one_back false = refl

-- The members of a word that was built from a predicate.
pub has_word : (k : ℕ) (p : ℕ → Bool) (m : ℕ) → m < k → has (word k p) m ≡ p m
has_word zero p m h = absurd (omega arith)
has_word (suc k) p zero h =
    let e : word (suc k) p % 2 ≡ one (p 0) = omega (arith, word_first k p, one_le (p 0)) in
    has-zero (word (suc k) p) ∙ ap (λ (x : ℕ). eqb x 1) e ∙ one_back (p 0)
has_word (suc k) p (suc m) h =
    let e : word (suc k) p / 2 ≡ word k (λ j. p (suc j)) = omega (arith, word_first k p, one_le (p 0)) in
    has-suc (word (suc k) p) m ∙ ap (λ (x : ℕ). has x m) e ∙ has_word k (λ j. p (suc j)) m (omega arith)

pub has-word_above : (k : ℕ) (p : ℕ → Bool) (m : ℕ) → k ≤ m → has (word k p) m ≡ false
has-word_above k p m h = has_above k (word k p) m (word_lt k p) h

-- A word is built from its own members.
pub word-has : (k n : ℕ) → n < 2 ^ k → word k (has n) ≡ n
word-has k n h = has_ext k (word k (has n)) n (word_lt k (has n)) h (λ m l. has_word k (has n) m l)

pub word_ext : (k : ℕ) (p q : ℕ → Bool) → ((m : ℕ) → m < k → p m ≡ q m) → word k p ≡ word k q
unfolding word
word_ext zero p q h = refl
word_ext (suc k) p q h = rw (word_ext k p q (λ m l. h m (omega arith)), h k (omega arith))

-- ---- sets

pub same_word : {a b : ℕ} → a ≡ b → ◌≡◌ {A = Set} (record { bits = a }) (record { bits = b })
same_word e = λ i. record { bits = e i }

pub in_empty : (m : ℕ) → in_set empty_of m ≡ false
in_empty m = has_empty m

pub in_with : (s : Set) (m j : ℕ) → in_set (with_of s m) j ≡ (in_set s j || eqb j m)
unfolding with_of
in_with s m j = has_or s.bits (2 ^ m) j ∙ ap (λ (b : Bool). in_set s j || b) (has_single m j)

pub in_union : (a b : Set) (m : ℕ) → in_set (union_of a b) m ≡ (in_set a m || in_set b m)
unfolding union_of
in_union a b m = has_or a.bits b.bits m

pub in_without : (a b : Set) (m : ℕ) → in_set (without_of a b) m ≡ (in_set a m && not (in_set b m))
unfolding without_of
in_without a b m = has_less a.bits b.bits m

pub in_common : (a b : Set) (m : ℕ) → in_set (common_of a b) m ≡ (in_set a m && in_set b m)
unfolding common_of
in_common a b m = has_and a.bits b.bits m

pub in_set_of : (k : ℕ) (p : ℕ → Bool) (m : ℕ) → m < k → in_set (set_of k p) m ≡ p m
in_set_of = has_word

pub in_set_of_above : (k : ℕ) (p : ℕ → Bool) (m : ℕ) → k ≤ m → in_set (set_of k p) m ≡ false
in_set_of_above = has-word_above

-- A predicate with nothing from k on is the membership of its set.
pub set_back : (k : ℕ) (p : ℕ → Bool) → ((m : ℕ) → k ≤ m → p m ≡ false) → in_set (set_of k p) ≡ p
set_back k p h = λ i m. ⊎_elim (λ l. in_set_of k p m l) (λ l. in_set_of_above k p m l ∙ sym (h m l)) (lt_or_le m k) i

pub in_above : (s : Set) (m : ℕ) → s.bits < 2 ^ 64 → 64 ≤ m → in_set s m ≡ false
in_above s m h l = has_above 64 s.bits m h l

-- Two sets with the same members are equal.
pub set_ext : (a b : Set) → a.bits < 2 ^ 64 → b.bits < 2 ^ 64 → ((m : ℕ) → m < 64 → in_set a m ≡ in_set b m) → a ≡ b
set_ext a b h l s = same_word (has_ext 64 a.bits b.bits h l s)

-- A set is built from its own members.
pub set_of-members : (s : Set) → s.bits < 2 ^ 64 → set_of 64 (in_set s) ≡ s
set_of-members s h = same_word (word-has 64 s.bits h)

-- Every operation gives a word of 64 bits.
pub with_fits : (s : Set) (m : ℕ) → s.bits < 2 ^ 64 → m < 64 → (with_of s m).bits < 2 ^ 64
unfolding with_of
with_fits s m h l = or_lt 64 s.bits (2 ^ m) h (pow-lt {i = m} {j = 64} l)

pub union_fits : (a b : Set) → a.bits < 2 ^ 64 → b.bits < 2 ^ 64 → (union_of a b).bits < 2 ^ 64
unfolding union_of
union_fits a b h l = or_lt 64 a.bits b.bits h l

pub common_fits : (a b : Set) → a.bits < 2 ^ 64 → b.bits < 2 ^ 64 → (common_of a b).bits < 2 ^ 64
unfolding common_of
common_fits a b h l = and_lt 64 a.bits b.bits h l

pub without_fits : (a b : Set) → a.bits < 2 ^ 64 → b.bits < 2 ^ 64 → (without_of a b).bits < 2 ^ 64
unfolding without_of
without_fits a b h l = xor_lt 64 a.bits (bit_and a.bits b.bits) h (and_lt 64 a.bits b.bits h l)

-- A loop that builds the set of a predicate: its start, and its two turns.
pub build_none : (p : ℕ → Bool) → empty_of ≡ set_of 0 p
unfolding word
build_none p = refl

pub build_yes : (k : ℕ) (p : ℕ → Bool) → p k ≡ true → with_of (set_of k p) k ≡ set_of (k + 1) p
unfolding with_of word
build_yes k p h =
    let e : bit_or (word k p) (1 * 2 ^ k) ≡ 1 * 2 ^ k + word k p = or_shifted_r 1 k (word k p) (word_lt k p) in
    same_word (rw one-mul at e ∙ rw (add-one, word, h) (omega arith))

pub build_no : (k : ℕ) (p : ℕ → Bool) → p k ≡ false → set_of k p ≡ set_of (k + 1) p
unfolding word
build_no k p h = same_word (rw (add-one, word, h) (omega arith))

-- ---- what the tests tell

pub empty_at : (s : Set) → is_empty_of s ≡ true → (m : ℕ) → m < 64 → in_set s m ≡ false
empty_at s h m l = any_none 64 (in_set s) (not-true (any 64 (in_set s)) h) m l

pub empty_same : (s : Set) → s.bits < 2 ^ 64 → is_empty_of s ≡ true → s ≡ empty_of
empty_same s b h = set_ext s empty_of b (pow_pos 64) (λ m l. empty_at s h m l ∙ sym (in_empty m))

pub within_at : (s : Set) (n : ℕ) → within_of s n ≡ true → (m : ℕ) → m < 64 → in_set s m ≡ true → m < n
within_at s n h m l i =
    ⊎_elim (λ e. absurd (never (in_set s m) i (not-true (in_set s m) e))) (λ e. ltb-true m n e)
    (either (not (in_set s m)) (ltb m n) (all_at 64 (λ j. not (in_set s j) || ltb j n) h m l))

pub within_of_lem : (s : Set) (n : ℕ) → ((m : ℕ) → m < 64 → in_set s m ≡ true → m < n) → within_of s n ≡ true
within_of_lem s n h = all_of 64 (λ j. not (in_set s j) || ltb j n) (λ m l. go m (in_set s m) (h m l))
  where
    go : (m : ℕ) (b : Bool) → (b ≡ true → m < n) → (not b || ltb m n) ≡ true
    go m true f = lt-ltb m n (f refl)
    go m false f = refl

pub first_in : (s : Set) → is_empty_of s ≡ false → (first_of s < 64) × (in_set s (first_of s) ≡ true)
first_in s h =
    let l = least-any 64 (in_set s) (not-false (any 64 (in_set s)) h) in
    (l, least_in 64 (in_set s) l)

pub first_before : (s : Set) (m : ℕ) → m < first_of s → in_set s m ≡ false
first_before s m h = least-before 64 (in_set s) m h

-- ---- how the word of a set shows them

pub empty_word : (s : Set) → s.bits < 2 ^ 64 → eqb s.bits 0 ≡ is_empty_of s
empty_word s b = go (any 64 (in_set s)) (λ e. empty_same s b (ap not e)) (λ e i. any_some 64 (in_set s) e)
  where
    go : (t : Bool) → (t ≡ false → s ≡ empty_of) → (t ≡ true → s.bits ≡ 0 → (m : ℕ) × (m < 64) × (in_set s m ≡ true))
        → eqb s.bits 0 ≡ not t
    go true f g =
        ne_eqb s.bits 0
        (λ e. let w = g refl e in never (in_set s w.0) w.2 (ap (λ (x : ℕ). has x w.0) e ∙ has_empty w.0))
    go false f g = eq-eqb s.bits 0 (λ i. (f refl i).bits)

pub size_word : (s : Set) → s.bits < 2 ^ 64 → ones s.bits ≡ size_of s
size_word s b = ones-count 64 s.bits b

pub first_word : (s : Set) → count_trailing_zeros 64 s.bits ≡ first_of s
first_word s = trailing_least 64 s.bits

-- `1 << m` is the word of m alone.
pub shl_one : (m : ℕ) → m < 64 → (1 * 2 ^ m) % 2 ^ 64 ≡ 2 ^ m
shl_one m h = shl_exact 1 m 64 (lit< tt) (omega arith) ∙ one-mul (2 ^ m)

-- ---- sets in bytes

-- A set that was written reads back.
pub read-written : (bs : List ℕ) (at : ℕ) (s : Set) → at + 8 ≤ length bs → s.bits < 2 ^ 64 → read_set (write_set bs at s) at ≡ s
unfolding read_set write_set
read-written bs at s h b = same_word (read_same 8 bs at s.bits h b)

-- What was read writes back the same bytes.
pub written_read : (bs : List ℕ) (at : ℕ) → ((i : ℕ) → get_or bs i 0 < 256) → at + 8 ≤ length bs → write_set bs at (read_set bs at) ≡ bs
unfolding read_set write_set
written_read bs at small h = splice_same bs small 8 at h

-- What is read from bytes is a word of 64 bits.
pub read_fits : (bs : List ℕ) (at : ℕ) → ((i : ℕ) → get_or bs i 0 < 256) → at + 8 ≤ length bs → (read_set bs at).bits < 2 ^ 64
unfolding read_set
read_fits bs at small h = read_lt bs small 8 at h

-- A write changes no set before it and none after it.
pub read_other : (bs : List ℕ) (at : ℕ) (s : Set) (k : ℕ) → at + 8 ≤ length bs → (k + 8 ≤ at) ⊎ (at + 8 ≤ k)
    → read_set (write_set bs at s) k ≡ read_set bs k
unfolding read_set write_set
read_other bs at s k h (inl l) = same_word (read-before 8 bs at (bytes 8 s.bits) k (omega arith) l)
read_other bs at s k h (inr l) =
    let e = length-bytes 8 s.bits in same_word (read-after 8 bs at (bytes 8 s.bits) k (omega arith) (omega arith))

pub length_write : (bs : List ℕ) (at : ℕ) (s : Set) → at + 8 ≤ length bs → length (write_set bs at s) ≡ length bs
unfolding write_set
length_write bs at s h = let e = length-bytes 8 s.bits in length-splice bs at (bytes 8 s.bits) (omega arith)

-- The same set stands where bytes agree.
pub agree_set : {b b' : List ℕ} {from to : ℕ} (at : ℕ) → Agree b b' from to → from ≤ at → at + 8 ≤ to → read_set b' at ≡ read_set b at
unfolding read_set
agree_set at g h l = λ i. record { bits = g.reads 8 at h l i }
