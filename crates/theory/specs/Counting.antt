-- Laws of all, any and count, and the quorum lemma.
-- Assumes nothing.
use Rattle.std.specs.Prelude.{◌≡◌, refl, Bool, true, false, ◌&&◌, ◌||◌, not, ◌⊎◌, ℕ, zero, suc, ◌+◌, ◌≤◌, ◌<◌}
use Rattle.std.proofs.Common.{sym, ap, ◌∙◌, inl, inr, eq-or-lt_of_le, add-one, arith}
use Rattle.std.proofs.Math.Decide.{dec_lt}
use Rattle.theory.specs.Sets.{Set, pick, one, all, any, count}

-- ---- tests

-- A test is not both true and false.
pub never : (a : Bool) → a ≡ true → a ≡ false → ⊥
never a h l = let z : ◌≡◌ {A = ℕ} 0 1 = cc (sym h ∙ l) in omega arith

pub both : (a b : Bool) → a ≡ true → b ≡ true → (a && b) ≡ true
both true true h l = refl
both true false h l = l
both false b h l = h

pub left : (a b : Bool) → (a && b) ≡ true → a ≡ true
left true b h = refl
left false b h = h

pub right : (a b : Bool) → (a && b) ≡ true → b ≡ true
right true b h = h
right false true h = refl
right false false h = h

pub true_or : (a b : Bool) → a ≡ true → (a || b) ≡ true
true_or true b h = refl
true_or false true h = refl
true_or false false h = h

pub or_true : (a b : Bool) → b ≡ true → (a || b) ≡ true
or_true true b h = refl
or_true false b h = h

pub either : (a b : Bool) → (a || b) ≡ true → (a ≡ true) ⊎ (b ≡ true)
either true b h = inl refl
either false b h = inr h

-- Of two of which one holds, the second where the first does not.
pub second : (a b : Bool) → (a || b) ≡ true → a ≡ false → b ≡ true
second true b h e = absurd (never true refl e)
second false b h e = h

pub neither : (a b : Bool) → (a || b) ≡ false → (a ≡ false) × (b ≡ false)
neither true true h = (h, h)
neither true false h = (h, refl)
neither false b h = (refl, h)

pub not-true : (a : Bool) → not a ≡ true → a ≡ false
not-true true h = sym h
not-true false h = refl

pub not-false : (a : Bool) → not a ≡ false → a ≡ true
not-false true h = refl
not-false false h = sym h

pub not-not : (a : Bool) → not (not a) ≡ a
not-not true = refl
not-not false = refl

pub and_false : (a : Bool) → (a && false) ≡ false
and_false true = refl
and_false false = refl

pub and_true : (a : Bool) → (a && true) ≡ a
and_true true = refl
and_true false = refl

pub or_false : (a : Bool) → (a || false) ≡ a
or_false true = refl
or_false false = refl

-- A test is true or false.
pub known : (a : Bool) → (a ≡ true) ⊎ (a ≡ false)
known true = inl refl
known false = inr refl

-- A test that cannot hold is false.
pub refuted : (a : Bool) → (a ≡ true → ⊥) → a ≡ false
refuted true h = absurd (h refl)
refuted false h = refl

-- Where a test holds, what stands under it may be compared.
pub under_test : (t a b : Bool) → (t ≡ true → a ≡ b) → (t && a) ≡ (t && b)
under_test true a b h = h refl
under_test false a b h = refl

pub pick_same : {A : Type 0} (t : Bool) (a : A) → pick t a a ≡ a
pick_same true a = refl
pick_same false a = refl

-- Two tests that imply each other are equal.
pub same_test : (a b : Bool) → (a ≡ true → b ≡ true) → (b ≡ true → a ≡ true) → a ≡ b
same_test true b h l = sym (h refl)
same_test false true h l = l refl
same_test false false h l = refl

-- ---- numbers

pub lt_or_le : (m n : ℕ) → (m < n) ⊎ (n ≤ m)
lt_or_le m n = elim (dec_lt m n) [ yes h ↦ inl h | no h ↦ inr (omega arith) ]

-- A number below the next of n is n or below n.
pub last_or_below : (m n : ℕ) → m < suc n → (m ≡ n) ⊎ (m < n)
last_or_below m n h = eq-or-lt_of_le (omega arith)

-- ---- all

pub all_at : (n : ℕ) (p : ℕ → Bool) → all n p ≡ true → (m : ℕ) → m < n → p m ≡ true
unfolding all
all_at zero p h m l = absurd (omega arith)
all_at (suc n) p h m l = go (all_at n p (left (all n p) (p n) h)) (last_or_below m n l)
  where
    go : ((k : ℕ) → k < n → p k ≡ true) → (m ≡ n) ⊎ (m < n) → p m ≡ true
    go r (inl e) = rw e (right (all n p) (p n) h)
    go r (inr b) = r m b

pub all_of : (n : ℕ) (p : ℕ → Bool) → ((m : ℕ) → m < n → p m ≡ true) → all n p ≡ true
unfolding all
all_of zero p h = refl
all_of (suc n) p h = both (all n p) (p n) (all_of n p (λ m l. h m (omega arith))) (h n (omega arith))

-- One number that fails is enough.
pub all-not : (n : ℕ) (p : ℕ → Bool) (m : ℕ) → m < n → p m ≡ false → all n p ≡ false
all-not n p m l h = refuted (all n p) (λ e. never (p m) (all_at n p e m l) h)

pub all_none : (p : ℕ → Bool) → all 0 p ≡ true
unfolding all
all_none p = refl

-- A loop's turn.
pub all_more : (n : ℕ) (p : ℕ → Bool) → all n p ≡ true → p n ≡ true → all (n + 1) p ≡ true
unfolding all
all_more n p h l = rw add-one (both (all n p) (p n) h l)

pub all_ext : (n : ℕ) (p q : ℕ → Bool) → ((m : ℕ) → m < n → p m ≡ q m) → all n p ≡ all n q
unfolding all
all_ext zero p q h = refl
all_ext (suc n) p q h = rw (all_ext n p q (λ m l. h m (omega arith)), h n (omega arith))

-- No two numbers of two sets are related.
module _ (n : ℕ) (x y : Set) (related : ℕ → ℕ → Bool) where
  pub apart_at : all n (λ a. all n (λ b. not (x a && (y b && related a b)))) ≡ true
      → (a b : ℕ) → a < n → b < n → x a ≡ true → y b ≡ true → related a b ≡ false
  apart_at h a b la lb ha hb =
      let row = all_at n (λ a. all n (λ b. not (x a && (y b && related a b)))) h a la in
      let cell = all_at n (λ b. not (x a && (y b && related a b))) row b lb in
      (λ i. sym ha i && (sym hb i && related a b)) ∙ not-true (x a && (y b && related a b)) cell

  pub apart_of : ((a b : ℕ) → a < n → b < n → x a ≡ true → y b ≡ true → related a b ≡ false)
      → all n (λ a. all n (λ b. not (x a && (y b && related a b)))) ≡ true
  apart_of h =
      all_of n (λ a. all n (λ b. not (x a && (y b && related a b))))
      (λ a la. all_of n (λ b. not (x a && (y b && related a b))) (λ b lb. go (x a) (y b) (related a b) (h a b la lb)))
    where
      go : (p q c : Bool) → (p ≡ true → q ≡ true → c ≡ false) → not (p && (q && c)) ≡ true
      go true true c i = ap not (i refl refl)
      go true false c i = refl
      go false q c i = refl

-- ---- any

pub any_at : (n : ℕ) (p : ℕ → Bool) (m : ℕ) → m < n → p m ≡ true → any n p ≡ true
unfolding any
any_at zero p m l h = absurd (omega arith)
any_at (suc n) p m l h = go (λ b. any_at n p m b h) (last_or_below m n l)
  where
    go : (m < n → any n p ≡ true) → (m ≡ n) ⊎ (m < n) → any (suc n) p ≡ true
    go r (inl e) = or_true (any n p) (p n) (ap p (sym e) ∙ h)
    go r (inr b) = true_or (any n p) (p n) (r b)

pub any_some : (n : ℕ) (p : ℕ → Bool) → any n p ≡ true → (m : ℕ) × (m < n) × (p m ≡ true)
unfolding any
any_some zero p h = absurd (never false h refl)
any_some (suc n) p h = go (any_some n p) (either (any n p) (p n) h)
  where
    go : (any n p ≡ true → (m : ℕ) × (m < n) × (p m ≡ true)) → (any n p ≡ true) ⊎ (p n ≡ true)
        → (m : ℕ) × (m < suc n) × (p m ≡ true)
    go r (inl e) = let w = r e in (w.0, omega arith, w.2)
    go r (inr e) = (n, omega arith, e)

pub any_none : (n : ℕ) (p : ℕ → Bool) → any n p ≡ false → (m : ℕ) → m < n → p m ≡ false
any_none n p h m l = refuted (p m) (λ e. never (any n p) (any_at n p m l e) h)

pub any_of_none : (n : ℕ) (p : ℕ → Bool) → ((m : ℕ) → m < n → p m ≡ false) → any n p ≡ false
unfolding any
any_of_none zero p h = refl
any_of_none (suc n) p h = rw (any_of_none n p (λ m l. h m (omega arith)), h n (omega arith))

pub any_empty : (p : ℕ → Bool) → any 0 p ≡ false
unfolding any
any_empty p = refl

-- Some number satisfies p where not all fail it.
pub any-not-all : (n : ℕ) (p : ℕ → Bool) → any n p ≡ not (all n (λ m. not (p m)))
unfolding all any
any-not-all zero p = refl
any-not-all (suc n) p = go (all n (λ m. not (p m))) (p n) (any-not-all n p)
  where
    go : (a b : Bool) → any n p ≡ not a → (any n p || b) ≡ not (a && not b)
    go true true e = rw e
    go true false e = rw e
    go false b e = rw e

pub any_ext : (n : ℕ) (p q : ℕ → Bool) → ((m : ℕ) → m < n → p m ≡ q m) → any n p ≡ any n q
unfolding any
any_ext zero p q h = refl
any_ext (suc n) p q h = rw (any_ext n p q (λ m l. h m (omega arith)), h n (omega arith))

-- ---- count

pub count_none : (p : ℕ → Bool) → count 0 p ≡ 0
unfolding count
count_none p = refl

-- A loop's turn, and the case that counts nothing.
pub count-more : (n : ℕ) (p : ℕ → Bool) → count (n + 1) p ≡ count n p + one (p n)
unfolding count
count-more n p = rw add-one

pub count_no : (n : ℕ) (p : ℕ → Bool) → p n ≡ false → count (n + 1) p ≡ count n p
count_no n p h = count-more n p ∙ ap (λ (b : Bool). count n p + one b) h ∙ omega arith

-- The lowest number first.
pub count_first : (n : ℕ) (p : ℕ → Bool) → count (suc n) p ≡ one (p 0) + count n (λ m. p (suc m))
unfolding count
count_first zero p = omega arith
count_first (suc n) p = omega (arith, count_first n p)

pub one_le : (a : Bool) → one a ≤ 1
one_le true = omega arith
one_le false = omega arith

pub count_le : (n : ℕ) (p : ℕ → Bool) → count n p ≤ n
unfolding count
count_le zero p = omega arith
count_le (suc n) p = omega (arith, count_le n p, one_le (p n))

pub count_ext : (n : ℕ) (p q : ℕ → Bool) → ((m : ℕ) → m < n → p m ≡ q m) → count n p ≡ count n q
unfolding count
count_ext zero p q h = refl
count_ext (suc n) p q h = rw (count_ext n p q (λ m l. h m (omega arith)), h n (omega arith))

pub count_mono : (n : ℕ) (p q : ℕ → Bool) → ((m : ℕ) → m < n → p m ≡ true → q m ≡ true) → count n p ≤ count n q
unfolding count
count_mono zero p q h = omega arith
count_mono (suc n) p q h = go (p n) (q n) (h n (omega arith)) (count_mono n p q (λ m l. h m (omega arith)))
  where
    go : (a b : Bool) → (a ≡ true → b ≡ true) → count n p ≤ count n q → count n p + one a ≤ count n q + one b
    go true true i e = omega arith
    go true false i e = absurd (never false (i refl) refl)
    go false b i e = omega (arith, e)

-- Two sets together: their union and what they have in common.
pub count-sum : (n : ℕ) (p q : ℕ → Bool) → count n p + count n q ≡ count n (λ m. p m || q m) + count n (λ m. p m && q m)
unfolding count
count-sum zero p q = refl
count-sum (suc n) p q = go (p n) (q n) (count-sum n p q)
  where
    go : (a b : Bool) → count n p + count n q ≡ count n (λ m. p m || q m) + count n (λ m. p m && q m)
        → (count n p + one a) + (count n q + one b)
        ≡ (count n (λ m. p m || q m) + one (a || b)) + (count n (λ m. p m && q m) + one (a && b))
    go true true e = omega arith
    go true false e = omega arith
    go false true e = omega arith
    go false false e = omega arith

-- A set is what it has in common with another, and the rest.
pub count_split : (n : ℕ) (p q : ℕ → Bool) → count n p ≡ count n (λ m. p m && q m) + count n (λ m. p m && not (q m))
unfolding count
count_split zero p q = refl
count_split (suc n) p q = go (p n) (q n) (count_split n p q)
  where
    go : (a b : Bool) → count n p ≡ count n (λ m. p m && q m) + count n (λ m. p m && not (q m))
        → count n p + one a
        ≡ (count n (λ m. p m && q m) + one (a && b)) + (count n (λ m. p m && not (q m)) + one (a && not b))
    go true true e = omega arith
    go true false e = omega arith
    go false b e = omega arith

-- A difference is smaller by no more than what is taken away.
pub count_minus : (n : ℕ) (p q : ℕ → Bool) → count n p ≤ count n (λ m. p m && not (q m)) + count n q
count_minus n p q =
    omega (arith, count_split n p q, count_mono n (λ m. p m && q m) q (λ m l. right (p m) (q m)))

-- A count above 0 has a witness.
pub count-some : (n : ℕ) (p : ℕ → Bool) → 0 < count n p → (m : ℕ) × (m < n) × (p m ≡ true)
unfolding count
count-some zero p h = absurd (omega arith)
count-some (suc n) p h = go (known (p n)) (count-some n p)
  where
    go : (p n ≡ true) ⊎ (p n ≡ false) → (0 < count n p → (m : ℕ) × (m < n) × (p m ≡ true))
        → (m : ℕ) × (m < suc n) × (p m ≡ true)
    go (inl e) r = (n, omega arith, e)
    go (inr e) r = let w = r (omega (arith, ap one e)) in (w.0, omega arith, w.2)

-- And what is satisfied somewhere is counted.
pub count_at : (n : ℕ) (p : ℕ → Bool) (m : ℕ) → m < n → p m ≡ true → 0 < count n p
unfolding count
count_at zero p m l h = absurd (omega arith)
count_at (suc n) p m l h = go (λ b. count_at n p m b h) (last_or_below m n l)
  where
    go : (m < n → 0 < count n p) → (m ≡ n) ⊎ (m < n) → 0 < count n p + one (p n)
    go r (inl e) = omega (arith, ap one (ap p (sym e) ∙ h))
    go r (inr b) = omega (arith, r b)

pub count_of_none : (n : ℕ) (p : ℕ → Bool) → ((m : ℕ) → m < n → p m ≡ false) → count n p ≡ 0
unfolding count
count_of_none zero p h = refl
count_of_none (suc n) p h = omega (arith, count_of_none n p (λ m l. h m (omega arith)), ap one (h n (omega arith)))

pub count-all : (n : ℕ) (p : ℕ → Bool) → ((m : ℕ) → m < n → p m ≡ true) → count n p ≡ n
unfolding count
count-all zero p h = refl
count-all (suc n) p h = omega (arith, count-all n p (λ m l. h m (omega arith)), ap one (h n (omega arith)))

-- ---- quorums

-- Two sets that are together larger than n have as much in common.
pub quorum : (n : ℕ) (p q : ℕ → Bool) → count n p + count n q ≤ n + count n (λ m. p m && q m)
quorum n p q = omega (arith, count-sum n p q, count_le n (λ m. p m || q m))

-- A correct member in both of two quorums.
pub correct_common : (n f : ℕ) (a b faulty : ℕ → Bool) → count n faulty ≤ f → n + f < count n a + count n b
    → (m : ℕ) × (m < n) × (a m ≡ true) × (b m ≡ true) × (faulty m ≡ false)
correct_common n f a b faulty h l =
    let w = count-some n (λ m. a m && b m && not (faulty m))
    (omega (arith, quorum n a b, count_minus n (λ m. a m && b m) faulty)) in
    let ab = left (a w.0 && b w.0) (not (faulty w.0)) w.2 in (
      w.0,
      w.1,
      left (a w.0) (b w.0) ab,
      right (a w.0) (b w.0) ab,
      not-true (faulty w.0) (right (a w.0 && b w.0) (not (faulty w.0)) w.2),
    )

-- A correct member of one set that is larger than the number of faults.
pub correct_member : (n f : ℕ) (a faulty : ℕ → Bool) → count n faulty ≤ f → f < count n a
    → (m : ℕ) × (m < n) × (a m ≡ true) × (faulty m ≡ false)
correct_member n f a faulty h l =
    let w = count-some n (λ m. a m && not (faulty m)) (omega (arith, count_minus n a faulty)) in
    (w.0, w.1, left (a w.0) (not (faulty w.0)) w.2, not-true (faulty w.0) (right (a w.0) (not (faulty w.0)) w.2))
