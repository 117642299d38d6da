-- Laws of the members of a set below a bound, in rising order.
-- Assumes nothing.
use Rattle.std.specs.Prelude.{◌≡◌, refl, Bool, true, false, ◌||◌, [], ◌∷◌, ◌++◌, ◌⊎◌, ℕ, zero, suc, ◌+◌, ◌<◌, eqb, length}
use Rattle.std.proofs.Common.{sym, ◌∙◌, ap, inl, inr, ⊎_elim, arith, length-append, eqb-true, eq-eqb}
use Rattle.theory.specs.Sets.{Set, pick, one, count, members}
use Rattle.theory.specs.Counting.{either, last_or_below, never, true_or}
use Rattle.theory.specs.Lists.{contents, distinct}
use Rattle.theory.specs.ListLaws.{contents-append, contents_left, contents_right, distinct_append}

-- The numbers that stand among the members are those of the set below the bound.
pub members-has : (n : ℕ) (p : Set) (m : ℕ) → m < n → p m ≡ true → contents (members n p) m ≡ true
unfolding members
members-has zero p m l h = absurd (omega arith)
members-has (suc n) p m l h = go (last_or_below m n l) (λ k. members-has n p m k h)
  where
    last : (b : Bool) → b ≡ true → m ≡ n → contents (pick b (n ∷ []) []) m ≡ true
    last true e k = true_or (eqb m n) false (eq-eqb m n k)
    last false e k = e

    go : (m ≡ n) ⊎ (m < n) → (m < n → contents (members n p) m ≡ true) → contents (members n p ++ pick (p n) (n ∷ []) []) m ≡ true
    go (inl e) r = contents_right (members n p) (pick (p n) (n ∷ []) []) m (last (p n) (ap p (sym e) ∙ h) e)
    go (inr e) r = contents_left (members n p) (pick (p n) (n ∷ []) []) m (r e)

pub members_in : (n : ℕ) (p : Set) (m : ℕ) → contents (members n p) m ≡ true → (m < n) × (p m ≡ true)
unfolding members
members_in zero p m h = absurd (never false h refl)
members_in (suc n) p m h =
    go (either (contents (members n p) m) (contents (pick (p n) (n ∷ []) []) m) (sym (contents-append (members n p) (pick (p n) (n ∷ []) []) m) ∙ h))
    (members_in n p m)
  where
    last : (b : Bool) → p n ≡ b → contents (pick b (n ∷ []) []) m ≡ true → (m < suc n) × (p m ≡ true)
    last true e k =
        let q : m ≡ n = eqb-true m n (⊎_elim (λ z. z) (λ z. absurd (never false z refl)) (either (eqb m n) false k)) in
        (omega arith, ap p q ∙ e)
    last false e k = absurd (never false k refl)

    go : (contents (members n p) m ≡ true) ⊎ (contents (pick (p n) (n ∷ []) []) m ≡ true)
        → (contents (members n p) m ≡ true → (m < n) × (p m ≡ true)) → (m < suc n) × (p m ≡ true)
    go (inl e) r = (omega (arith, (r e).0), (r e).1)
    go (inr e) r = last (p n) refl e

pub members_ext : (n : ℕ) (p q : Set) → ((m : ℕ) → m < n → p m ≡ q m) → members n p ≡ members n q
unfolding members
members_ext zero p q h = refl
members_ext (suc n) p q h =
    λ i. members_ext n p q (λ m l. h m (omega arith)) i ++ pick (h n (omega arith) i) (n ∷ []) []

pub members-none : (n : ℕ) (p : Set) → ((m : ℕ) → m < n → p m ≡ false) → members n p ≡ []
unfolding members
members-none zero p h = refl
members-none (suc n) p h = λ i. members-none n p (λ m l. h m (omega arith)) i ++ pick (h n (omega arith) i) (n ∷ []) []

-- A set with one member below the bound.
pub members-one : (n : ℕ) (p : Set) (a : ℕ) → a < n → ((m : ℕ) → m < n → p m ≡ eqb m a) → members n p ≡ a ∷ []
unfolding members
members-one zero p a l h = absurd (omega arith)
members-one (suc n) p a l h = go (last_or_below a n l) (λ k. members-one n p a k (λ m b. h m (omega arith)))
  where
    other : (m : ℕ) → (b : Bool) → eqb m a ≡ b → (m ≡ a → ⊥) → b ≡ false
    other m true e k = absurd (k (eqb-true m a e))
    other m false e k = refl

    go : (a ≡ n) ⊎ (a < n) → (a < n → members n p ≡ a ∷ []) → members n p ++ pick (p n) (n ∷ []) [] ≡ a ∷ []
    go (inl e) r =
        let none : members n p ≡ [] = members-none n p (λ m k. h m (omega arith) ∙ other m (eqb m a) refl (λ z. omega arith)) in
        let here : p n ≡ true = h n (omega arith) ∙ eq-eqb n a (sym e) in
        (λ i. none i ++ pick (here i) (n ∷ []) []) ∙ ap (λ (x : ℕ). x ∷ []) (sym e)
    go (inr e) r =
        let here : p n ≡ false = h n (omega arith) ∙ other n (eqb n a) refl (λ z. omega arith) in
        λ i. r e i ++ pick (here i) (n ∷ []) []

pub members-distinct : (n : ℕ) (p : Set) → distinct (members n p) ≡ true
unfolding members
members-distinct zero p = refl
members-distinct (suc n) p = distinct_append (members n p) (pick (p n) (n ∷ []) []) (members-distinct n p) (last (p n)) (λ m h. apart m (p n) (members_in n p m h).0)
  where
    last : (b : Bool) → distinct (pick b (n ∷ []) []) ≡ true
    last true = refl
    last false = refl

    single : (m : ℕ) (b : Bool) → eqb m n ≡ b → m < n → (b || false) ≡ false
    single m true e l = absurd (let q : m ≡ n = eqb-true m n e in omega arith)
    single m false e l = refl

    apart : (m : ℕ) (b : Bool) → m < n → contents (pick b (n ∷ []) []) m ≡ false
    apart m true l = single m (eqb m n) refl l
    apart m false l = refl

pub length-members : (n : ℕ) (p : Set) → length (members n p) ≡ count n p
unfolding members count
length-members zero p = refl
length-members (suc n) p = length-append (members n p) (pick (p n) (n ∷ []) []) ∙ (λ i. length-members n p i + last (p n) i)
  where
    last : (b : Bool) → length (pick b (n ∷ []) []) ≡ one b
    last true = refl
    last false = refl
