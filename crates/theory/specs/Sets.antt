-- Sets of numbers as predicates, looked at below a bound: all, any, count, members.
-- Assumes nothing.
use Rattle.std.specs.Prelude.{Bool, true, false, ◌&&◌, ◌||◌, not, List, [], ◌∷◌, ◌++◌, ℕ, zero, suc, ◌+◌, eqb}

-- One of two values, by a test.
abbrev pub pick {ℓ} : {A : Type ℓ} → Bool → A → A → A
pick true a b = a
pick false a b = b

-- 1 for true, 0 for false.
abbrev pub one : Bool → ℕ
one true = 1
one false = 0

-- A set of numbers: the test of membership.
abbrev pub Set : Type 0
Set = ℕ → Bool

abbrev pub ∅ : Set
∅ m = false

abbrev pub only : ℕ → Set
only a m = eqb m a

infixl 60 ◌∪◌
infixl 60 ◌∖◌
abbrev pub ◌∪◌ : Set → Set → Set
◌∪◌ a b m = a m || b m

abbrev pub ◌∖◌ : Set → Set → Set
◌∖◌ a b m = a m && not (b m)

-- Every number below n satisfies p.
unfoldable pub all : ℕ → (ℕ → Bool) → Bool
all zero p = true
all (suc n) p = all n p && p n

-- Some number below n satisfies p.
unfoldable pub any : ℕ → (ℕ → Bool) → Bool
any zero p = false
any (suc n) p = any n p || p n

-- How many numbers below n satisfy p.
unfoldable pub count : ℕ → (ℕ → Bool) → ℕ
count zero p = 0
count (suc n) p = count n p + one (p n)

-- The numbers below n that satisfy p, in rising order.
unfoldable pub members : ℕ → Set → List ℕ
members zero p = []
members (suc n) p = members n p ++ pick (p n) (n ∷ []) []
