-- Lists of command numbers: contents, no repetition, order, and what is left of a list by a set.
-- Assumes nothing.
use Rattle.std.specs.Prelude.{Bool, true, false, ◌&&◌, ◌||◌, not, List, [], ◌∷◌, ℕ, zero, suc, eqb, None, Option, Some}
use Rattle.theory.specs.Sets.{Set, pick}

-- The numbers that stand in a list.
abbrev pub contents : List ℕ → Set
contents [] m = false
contents (x ∷ l) m = eqb m x || contents l m

-- No number stands twice.
abbrev pub distinct : List ℕ → Bool
distinct [] = true
distinct (x ∷ l) = not (contents l x) && distinct l

-- a stands somewhere before b.
abbrev pub before : ℕ → ℕ → List ℕ → Bool
before a b [] = false
before a b (x ∷ l) = eqb a x && contents l b || before a b l

-- The numbers of a list that are in a set, in the list's order.
abbrev pub sift : Set → List ℕ → List ℕ
sift p [] = []
sift p (x ∷ l) = pick (p x) (x ∷ sift p l) (sift p l)

-- What stands at a position, counted from 0.
abbrev pub nth : {A : Type 0} → List A → ℕ → Option A
nth [] k = None
nth (x ∷ l) zero = Some x
nth (x ∷ l) (suc k) = nth l k
