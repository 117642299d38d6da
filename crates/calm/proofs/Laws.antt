-- How the rows are looked at, member by member, and what is known when the looking ends.
-- Assumes nothing.
use mathlib.Core.Path.{◌≡◌, refl, sym, ap, ◌∙◌}
use mathlib.Core.Bool.{Bool, true, false, ◌&&◌, ◌||◌, not}
use mathlib.Core.List.{List, [], ◌∷◌}
use Prim.Native.Nat.{ℕ, ◌+◌, ◌<◌}
use native.Mathlib.Decide.{ℕ_discrete}
use lib.Dec.{eqb}
use borrow.Author.Tests.{eq-eqb, ne_eqb}
use Rattle.theory.specs.Sets as theory
use Rattle.theory.specs.Sets.{one, members}
use Rattle.theory.specs.Lists.{contents}
use Rattle.theory.specs.Members.{members-has, members_in}
use Rattle.theory.specs.Counting.{left, right, never, true_or, or_true, and_false, and_true, refuted, apart_at, apart_of}
use Rattle.sets.specs.declared.Set.{Set}
use Rattle.sets.specs.Sets.{capacity, in_set, empty_of, with_of, without_of, common_of, load_set, is_empty_of, size_of, first_of}
use Rattle.sets.proofs.Laws.{in_empty, in_with, in_without, in_common, empty_at, first_in}
use Rattle.calm.specs.Rows.{conflict_by, free_between}
use Rattle.calm.proofs.Change.{count-change}

in_alone : (m j : ℕ) → in_set (with_of empty_of m) j ≡ eqb j m
in_alone m j = in_with empty_of m j ∙ ap (λ (b : Bool). b || eqb j m) (in_empty j)

-- A set without one command.
pub in_less : (s : Set) (m j : ℕ) → in_set (without_of s (with_of empty_of m)) j ≡ (in_set s j && not (eqb j m))
in_less s m j = in_without s (with_of empty_of m) j ∙ ap (λ (b : Bool). in_set s j && not b) (in_alone m j)

pub less_same : (s : Set) (m : ℕ) → in_set (without_of s (with_of empty_of m)) m ≡ false
less_same s m = in_less s m m ∙ ap (λ (b : Bool). in_set s m && not b) (eq-eqb m m refl) ∙ and_false (in_set s m)

pub less_other : (s : Set) (m j : ℕ) → (j ≡ m → ⊥) → in_set (without_of s (with_of empty_of m)) j ≡ in_set s j
less_other s m j n = in_less s m j ∙ ap (λ (b : Bool). in_set s j && not b) (ne_eqb j m n) ∙ and_true (in_set s j)

-- A member taken away leaves one fewer.
pub less_size : (s : Set) (m : ℕ) → m < capacity → in_set s m ≡ true → size_of s ≡ size_of (without_of s (with_of empty_of m)) + 1
less_size s m l h =
    count-change capacity (in_set (without_of s (with_of empty_of m))) (in_set s) m l (λ j n. less_other s m j n) (less_same s m)
    ∙ ap (λ (b : Bool). size_of (without_of s (with_of empty_of m)) + one b) h

module _ (rows : List ℕ) (x y : theory.Set) where
  -- Where one set is free beside another, two of their members do not conflict.
  pub between_pair : free_between rows x y ≡ true → (a b : ℕ) → a < capacity → b < capacity → x a ≡ true → y b ≡ true → conflict_by rows a b ≡ false
  between_pair = apart_at capacity x y (conflict_by rows)

  -- And sets of which no two members conflict are free beside each other.
  pub between_of : ((a b : ℕ) → a < capacity → b < capacity → x a ≡ true → y b ≡ true → conflict_by rows a b ≡ false) → free_between rows x y ≡ true
  between_of = apart_of capacity x y (conflict_by rows)

module _ (rows : List ℕ) (new set : Set) where
  -- Members that are no longer left to look at have none of the other set in their rows.
  pub record Looked (left : List ℕ) : Type 0 where
    pub within : (a : ℕ) → contents left a ≡ true → (a < capacity) × (in_set new a ≡ true)
    pub clear : (a : ℕ) → a < capacity → in_set new a ≡ true → contents left a ≡ false
        → is_empty_of (common_of (load_set rows a) set) ≡ true

  pub looked_none : Looked (members capacity (in_set new))
  looked_none =
      record {
        within = members_in capacity (in_set new);
        clear = λ a l h k. absurd (never (contents (members capacity (in_set new)) a) (members-has capacity (in_set new) a l h) k);
      }

  -- One turn of the loop: the member that is looked at, and what is left after it.
  pub member_in : {m : ℕ} {left rest : List ℕ} → left ≡ m ∷ rest → Looked left → (m < capacity) × (in_set new m ≡ true)
  member_in {m} {rest = rest} e h = h.within m (ap (λ (l : List ℕ). contents l m) e ∙ true_or (eqb m m) (contents rest m) (eq-eqb m m refl))

  pub looked_turn : {m : ℕ} {left rest : List ℕ} {row shared : Set} → left ≡ m ∷ rest → row ≡ load_set rows m → shared ≡ common_of row set
      → true ≡ is_empty_of shared → Looked left → Looked rest
  looked_turn {m} {rest = rest} er hr hs t h =
      record {
        within = λ a i. h.within a (ap (λ (l : List ℕ). contents l a) er ∙ or_true (eqb a m) (contents rest a) i);
        clear =
            λ a l i k.
            elim (ℕ_discrete a m) [
              | yes e ↦ rw e (sym (t ∙ ap is_empty_of (hs ∙ ap (λ (x : Set). common_of x set) hr)))
              | no n ↦ h.clear a l i (ap (λ (l : List ℕ). contents l a) er ∙ ap (λ (b : Bool). b || contents rest a) (ne_eqb a m n) ∙ k)
            ];
      }

  pub looked_all : {left : List ℕ} → left ≡ [] → Looked left → true ≡ free_between rows (in_set new) (in_set set)
  looked_all e h =
      sym (between_of rows (in_set new) (in_set set)
      (λ a b la lb ha hb. sym (and_true (conflict_by rows a b))
      ∙ sym (ap (λ (x : Bool). conflict_by rows a b && x) hb)
      ∙ sym (in_common (load_set rows a) set b)
      ∙ empty_at (common_of (load_set rows a) set) (h.clear a la ha (ap (λ (l : List ℕ). contents l a) e)) b lb))

  pub looked_bad : {m : ℕ} {row shared : Set} → (m < capacity) × (in_set new m ≡ true) → row ≡ load_set rows m → shared ≡ common_of row set → false ≡ is_empty_of shared
      → false ≡ free_between rows (in_set new) (in_set set)
  looked_bad {m} w hr hs t = sym (refuted (free_between rows (in_set new) (in_set set)) found)
    where
      found : free_between rows (in_set new) (in_set set) ≡ true → ⊥
      found h =
          let x = common_of (load_set rows m) set in
          let f = first_in x (sym (t ∙ ap is_empty_of (hs ∙ ap (λ (y : Set). common_of y set) hr))) in
          let k = sym (in_common (load_set rows m) set (first_of x)) ∙ f.1 in
          never (conflict_by rows m (first_of x)) (left (conflict_by rows m (first_of x)) (in_set set (first_of x)) k)
          (between_pair rows (in_set new) (in_set set) h m (first_of x) w.0 f.0 w.1 (right (conflict_by rows m (first_of x)) (in_set set (first_of x)) k))
