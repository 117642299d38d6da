-- The members of a set in number order: the least, and then those of the rest.
-- Rests on Laws and Rest.
use mathlib.Core.Path.{◌≡◌, sym, ap, ◌∙◌}
use mathlib.Core.Bool.{Bool, true, false, ◌&&◌, not}
use mathlib.Core.List.{List, [], ◌∷◌, ◌++◌}
use mathlib.Core.Logic.{◌⊎◌, inl, inr}
use Prim.Native.Nat.{ℕ, zero, suc, ◌<◌}
use native.Mathlib.Omega.{arith}
use lib.Dec.{eqb}
use borrow.Author.Tests.{eq-eqb, ne_eqb}
use Rattle.theory.specs.Sets.{pick, members}
use Rattle.theory.specs.Counting.{last_or_below, and_false, and_true}
use Rattle.theory.specs.Members.{members-none, members_ext}
use Rattle.sets.specs.declared.Set.{Set}
use Rattle.sets.specs.Sets.{capacity, in_set, is_empty_of, first_of, rest_of}
use Rattle.sets.proofs.Laws.{empty_at, first_in, first_before}
use Rattle.sets.proofs.Rest.{in_rest}

-- The least member, then the others.
members_first : (n : ℕ) (p : ℕ → Bool) (m : ℕ) → m < n → p m ≡ true → ((j : ℕ) → j < m → p j ≡ false) → members n p ≡ m ∷ members n (λ j. p j && not (eqb j m))
unfolding members
members_first zero p m l h b = absurd (omega arith)
members_first (suc n) p m l h b = go (last_or_below m n l) (λ k. members_first n p m k h b)
  where
    go : (m ≡ n) ⊎ (m < n) → (m < n → members n p ≡ m ∷ members n (λ j. p j && not (eqb j m)))
        → members n p ++ pick (p n) (n ∷ []) [] ≡ m ∷ (members n (λ j. p j && not (eqb j m)) ++ pick (p n && not (eqb n m)) (n ∷ []) [])
    go (inl e) r =
        let none : members n p ≡ [] = members-none n p (λ j k. b j (omega arith)) in
        let rest : members n (λ j. p j && not (eqb j m)) ≡ [] = members-none n (λ j. p j && not (eqb j m)) (λ j k. ap (λ (x : Bool). x && not (eqb j m)) (b j (omega arith))) in
        let here : p n ≡ true = ap p (sym e) ∙ h in
        let gone : (p n && not (eqb n m)) ≡ false = ap (λ (x : Bool). p n && not x) (eq-eqb n m (sym e)) ∙ and_false (p n) in
        (λ i. none i ++ pick (here i) (n ∷ []) []) ∙ ap (λ (x : ℕ). x ∷ []) (sym e) ∙ (λ i. m ∷ (sym rest i ++ pick (sym gone i) (n ∷ []) []))
    go (inr k) r =
        let same : p n ≡ (p n && not (eqb n m)) = sym (ap (λ (x : Bool). p n && not x) (ne_eqb n m (λ e. omega arith)) ∙ and_true (p n)) in
        λ i. r k i ++ pick (same i) (n ∷ []) []

pub order_none : (x : Set) → is_empty_of x ≡ true → members capacity (in_set x) ≡ []
order_none x e = members-none capacity (in_set x) (λ m l. empty_at x e m l)

pub order_first : (x : Set) {y : Set} {m : ℕ} → is_empty_of x ≡ false → m ≡ first_of x → y ≡ rest_of x → members capacity (in_set x) ≡ m ∷ members capacity (in_set y)
order_first x e em ey =
    let f = first_in x e in
    members_first capacity (in_set x) (first_of x) f.0 f.1 (λ j l. first_before x j l)
    ∙ ap (λ (l : List ℕ). first_of x ∷ l) (members_ext capacity (λ j. in_set x j && not (eqb j (first_of x))) (in_set (rest_of x)) (λ j l. sym (in_rest x j)))
    ∙ (λ i. sym em i ∷ members capacity (in_set (sym ey i)))
