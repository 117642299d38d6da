-- What becomes of a count and of a search where a predicate changes at one number.
-- Assumes nothing.
use mathlib.Core.Path.{◌≡◌, refl, sym, ap, ◌∙◌}
use mathlib.Core.Bool.{Bool, true, false, ◌||◌}
use mathlib.Core.Logic.{◌⊎◌, inl, inr}
use Prim.Native.Nat.{ℕ, zero, suc, ◌+◌, ◌<◌}
use native.Mathlib.Omega.{arith}
use Rattle.theory.specs.Sets.{one, any, count}
use Rattle.theory.specs.Counting.{last_or_below, count_ext, any_ext}

-- One number more satisfies it, or none.
pub count-change : (n : ℕ) (p q : ℕ → Bool) (j : ℕ) → j < n → ((i : ℕ) → (i ≡ j → ⊥) → p i ≡ q i) → p j ≡ false
    → count n q ≡ count n p + one (q j)
unfolding count
count-change zero p q j l e f = absurd (omega arith)
count-change (suc n) p q j l e f = go (last_or_below j n l) (λ b. count-change n p q j b e f)
  where
    go : (j ≡ n) ⊎ (j < n) → (j < n → count n q ≡ count n p + one (q j))
        → count n q + one (q n) ≡ (count n p + one (p n)) + one (q j)
    go (inl z) r =
        let same = count_ext n p q (λ m b. e m (λ k. omega arith)) in
        let a : one (p n) ≡ 0 = ap (λ (m : ℕ). one (p m)) (sym z) ∙ ap one f in
        let b : one (q n) ≡ one (q j) = ap (λ (m : ℕ). one (q m)) (sym z) in
        omega arith
    go (inr b) r = let a : one (p n) ≡ one (q n) = ap one (e n (λ k. omega arith)) in omega (arith, r b)

or_last : (a b c : Bool) → ((a || b) || c) ≡ ((a || c) || b)
or_last true b c = refl
or_last false true true = refl
or_last false true false = refl
or_last false false true = refl
or_last false false false = refl

pub any-change : (n : ℕ) (p q : ℕ → Bool) (j : ℕ) → j < n → ((i : ℕ) → (i ≡ j → ⊥) → p i ≡ q i) → p j ≡ false
    → any n q ≡ (any n p || q j)
unfolding any
any-change zero p q j l e f = absurd (omega arith)
any-change (suc n) p q j l e f = go (last_or_below j n l) (λ b. any-change n p q j b e f)
  where
    drop_false : (a b c : Bool) → b ≡ false → ((a || b) || c) ≡ (a || c)
    drop_false true b c h = refl
    drop_false false b c h = ap (λ (x : Bool). x || c) h

    go : (j ≡ n) ⊎ (j < n) → (j < n → any n q ≡ (any n p || q j)) → (any n q || q n) ≡ ((any n p || p n) || q j)
    go (inl z) r =
        let same = any_ext n p q (λ m b. e m (λ k. omega arith)) in
        let none : p n ≡ false = ap p (sym z) ∙ f in
        (λ i. sym same i || q (sym z i)) ∙ sym (drop_false (any n p) (p n) (q j) none)
    go (inr b) r =
        ap (λ (x : Bool). x || q n) (r b) ∙ or_last (any n p) (q j) (q n)
        ∙ ap (λ (x : Bool). (any n p || x) || q j) (sym (e n (λ k. omega arith)))
