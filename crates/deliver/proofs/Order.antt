-- The commands of a set within the book, in number order.
-- Assumes nothing.
use mathlib.Core.Path.{◌≡◌, sym, ap, ◌∙◌}
use mathlib.Core.Bool.{Bool, true, false}
use mathlib.Core.List.{[], ◌∷◌, ◌++◌, append-nil}
use mathlib.Core.Logic.{◌⊎◌, inl, inr}
use Prim.Native.Nat.{ℕ, zero, suc, ◌+◌, ◌-◌, ◌^◌, ◌≤◌, ◌<◌}
use native.Mathlib.Omega.{arith}
use Rattle.theory.specs.Sets.{pick, members}
use Rattle.theory.specs.Counting.{known, lt_or_le}
use Rattle.sets.specs.declared.Set.{Set}
use Rattle.sets.specs.Sets.{in_set, within_of}
use Rattle.sets.proofs.Laws.{in_above, within_at}
use Rattle.deliver.specs.Delivering.{in_order}

-- A bound beyond the members changes nothing.
members-more : (n k : ℕ) (p : ℕ → Bool) → ((m : ℕ) → n ≤ m → p m ≡ false) → members (n + k) p ≡ members n p
unfolding members
members-more n zero p h = let e : n + 0 ≡ n = omega arith in ap (λ (m : ℕ). members m p) e
members-more n (suc k) p h =
    let e : n + suc k ≡ suc (n + k) = omega arith in
    ap (λ (m : ℕ). members m p) e ∙ (λ i. members-more n k p h i ++ pick (h (n + k) (omega arith) i) ((n + k) ∷ []) []) ∙ append-nil (members n p)

-- The members of a set within the book are below the number of commands.
pub order_within : (x : Set) (n : ℕ) → n ≤ 64 → x.bits < 2 ^ 64 → within_of x n ≡ true → in_order x ≡ members n (in_set x)
order_within x n l f w =
    let e : n + (64 - n) ≡ 64 = omega arith in
    ap (λ (m : ℕ). members m (in_set x)) (sym e) ∙ members-more n (64 - n) (in_set x) (λ m h. outside m h (known (in_set x m)) (lt_or_le m 64))
  where
    outside : (m : ℕ) → n ≤ m → (in_set x m ≡ true) ⊎ (in_set x m ≡ false) → (m < 64) ⊎ (64 ≤ m) → in_set x m ≡ false
    outside m h (inr e) d = e
    outside m h (inl e) (inl k) = absurd (let q = within_at x n w m k e in omega arith)
    outside m h (inl e) (inr k) = in_above x m f k
