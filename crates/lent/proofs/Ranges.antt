-- Every number below n satisfies p where every item of the range does.
-- Assumes nothing.
use mathlib.Core.Path.{◌≡◌, refl, sym, ap, ◌∙◌}
use mathlib.Core.Bool.{Bool, true, false, ◌&&◌}
use Prim.Native.Nat.{ℕ, zero, suc, ◌+◌}
use native.Mathlib.Omega.{arith}
use Rattle.std.specs.List.{list_all, range_with_len}
use Rattle.std.proofs.Common.{add-one}
use Rattle.theory.specs.Sets.{all}
use Rattle.theory.specs.Counting.{and_true}

and_and : (a b c : Bool) → (a && b && c) ≡ (a && (b && c))
and_and true b c = refl
and_and false b c = refl

-- One number more.
all_and : (a : ℕ) (p : ℕ → Bool) → all (a + 1) p ≡ (all a p && p a)
unfolding all
all_and a p = rw add-one

all_on : (a n : ℕ) (p : ℕ → Bool) → all (a + n) p ≡ (all a p && list_all p (range_with_len a n))
all_on a zero p = let e : a + 0 ≡ a = omega arith in ap (λ (k : ℕ). all k p) e ∙ sym (and_true (all a p))
all_on a (suc n) p =
    let e : a + suc n ≡ a + 1 + n = omega arith in
    let rest = list_all p (range_with_len (a + 1) n) in
    ap (λ (k : ℕ). all k p) e ∙ all_on (a + 1) n p ∙ ap (λ (t : Bool). t && rest) (all_and a p) ∙ and_and (all a p) (p a) rest

pub all_range : (n : ℕ) (p : ℕ → Bool) → list_all p (range_with_len 0 n) ≡ all n p
unfolding all
all_range n p = let e : 0 + n ≡ n = omega arith in sym (all_on 0 n p) ∙ ap (λ (k : ℕ). all k p) e
