-- `register::judge`: each reading is tested as the definition tests it.
-- Assumes nothing.
use Rattle.std.proofs.Common.{◌≡◌, Bool, true, false, ℕ, ◌+◌, ◌*◌, ◌<◌, leb, length, get_or, MatchBool, refl, sym, subst, ◌∙◌, arith, rules, tests}
use Rattle.std.specs.List.{AllWithin, HoldsAt, range_with_len}
use Rattle.std.proofs.lemmas.Iterator.{cases_from_all, YieldsList-from_range}
use Rattle.std.proofs.lemmas.List.FromFn.{length-range_with_len, get_or-range_with_len}
use Rattle.theory.specs.Sets.{all}
use Rattle.theory.specs.Counting.{all_of, all-not}
use Rattle.wire.specs.Wire.{read_le}
use Rattle.register.specs.Lent.{bike_size}
use Rattle.register.specs.Register.{bikes, max_reading}
use Rattle.register.proofs.Lent.{within_read}
use Rattle.register.proofs.judge.Goals as goal

in_range : (n k : ℕ) → k < n → get_or (range_with_len 0 n) k 0 ≡ k
in_range n k h = let q : 0 + k ≡ k = omega arith in get_or-range_with_len 0 n k 0 h ∙ q

-- What the library answers of all numbers below n.
all_below : (n : ℕ) (p : ℕ → Bool) (r : Bool)
    → MatchBool r (AllWithin (λ k. p k ≡ true) (range_with_len 0 n) 0 (length (range_with_len 0 n))) ((k : ℕ) × (k < length (range_with_len 0 n)) × HoldsAt (λ m. p m ≡ false) (range_with_len 0 n) k)
    → r ≡ all n p
all_below n p true h =
    let l = length-range_with_len 0 n in
    sym (all_of n p (λ k m. subst (λ (i : ℕ). p i ≡ true) (in_range n k m) (h k 0 (omega arith) (omega arith))))
all_below n p false h =
    let l = length-range_with_len 0 n in
    let m : h.0 < n = omega arith in
    sym (all-not n p h.0 m (subst (λ (i : ℕ). p i ≡ false) (in_range n h.0 m) (h.2 0)))

pub returns : goal.returns
returns c =
    let a = c.args in
    let p = λ (k : ℕ). leb (read_le 4 a.register.now (a.at + bike_size * k)) max_reading in
    all_below bikes p c.all.result (cases_from_all _ _ _ (λ k. p k ≡ true) (λ k. p k ≡ false)
    c.all.ensures.ran (YieldsList-from_range 0 bikes bikes refl refl) (λ x q k. search (rules, tests)) (λ x q k. search (rules, tests)))
    ∙ within_read a.register.now a.at
