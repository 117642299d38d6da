-- Laws of demands that follow others: the first refusal is the answer, and a call that is taken has met them all.
-- Assumes nothing.
use mathlib.Core.Path.{◌≡◌, refl, sym, ◌∙◌}
use Rattle.std.specs.Prelude.{Err, Ok}
use mathlib.Core.Bool.{Bool, true, false}
use Prim.Native.Nat.{ℕ}
use Rattle.refusals.specs.declared.Refusal.{Refusal}
use Rattle.refusals.specs.Refusals.{Verdict, accepted}
use Rattle.refusals.specs.Refusals.{number_of, code_of}
use Rattle.refusals.specs.Numbers.{number_nonzero}
use Rattle.protocol.specs.System.{Demands, granted, ◌else◌⨾◌, verdict}
use Rattle.judging.specs.Outcomes.{outcome, answered, ◌then◌}

pub taken-zero : (v : Verdict) → code_of v ≡ 0 → v ≡ accepted
taken-zero (Ok _) e = refl
taken-zero (Err r) e = absurd (number_nonzero r e)

-- Every demand of a list holds.
abbrev pub Met : Demands → Type 0
Met granted = Unit {0}
Met (t else r ⨾ d) = (t ≡ true) × Met d

pub met : (d : Demands) {code : ℕ} → code ≡ code_of (verdict d) → code ≡ 0 → Met d
met granted q z = tt
met (true else r ⨾ d) q z = (refl, met d q z)
met (false else r ⨾ d) q z = absurd (number_nonzero r (sym q ∙ z))

module _ (d e : Demands) where
  -- What follows demands that are met decides.
  pub then_taken : {code : ℕ} → code ≡ code_of (verdict d) → code ≡ 0 → verdict (d then e) ≡ verdict e
  then_taken q z = go d q z
    where
      go : (d : Demands) {code : ℕ} → code ≡ code_of (verdict d) → code ≡ 0 → verdict (d then e) ≡ verdict e
      go granted q z = refl
      go (true else r ⨾ d) q z = go d q z
      go (false else r ⨾ d) q z = absurd (number_nonzero r (sym q ∙ z))

  -- A refusal by the first demands is the answer.
  pub then_refused : {A : Type 0} (later before : A) {code : ℕ} → code ≡ code_of (verdict d) → (code ≡ 0 → ⊥)
      → outcome code before ≡ answered (verdict (d then e)) later before
  then_refused {A} later before q n = go d q n
    where
      go : (d : Demands) {code : ℕ} → code ≡ code_of (verdict d) → (code ≡ 0 → ⊥) → outcome code before ≡ answered (verdict (d then e)) later before
      go granted q n = absurd (n q)
      go (true else r ⨾ d) q n = go d q n
      go (false else r ⨾ d) q n = λ i. outcome (q i) before

-- The outcome of a call whose verdict is known.
pub answered-taken : {A : Type 0} {v : Verdict} (later before : A) → v ≡ accepted → outcome 0 later ≡ answered v later before
answered-taken later before e = λ i. answered (sym e i) later before

pub answered_refused : {A : Type 0} {v : Verdict} (r : Refusal) (later before : A) → v ≡ Err r → outcome (number_of r) before ≡ answered v later before
answered_refused r later before e = λ i. answered (sym e i) later before

-- The outcome of a call by the number of its verdict.
pub code_refused : {A : Type 0} (v : Verdict) (later before : A) {code : ℕ} → code ≡ code_of v → (code ≡ 0 → ⊥) → outcome code before ≡ answered v later before
code_refused (Ok _) later before q n = absurd (n q)
code_refused (Err r) later before q n = λ i. outcome (q i) before

pub code-taken : {A : Type 0} (v : Verdict) (later before : A) {code : ℕ} → code ≡ code_of v → code ≡ 0 → outcome 0 later ≡ answered v later before
code-taken v later before q z = answered-taken later before (taken-zero v (sym q ∙ z))

-- A demand after those that were met: it refuses, or is the last that is met.
module _ (d : Demands) (t : Bool) (r : Refusal) {A : Type 0} (later before : A) {code : ℕ} (q : code ≡ code_of (verdict d)) (z : code ≡ 0) where
  pub last_refused : t ≡ false → outcome (number_of r) before ≡ answered (verdict (d then t else r ⨾ granted)) later before
  last_refused e = answered_refused r later before (then_taken d (t else r ⨾ granted) q z ∙ (λ i. verdict (e i else r ⨾ granted)))

  pub last_taken : t ≡ true → outcome 0 later ≡ answered (verdict (d then t else r ⨾ granted)) later before
  last_taken e = answered-taken later before (then_taken d (t else r ⨾ granted) q z ∙ (λ i. verdict (e i else r ⨾ granted)))
