-- Laws of a loop over steps: what is left of some bytes is a step and then less, or cannot be read, or is nothing.
-- Assumes nothing.
use mathlib.Core.Path.{◌≡◌, refl, sym, ap, ◌∙◌}
use Rattle.std.specs.Prelude.{None, Option, Some}
use mathlib.Core.List.{List, [], ◌∷◌}
use Prim.Native.Nat.{ℕ, zero, suc, ◌+◌, ◌-◌, ◌≤◌, ◌<◌}
use native.Mathlib.Omega.{arith}
use lib.ListN.{length, drop, length-drop}
use lib.Seq.{drop-drop}
use Rattle.steps.specs.declared.Step.{Step}
use Rattle.steps.specs.declared.Step.TheVariants.{Command, Acknowledgment, Check, FalseAcknowledgment, FalseCheck, FalseEntry, Turn, FastDelivery, LogRead, RoundEnd}
use Rattle.steps.specs.Steps.{size_of, read_step, and_then, readings, steps_of}
use Rattle.steps.proofs.Front.{front}

-- A step has at least 2 bytes.
size_least : (t : Step) → 2 ≤ size_of t
size_least (Command i m) = omega arith
size_least (Acknowledgment i j r a) = omega arith
size_least (Check i j r) = omega arith
size_least (FalseAcknowledgment i j r x) = omega arith
size_least (FalseCheck i j r x) = omega arith
size_least (FalseEntry j r nc c) = omega arith
size_least (Turn i) = omega arith
size_least (FastDelivery i m) = omega arith
size_least (LogRead i) = omega arith
size_least (RoundEnd i) = omega arith

readings_skip : (s : List ℕ) (k : ℕ) → readings s k ≡ readings (drop k s) 0
readings_skip [] zero = refl
readings_skip [] (suc k) = refl
readings_skip (b ∷ s) zero = refl
readings_skip (b ∷ s) (suc k) = readings_skip s k

-- A step in front.
pub steps_more : (s : List ℕ) {t : Step} → read_step s ≡ Some t → steps_of s ≡ Some t ∷ steps_of (drop (size_of t) s)
unfolding steps_of
steps_more [] {t} e = absurd (let f = (front [] e).size in omega (arith, size_least t))
steps_more (b ∷ s) {t} e =
    let q : suc (size_of t - 1) ≡ size_of t = omega (arith, size_least t) in
    ap (λ (r : Option Step). and_then r (λ k. readings s k)) e
    ∙ ap (λ (l : List (Option Step)). Some t ∷ l) (readings_skip s (size_of t - 1) ∙ ap (λ (n : ℕ). readings (drop n (b ∷ s)) 0) q)

-- Bytes that cannot be read.
pub steps_bad : (s : List ℕ) → 0 < length s → read_step s ≡ None → steps_of s ≡ None ∷ []
unfolding steps_of
steps_bad [] h e = absurd (omega arith)
steps_bad (b ∷ s) h e = ap (λ (r : Option Step). and_then r (λ k. readings s k)) e

-- No bytes.
pub steps_end : (s : List ℕ) → length s ≡ 0 → steps_of s ≡ []
unfolding steps_of
steps_end [] h = refl
steps_end (b ∷ s) h = absurd (omega arith)

-- The same of what is left from a position on, where z is the size of the step that stands there.
module _ (s : List ℕ) (at : ℕ) where
  pub more_at : {t : Step} {z : ℕ} → read_step (drop at s) ≡ Some t → z ≡ size_of t → steps_of (drop at s) ≡ Some t ∷ steps_of (drop (at + z) s)
  more_at {t} e q =
      steps_more (drop at s) e
      ∙ ap (λ (l : List ℕ). Some t ∷ steps_of l) (drop-drop (size_of t) at s ∙ ap (λ (n : ℕ). drop (at + n) s) (sym q))

  pub bad_at : at < length s → read_step (drop at s) ≡ None → steps_of (drop at s) ≡ None ∷ []
  bad_at h e = steps_bad (drop at s) (omega (arith, length-drop at s)) e

  pub end_at : length s ≤ at → steps_of (drop at s) ≡ []
  end_at h = steps_end (drop at s) (omega (arith, length-drop at s))

  -- A step that was read lies inside the bytes.
  pub inside : {t : Step} {z : ℕ} → at ≤ length s → read_step (drop at s) ≡ Some t → z ≡ size_of t → (2 ≤ z) × (at + z ≤ length s)
  inside {t} h e q = (omega (arith, size_least t), omega (arith, (front (drop at s) e).size, size_least t, length-drop at s))
