-- Both round trips, of a step and of a list of steps: what is written reads back, and what was read is written as it was.
-- Assumes nothing.
use mathlib.Core.Path.{◌≡◌, refl, sym, ap, ◌∙◌}
use Rattle.std.specs.Prelude.{None, Option, Some}
use mathlib.Core.List.{List, [], ◌∷◌, ◌++◌, map}
use Prim.Native.Nat.{ℕ, ◌+◌}
use native.Mathlib.Omega.{arith}
use lib.ListN.{length, drop, length-append}
use lib.Seq.{drop_at, get_or-drop}
use Rattle.wire.specs.Wire.{value, bytes, read_le}
use Rattle.wire.proofs.Laws.{value-bytes}
use Rattle.sets.specs.declared.Set.{Set}
use Rattle.sets.specs.Sets.{set_bytes, read_set}
use Rattle.steps.specs.declared.Step.{Step}
use Rattle.steps.specs.declared.Step.TheVariants.{Command, Acknowledgment, Check, FalseAcknowledgment, FalseCheck, FalseEntry, Turn, FastDelivery, LogRead, RoundEnd}
use Rattle.steps.specs.Steps.{size_of, uncut, read_as, read_step, and_then, readings, steps_of, set_operand, encode_step, encode_steps, SetFits, InRange, AllInRange}
use Rattle.steps.proofs.Laws.{whole}
use Rattle.steps.proofs.Front.{Small, front}
use Rattle.steps.proofs.Walk.{steps_more}

pub length-step : (t : Step) → length (encode_step t) ≡ size_of t
unfolding bytes
length-step (Command i m) = refl
length-step (Acknowledgment i j r a) = refl
length-step (Check i j r) = refl
length-step (FalseAcknowledgment i j r x) = refl
length-step (FalseCheck i j r x) = refl
length-step (FalseEntry j r nc c) = refl
length-step (Turn i) = refl
length-step (FastDelivery i m) = refl
length-step (LogRead i) = refl
length-step (RoundEnd i) = refl

set_back : (x : Set) → SetFits x → record { bits = value (set_operand x) } ≡ x
set_back x h = λ i. record { bits = value-bytes set_bytes x.bits h i }

-- What is read of a step's bytes, whatever stands after them, is not cut.
uncut_back : (t : Step) (s : List ℕ) {r : Option Step} → r ≡ uncut (encode_step t ++ s) t → r ≡ Some t
uncut_back t s e = e ∙ sym (whole (encode_step t ++ s) t (omega (arith, length-append (encode_step t) s, length-step t)))

-- A written step reads back, whatever stands after it.
pub read-written : (t : Step) (s : List ℕ) → InRange t → read_step (encode_step t ++ s) ≡ Some t
unfolding read_step read_as read_set read_le bytes
read-written (Command i m) s f = uncut_back (Command i m) s refl
read-written (Acknowledgment i j r a) s f = uncut_back (Acknowledgment i j r a) s refl
read-written (Check i j r) s f = uncut_back (Check i j r) s refl
read-written (FalseAcknowledgment i j r x) s f =
    uncut_back (FalseAcknowledgment i j r x) s (λ k. uncut (encode_step (FalseAcknowledgment i j r x) ++ s) (FalseAcknowledgment i j r (set_back x f k)))
read-written (FalseCheck i j r x) s f =
    uncut_back (FalseCheck i j r x) s (λ k. uncut (encode_step (FalseCheck i j r x) ++ s) (FalseCheck i j r (set_back x f k)))
read-written (FalseEntry j r nc c) s (f, g) =
    uncut_back (FalseEntry j r nc c) s (λ k. uncut (encode_step (FalseEntry j r nc c) ++ s) (FalseEntry j r (set_back nc f k) (set_back c g k)))
read-written (Turn i) s f = uncut_back (Turn i) s refl
read-written (FastDelivery i m) s f = uncut_back (FastDelivery i m) s refl
read-written (LogRead i) s f = uncut_back (LogRead i) s refl
read-written (RoundEnd i) s f = uncut_back (RoundEnd i) s refl

-- A step that was read, written in front of what is left, gives the bytes.
pub written_read : (s : List ℕ) {t : Step} → Small s → read_step s ≡ Some t → encode_step t ++ drop (size_of t) s ≡ s
written_read s small e = (front s e).back small

-- Written steps read back.
pub steps_back : (ts : List Step) → AllInRange ts → steps_of (encode_steps ts) ≡ map Some ts
unfolding steps_of
steps_back [] f = refl
steps_back (t ∷ ts) f =
    steps_more (encode_step t ++ encode_steps ts) (read-written t (encode_steps ts) f.0)
    ∙ ap (λ (l : List ℕ). Some t ∷ steps_of l) (drop_at (encode_step t) (encode_steps ts) (size_of t) (length-step t))
    ∙ ap (λ (l : List (Option Step)). Some t ∷ l) (steps_back ts f.1)

-- No step is read only where there are no bytes.
no_steps : (s : List ℕ) → steps_of s ≡ [] → s ≡ []
unfolding steps_of
no_steps [] e = refl
no_steps (b ∷ s) e = absurd (by_reading (read_step (b ∷ s)) e)
  where
    by_reading : (r : Option Step) → and_then r (λ k. readings s k) ≡ [] → ⊥
    by_reading (Some t) q = let z : ◌≡◌ {A = ℕ} 0 1 = cc in omega arith
    by_reading None q = let z : ◌≡◌ {A = ℕ} 0 1 = cc in omega arith

-- The first of some steps, and those after it.
first_step : (s : List ℕ) {t : Step} {rs : List (Option Step)} → steps_of s ≡ Some t ∷ rs → (read_step s ≡ Some t) × (steps_of (drop (size_of t) s) ≡ rs)
unfolding steps_of
first_step [] e = absurd (let z : ◌≡◌ {A = ℕ} 0 1 = cc in omega arith)
first_step (b ∷ s) {t} {rs} e = by_reading (read_step (b ∷ s)) refl e
  where
    by_reading : (r : Option Step) → read_step (b ∷ s) ≡ r → and_then r (λ k. readings s k) ≡ Some t ∷ rs → (read_step (b ∷ s) ≡ Some t) × (steps_of (drop (size_of t) (b ∷ s)) ≡ rs)
    by_reading None p q = absurd (let z : ◌≡◌ {A = ℕ} 0 1 = cc in omega arith)
    by_reading (Some u) p q =
        let w : u ≡ t = cc in
        let v = p ∙ ap Some w in
        (v, let m : steps_of (drop (size_of t) (b ∷ s)) ≡ rs = cc (sym (steps_more (b ∷ s) v) ∙ e) in m)

small_drop : (k : ℕ) (s : List ℕ) → Small s → Small (drop k s)
small_drop k s h i = rw (get_or-drop k s i 0) (h (k + i))

-- Bytes that hold only whole steps are those of the steps.
pub steps_written : (s : List ℕ) → Small s → (ts : List Step) → steps_of s ≡ map Some ts → (encode_steps ts ≡ s) × AllInRange ts
steps_written s small [] e = (sym (no_steps s e), tt)
steps_written s small (t ∷ ts) e =
    let f = first_step s e in
    let r = steps_written (drop (size_of t) s) (small_drop (size_of t) s small) ts f.1 in
    (ap (λ (l : List ℕ). encode_step t ++ l) r.0 ∙ written_read s small f.0, ((front s f.0).range small, r.1))
