-- Laws of the code that reads and writes a step.
-- Assumes nothing.
use mathlib.Core.Path.{◌≡◌, refl, sym, ap, subst, ◌∙◌}
use Rattle.std.specs.Prelude.{None, Option, Some}
use mathlib.Core.List.{List, [], ◌∷◌, ◌++◌}
use Prim.Native.Nat.{ℕ, zero, suc, ◌+◌, ◌-◌, ◌≤◌, ◌<◌}
use native.Mathlib.Decide.{dec_lt}
use native.Mathlib.Omega.{arith}
use borrow.Author.Tests.{le-leb, lt-leb}
use lib.ListN.{length, take, drop, get_or-eq_default}
use Rattle.wire.specs.Wire.{splice}
use Rattle.wire.proofs.Laws.{splice_two, part_all, length-bytes}
use Rattle.sets.specs.declared.Set.{Set}
use Rattle.sets.specs.Sets.{set_bytes}
use Rattle.steps.specs.declared.Step.{Step}
use Rattle.steps.specs.declared.Step.TheVariants.{FalseEntry}
use Rattle.steps.specs.Steps.{size_of, byte, uncut, by_code, read_as, read_step, set_operand, encode_step}

-- ---- reading

pub whole : (s : List ℕ) (t : Step) → size_of t ≤ length s → Some t ≡ uncut s t
unfolding uncut
whole s t h = rw (le-leb (size_of t) (length s) h) refl

pub cut : (s : List ℕ) (t : Step) → length s < size_of t → None ≡ uncut s t
unfolding uncut
cut s t h = rw (lt-leb (size_of t) (length s) h) refl

-- Steps of one size that differ only where the bytes are cut.
pub uncut_same : (s : List ℕ) {t u : Step} → size_of t ≡ size_of u → (size_of u ≤ length s → t ≡ u) → uncut s t ≡ uncut s u
uncut_same s {t} {u} e f =
    elim (dec_lt (length s) (size_of u)) [
      | yes h ↦ sym (cut s t (omega (arith, e))) ∙ cut s u h
      | no h ↦ ap (uncut s) (f (omega arith))
    ]

next : {n k : ℕ} → n < k → (k ≡ suc n → ⊥) → suc n < k
next h e = omega arith

-- The codes are 01 to 0A.
pub no_code : (s : List ℕ) (k : ℕ) → (k ≡ 1 → ⊥) → (k ≡ 2 → ⊥) → (k ≡ 3 → ⊥) → (k ≡ 4 → ⊥) → (k ≡ 5 → ⊥) → (k ≡ 6 → ⊥) → (k ≡ 7 → ⊥) → (k ≡ 8 → ⊥) → (k ≡ 9 → ⊥) → (k ≡ 10 → ⊥) → None ≡ read_as k s
unfolding read_as
no_code s zero n₁ n₂ n₃ n₄ n₅ n₆ n₇ n₈ n₉ n₁₀ = refl
no_code s (suc k) n₁ n₂ n₃ n₄ n₅ n₆ n₇ n₈ n₉ n₁₀ = sym (get_or-eq_default (by_code s) None (next (next (next (next (next (next (next (next (next (next (omega arith) n₁) n₂) n₃) n₄) n₅) n₆) n₇) n₈) n₉) n₁₀))

-- The step that stands at a position is read from the bytes from there on.
module _ (s : List ℕ) (at : ℕ) where
  -- In code these are the elements of a part of the bytes.
  pub part_read : {r : Option Step} {code : ℕ} (k : ℕ) → code ≡ byte (take (length s - at) (drop at s)) 0 → code ≡ k → r ≡ read_as k (take (length s - at) (drop at s)) → r ≡ read_step (drop at s)
  unfolding read_step
  part_read k e h q =
      let p = part_all s at in
      q ∙ (λ i. read_as (((sym h ∙ e) ∙ ap (λ (l : List ℕ). byte l 0) p) i) (p i))

-- ---- writing

-- Bytes written side by side.
pub join : (s : List ℕ) (at : ℕ) (a b : List ℕ) {s₁ s₂ : List ℕ} {r : ℕ} → at ≤ length s → s₁ ≡ splice s at a → r ≡ at + length a → s₂ ≡ splice s₁ r b → s₂ ≡ splice s at (a ++ b)
join s at a b h e p q = q ∙ (λ i. splice (e i) (p i) b) ∙ splice_two s at a b h

-- What a write of the step t answers and leaves.
abbrev pub Written : List ℕ → ℕ → List ℕ → ℕ → Step → Type 0
Written after past s at t = (past ≡ at + size_of t) × (after ≡ splice s at (encode_step t))

pub wrote : (s : List ℕ) (at : ℕ) {s₁ : List ℕ} {r : ℕ} {t u : Step} → t ≡ u → Written s₁ r s at u → Written s₁ r s at t
wrote s at {s₁} {r} e w = subst (λ (d : Step). Written s₁ r s at d) (sym e) w

-- A step 06: its bytes with NC, then C.
pub wrote_entry : (s : List ℕ) (at j r : ℕ) (nc c : Set) {s₁ s₂ : List ℕ} {k past : ℕ} → at ≤ length s
    → (k ≡ at + (3 + set_bytes)) × (s₁ ≡ splice s at ((6 ∷ j ∷ r ∷ []) ++ set_operand nc)) → (past ≡ k + set_bytes) × (s₂ ≡ splice s₁ k (set_operand c))
    → Written s₂ past s at (FalseEntry j r nc c)
wrote_entry s at j r nc c l v w =
    let n = length-bytes 8 nc.bits in
    (omega (arith, v.0, w.0), join s at ((6 ∷ j ∷ r ∷ []) ++ set_operand nc) (set_operand c) l v.1 (omega (arith, n, v.0)) w.1)
