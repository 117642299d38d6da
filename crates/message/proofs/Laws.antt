-- How a message is told by its bytes, and what writing its parts one after another gives.
-- Assumes nothing.
use mathlib.Core.Path.{◌≡◌, refl, sym, ◌∙◌}
use mathlib.Core.Bool.{true, false, cond, ◌&&◌, ◌||◌}
use mathlib.Core.List.{List, ◌++◌}
use Prim.Native.Nat.{ℕ, ◌≤◌}
use native.Mathlib.Omega.{arith}
use lib.Dec.{eqb}
use lib.ListN.{length}
use borrow.Author.Tests.{eq-eqb, ne_eqb, eqb-true}
use Rattle.theory.specs.Counting.{left}
use Rattle.wire.specs.Wire.{bytes, read_le, splice}
use Rattle.wire.proofs.Laws.{next}
use Rattle.sets.specs.declared.Set.{Set}
use Rattle.sets.specs.Sets.{set_bytes, write_set}
use Rattle.message.specs.declared.Kind.{Kind}
use Rattle.message.specs.declared.Kind.TheVariants.{Acknowledgment, Check}
use Rattle.message.specs.Messages.{round_offset, set_offset, message_size, kind_number, kind_from, is_message, message_bytes}

-- ---- the form

module _ (b : List ℕ) where
  pub other_length : (length b ≡ message_size → ⊥) → false ≡ is_message b
  unfolding is_message
  other_length h = λ i. sym (ne_eqb (length b) message_size h) i && (eqb (read_le 1 b 0) (kind_number Acknowledgment) || eqb (read_le 1 b 0) (kind_number Check))

  pub by_kind : {k : ℕ} → length b ≡ message_size → k ≡ read_le 1 b 0 → (eqb k (kind_number Acknowledgment) || eqb k (kind_number Check)) ≡ is_message b
  unfolding is_message
  by_kind {k} h e =
      (λ i. eqb (e i) (kind_number Acknowledgment) || eqb (e i) (kind_number Check))
      ∙ (λ i. sym (eq-eqb (length b) message_size h) i && (eqb (read_le 1 b 0) (kind_number Acknowledgment) || eqb (read_le 1 b 0) (kind_number Check)))

  pub message_length : is_message b ≡ true → length b ≡ message_size
  unfolding is_message
  message_length h = eqb-true (length b) message_size (left (eqb (length b) message_size) (eqb (read_le 1 b 0) (kind_number Acknowledgment) || eqb (read_le 1 b 0) (kind_number Check)) h)

-- ---- the kinds

pub is_first : (k : ℕ) → k ≡ kind_number Acknowledgment → Acknowledgment ≡ kind_from k
is_first k e = λ i. cond (sym (eq-eqb k (kind_number Acknowledgment) e) i) Acknowledgment Check

pub is_other : (k : ℕ) → (k ≡ kind_number Acknowledgment → ⊥) → Check ≡ kind_from k
is_other k e = λ i. cond (sym (ne_eqb k (kind_number Acknowledgment) e) i) Acknowledgment Check

-- ---- what is written

pub message_written : (o : List ℕ) (kind : Kind) (round : ℕ) (x : Set) {k : ℕ} {l₁ l₂ l₃ : List ℕ} → message_size ≤ length o → k ≡ kind_number kind
    → l₁ ≡ splice o 0 (bytes 1 k) → l₂ ≡ splice l₁ round_offset (bytes 1 round) → l₃ ≡ write_set l₂ set_offset x
    → l₃ ≡ splice o 0 (message_bytes (record { kind = kind; round = round; set = x }))
unfolding bytes write_set message_bytes
message_written o kind round x {k} room ek e₁ e₂ e₃ =
    next o 0 (bytes 1 k ++ bytes 1 round) (bytes set_bytes x.bits) set_offset refl (omega arith) (next o 0 (bytes 1 k) (bytes 1 round) round_offset refl (omega arith) e₁ e₂) e₃
    ∙ (λ i. splice o 0 ((bytes 1 (ek i) ++ bytes 1 round) ++ bytes set_bytes x.bits))
