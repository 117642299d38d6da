-- Messages and their bytes give each other back: what one site's turn writes is what another site takes.
-- Assumes nothing.
use mathlib.Core.Path.{◌≡◌, refl, sym, ap, ◌∙◌}
use mathlib.Core.Bool.{true, ◌||◌}
use mathlib.Core.List.{List, ◌++◌}
use mathlib.Core.Logic.{⊎_elim}
use Prim.Native.Nat.{ℕ, ◌^◌, ◌<◌}
use native.Mathlib.Omega.{arith}
use lib.Dec.{eqb}
use lib.ListN.{length, take, drop}
use lib.Seq.{take-add, take_all}
use borrow.Author.Tests.{eqb-true}
use Rattle.theory.specs.Counting.{right, either}
use Rattle.wire.specs.Wire.{value, bytes, read_le}
use Rattle.wire.proofs.Laws.{value-bytes, read-bytes}
use Rattle.wire.proofs.Small.{Small}
use Rattle.sets.specs.Sets.{read_set}
use Rattle.sets.proofs.Laws.{same_word}
use Rattle.message.specs.declared.Kind.{Kind}
use Rattle.message.specs.declared.Kind.TheVariants.{Acknowledgment, Check}
use Rattle.message.specs.declared.Message.{Message}
use Rattle.message.specs.Messages.{message_size, kind_number, kind_from, is_message, message_of, message_bytes}
use Rattle.message.proofs.Laws.{message_length}

kind_back : (k : Kind) → kind_from (value (bytes 1 (kind_number k))) ≡ k
unfolding bytes value
kind_back Acknowledgment = refl
kind_back Check = refl

-- The bytes of a message are one,
pub bytes_message : (m : Message) → is_message (message_bytes m) ≡ true
unfolding is_message message_bytes bytes read_le value
bytes_message m = go m.kind
  where
    go : (k : Kind) → (eqb (value (bytes 1 (kind_number k))) (kind_number Acknowledgment) || eqb (value (bytes 1 (kind_number k))) (kind_number Check)) ≡ true
    go Acknowledgment = refl
    go Check = refl

-- and it is read back,
pub message_back : (m : Message) → m.round < 2 ^ 8 → m.set.bits < 2 ^ 64 → message_of (message_bytes m) ≡ m
unfolding message_bytes bytes read_le read_set value
message_back m hr hs =
    λ i. record { kind = kind_back m.kind i; round = value-bytes 1 m.round hr i; set = same_word (value-bytes 8 m.set.bits hs) i }

-- and so are the bytes.
pub bytes_back : (b : List ℕ) → Small b → is_message b ≡ true → message_bytes (message_of b) ≡ b
unfolding is_message message_bytes read_set
bytes_back b small h =
    let e = message_length b h in
    (λ i. (bytes 1 (number i) ++ bytes 1 (read_le 1 b 1)) ++ bytes 8 (read_le 8 b 2))
    ∙ (λ i. (read-bytes b small 1 0 (omega arith) i ++ read-bytes b small 1 1 (omega arith) i) ++ read-bytes b small 8 2 (omega arith) i)
    ∙ (λ i. sym (take-add 1 1 b) i ++ take 8 (drop 2 b))
    ∙ sym (take-add 2 8 b)
    ∙ take_all message_size b (omega arith)
  where
    one_of : (k : ℕ) → (eqb k (kind_number Acknowledgment) || eqb k (kind_number Check)) ≡ true → kind_number (kind_from k) ≡ k
    one_of k e =
        ⊎_elim (λ x. let q = eqb-true k (kind_number Acknowledgment) x in ap (λ (n : ℕ). kind_number (kind_from n)) q ∙ sym q)
        (λ x. let q = eqb-true k (kind_number Check) x in ap (λ (n : ℕ). kind_number (kind_from n)) q ∙ sym q)
        (either (eqb k (kind_number Acknowledgment)) (eqb k (kind_number Check)) e)

    number : kind_number (kind_from (read_le 1 b 0)) ≡ read_le 1 b 0
    number = one_of (read_le 1 b 0) (right (eqb (length b) message_size) (eqb (read_le 1 b 0) (kind_number Acknowledgment) || eqb (read_le 1 b 0) (kind_number Check)) h)
