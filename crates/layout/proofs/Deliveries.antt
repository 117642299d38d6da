-- Laws of the recorded deliveries: one more, their number, and the bytes of the whole table.
-- Assumes nothing.
use mathlib.Core.Path.{◌≡◌, refl, sym, ap, ◌∙◌}
use mathlib.Core.List.{List, [], ◌∷◌, ◌++◌, append-nil, append_assoc}
use Prim.Native.Nat.{ℕ, zero, suc, ◌+◌, ◌*◌, ◌≤◌, ◌<◌}
use native.Mathlib.Omega.{arith}
use lib.IntN.{ℤ}
use lib.ListN.{length, take, drop, get_or, replicate, length-append}
use lib.Seq.{drop-drop, take-add}
use mir.Syntax.{w32}
use mir.Val.{SFits}
use Rattle.theory.specs.Machine.{Delivery}
use Rattle.wire.specs.Wire.{bytes, read_le, splice}
use Rattle.wire.proofs.Laws.{length-bytes, peel, read_same, read-before, length-splice, read-bytes, next}
use Rattle.signed.specs.Signed.{signed32, word32}
use Rattle.signed.proofs.Laws.{signed_word, read_signed, bytes_signed}
use Rattle.sets.specs.Sets.{capacity}
use Rattle.layout.specs.Layout.{site_size, deliveries_place, heard_place, delivery_size, slot, delivery_of, deliveries_of, delivery_bytes, deliveries_bytes}
use Rattle.wire.proofs.Agree.{agree_before}
use Rattle.layout.proofs.Agree.{deliveries_agree}

-- What the code of record_delivery does, in one step.
pub delivery_written : (b : List ℕ) (at m : ℕ) (z : ℤ) {l l' : List ℕ} → at ≤ length b → SFits w32 z
    → l ≡ splice b at (bytes 1 m)
    → l' ≡ splice l (at + 1) (bytes 4 (word32 (signed32 (word32 z)))) → l' ≡ splice b at (delivery_bytes m z)
unfolding bytes
delivery_written b at m z {l = l} h f p q =
    next b at (bytes 1 m) (bytes 4 (word32 z)) (at + 1) refl h p
    (q ∙ ap (λ (x : ℤ). splice l (at + 1) (bytes 4 (word32 x))) (signed_word f))

pub length_delivery : (m : ℕ) (z : ℤ) → length (delivery_bytes m z) ≡ delivery_size
unfolding bytes
length_delivery m z = refl

-- A delivery that was written is read back.
pub delivery_back : (b : List ℕ) (k m : ℕ) (z : ℤ) → slot k + delivery_size ≤ length b → m < 256 → SFits w32 z
    → delivery_of (splice b (slot k) (delivery_bytes m z)) k ≡ record { command = m; answer = z }
delivery_back b k m z h l f =
    let q = length-bytes 1 m in
    let s : length (splice b (slot k) (bytes 1 m)) ≡ length b = length-splice b (slot k) (bytes 1 m) (omega arith) in
    let e : splice b (slot k) (delivery_bytes m z) ≡ splice (splice b (slot k) (bytes 1 m)) (slot k + 1) (bytes 4 (word32 z)) =
    sym (two b (slot k) m z (omega arith)) in
    λ i.
    record {
      command =
          (ap (λ (x : List ℕ). read_le 1 x (slot k)) e
          ∙ read-before 1 (splice b (slot k) (bytes 1 m)) (slot k + 1) (bytes 4 (word32 z)) (slot k) (omega arith) (omega arith)
          ∙ read_same 1 b (slot k) m (omega arith) l) i;
      answer =
          (ap (λ (x : List ℕ). signed32 (read_le 4 x (slot k + 1))) e
          ∙ read_signed w32 4 (splice b (slot k) (bytes 1 m)) (slot k + 1) (omega arith) (omega arith) f) i;
    }
  where
    two : (b : List ℕ) (at m : ℕ) (z : ℤ) → at ≤ length b → splice (splice b at (bytes 1 m)) (at + 1) (bytes 4 (word32 z)) ≡ splice b at (delivery_bytes m z)
    two b at m z h = next b at (bytes 1 m) (bytes 4 (word32 z)) (at + 1) (ap (λ (n : ℕ). at + n) (length-bytes 1 m)) h refl refl

-- One more delivery is recorded.
pub deliveries_more : (b : List ℕ) (k m : ℕ) (z : ℤ) → length b ≡ site_size → k < capacity → m < 256 → SFits w32 z
    → deliveries_of (suc k) (splice b (slot k) (delivery_bytes m z)) ≡ deliveries_of k b ++ (record { command = m; answer = z } ∷ [])
unfolding deliveries_of
deliveries_more b k m z size l h f =
    λ i.
    deliveries_agree k (agree_before b (slot k) (delivery_bytes m z) deliveries_place (omega arith)) i
    ++ (delivery_back b k m z (omega arith) h f i ∷ [])

pub length_deliveries : (n : ℕ) (b : List ℕ) → length (deliveries_of n b) ≡ n
unfolding deliveries_of
length_deliveries zero b = refl
length_deliveries (suc n) b = let e = length_deliveries n b in length-append (deliveries_of n b) (delivery_of b n ∷ []) ∙ omega arith

-- ---- the bytes of the table

pub deliveries_append : (a b : List (Delivery ℤ)) → deliveries_bytes (a ++ b) ≡ deliveries_bytes a ++ deliveries_bytes b
deliveries_append [] b = refl
deliveries_append (d ∷ a) b =
    ap (λ (l : List ℕ). delivery_bytes d.command d.answer ++ l) (deliveries_append a b)
    ∙ sym (append_assoc (delivery_bytes d.command d.answer) (deliveries_bytes a) (deliveries_bytes b))

module _ (b : List ℕ) (small : (i : ℕ) → get_or b i 0 < 256) (size : length b ≡ site_size) where
  delivery_bytes_lem : (k : ℕ) → k < capacity → delivery_bytes (delivery_of b k).command (delivery_of b k).answer ≡ take delivery_size (drop (slot k) b)
  delivery_bytes_lem k h =
      (λ i.
      read-bytes b small 1 (slot k) (omega arith) i
      ++ (bytes_signed w32 4 b (slot k + 1) (omega arith) small (omega arith) ∙ read-bytes b small 4 (slot k + 1) (omega arith)) i)
      ∙ ap (λ (l : List ℕ). take 1 (drop (slot k) b) ++ take 4 l) (sym (drop-drop 1 (slot k) b))
      ∙ sym (take-add 1 4 (drop (slot k) b))

  pub deliveries_bytes_lem : (n : ℕ) → n ≤ capacity → deliveries_bytes (deliveries_of n b) ≡ take (delivery_size * n) (drop deliveries_place b)
  unfolding deliveries_of
  deliveries_bytes_lem zero h = refl
  deliveries_bytes_lem (suc n) h =
      let e : delivery_size * suc n ≡ delivery_size * n + delivery_size = omega arith in
      deliveries_append (deliveries_of n b) (delivery_of b n ∷ [])
      ∙ (λ i. deliveries_bytes_lem n (omega arith) i ++ append-nil (delivery_bytes (delivery_of b n).command (delivery_of b n).answer) i)
      ∙ ap (λ (l : List ℕ). take (delivery_size * n) (drop deliveries_place b) ++ l)
      (delivery_bytes_lem n (omega arith) ∙ ap (take delivery_size) (sym (drop-drop (delivery_size * n) deliveries_place b)))
      ∙ sym (take-add (delivery_size * n) delivery_size (drop deliveries_place b))
      ∙ ap (λ (m : ℕ). take m (drop deliveries_place b)) (sym e)

  -- Where nothing is recorded, 0 stands to the end of the table.
  pub rest-bytes : (left k : ℕ) → k + left ≡ capacity
      → ((i : ℕ) → k ≤ i → i < capacity → (read_le 1 b (slot i) ≡ 0) × (read_le 4 b (slot i + 1) ≡ 0)) → drop (slot k) b ≡ replicate (delivery_size * left) 0 ++ drop heard_place b
  unfolding bytes
  rest-bytes zero k e h = let q : slot k ≡ heard_place = omega arith in ap (λ (n : ℕ). drop n b) q
  rest-bytes (suc left) k e h =
      let w = h k (omega arith) (omega arith) in
      let past : slot k + 1 + 4 ≡ slot (suc k) = omega arith in
      let five : delivery_size * suc left ≡ suc (suc (suc (suc (suc (delivery_size * left))))) = omega arith in
      sym (peel b small 1 (slot k) (omega arith))
      ∙ (λ i. bytes 1 (w.0 i) ++ sym (peel b small 4 (slot k + 1) (omega arith)) i)
      ∙ (λ i. bytes 1 0 ++ (bytes 4 (w.1 i) ++ drop (past i) b))
      ∙ (λ i. bytes 1 0 ++ (bytes 4 0 ++ rest-bytes left (suc k) (omega arith) (λ j l m. h j (omega arith) m) i))
      ∙ ap (λ (n : ℕ). replicate n 0 ++ drop heard_place b) (sym five)
