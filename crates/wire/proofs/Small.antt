-- Lists of bytes: parts of them, and what a write leaves, are bytes too; what is read where 0 was written, and a part that was cleared.
-- Rests on Laws.
use mathlib.Core.Path.{◌≡◌, sym, ap, ◌∙◌}
use mathlib.Core.List.{List, [], ◌∷◌, ◌++◌, append_assoc}
use Prim.Native.Nat.{ℕ, zero, suc, ◌+◌, ◌-◌, ◌≤◌, ◌<◌}
use native.Mathlib.Omega.{arith}
use native.Mathlib.Decide.{dec_lt}
use lib.ListN.{length, take, drop, get_or, replicate, length-take, length-drop, length-replicate, get_or-replicate, get_or-append, get_or-eq_default}
use borrow.Rule.Slice.PartMut.{put_mid}
use lib.Seq.{get_or-take, get_or-drop, get_or-append-add}
use Rattle.wire.specs.Wire.{bytes, read_le, splice}
use Rattle.wire.proofs.Laws.{read_none, read-suc, length-splice, mid_splice}

-- Every element is a byte; past the end 0 is read.
abbrev pub Small : List ℕ → Type 0
Small s = (i : ℕ) → get_or s i 0 < 256

pub append_small : (p q : List ℕ) → Small p → Small q → Small (p ++ q)
append_small [] q hp hq i = hq i
append_small (x ∷ p) q hp hq zero = hp zero
append_small (x ∷ p) q hp hq (suc i) = append_small p q (λ j. hp (suc j)) hq i

pub take_small : (n : ℕ) (s : List ℕ) → Small s → Small (take n s)
take_small n s small i =
    elim (dec_lt i n) [
      | yes l ↦ rw (get_or-take n s i 0 l) (small i)
      | no g ↦ let e = length-take n s in rw (get_or-eq_default (take n s) 0 {n = i} (omega arith)) (omega arith)
    ]

pub drop_small : (n : ℕ) (s : List ℕ) → Small s → Small (drop n s)
drop_small n s small i = rw (get_or-drop n s i 0) (small (n + i))

pub zeros_small : (n : ℕ) → Small (replicate n 0)
zeros_small zero i = omega arith
zeros_small (suc n) zero = omega arith
zeros_small (suc n) (suc i) = zeros_small n i

pub bytes_small : (n x : ℕ) → Small (bytes n x)
unfolding bytes
bytes_small zero x i = omega arith
bytes_small (suc n) x zero = omega arith
bytes_small (suc n) x (suc i) = bytes_small n _ i

pub splice_small : (s : List ℕ) (at : ℕ) (bs : List ℕ) → Small s → Small bs → Small (splice s at bs)
unfolding splice
splice_small s at bs hs hb =
    append_small (take at s ++ bs) (drop (at + length bs) s) (append_small (take at s) bs (take_small at s hs) hb) (drop_small (at + length bs) s hs)

-- A byte of what was written.
written_at : (s : List ℕ) (at : ℕ) (bs : List ℕ) (i : ℕ) → at ≤ length s → i < length bs → get_or (splice s at bs) (at + i) 0 ≡ get_or bs i 0
unfolding splice
written_at s at bs i h l =
    let e : length (take at s) ≡ at = let q = length-take at s in omega arith in
    ap (λ (x : List ℕ). get_or x (at + i) 0) (append_assoc (take at s) bs (drop (at + length bs) s))
    ∙ ap (λ (n : ℕ). get_or (take at s ++ (bs ++ drop (at + length bs) s)) (n + i) 0) (sym e)
    ∙ get_or-append-add (take at s) (bs ++ drop (at + length bs) s) i 0
    ∙ get_or-append bs (drop (at + length bs) s) 0 i l

-- A number among bytes that were made 0.
pub read_zeros : (n : ℕ) (s : List ℕ) (at m k : ℕ) → at + m ≤ length s → at ≤ k → k + n ≤ at + m → read_le n (splice s at (replicate m 0)) k ≡ 0
read_zeros zero s at m k h l g = read_none (splice s at (replicate m 0)) k
read_zeros (suc n) s at m k h l g =
    let q = length-replicate {A = ℕ} m 0 in
    let long : length (splice s at (replicate m 0)) ≡ length s = length-splice s at (replicate m 0) (omega arith) in
    let p : k ≡ at + (k - at) = omega arith in
    let z : get_or (splice s at (replicate m 0)) k 0 ≡ 0 =
    ap (λ (i : ℕ). get_or (splice s at (replicate m 0)) i 0) p ∙ written_at s at (replicate m 0) (k - at) (omega arith) (omega arith)
    ∙ get_or-replicate m (k - at) 0 0 (omega arith) in
    let r = read_zeros n s at m (suc k) h (omega arith) (omega arith) in
    read-suc n (splice s at (replicate m 0)) k (omega arith) ∙ omega arith

-- A part that was cleared.
pub part_cleared : (s : List ℕ) (at m : ℕ) {new : List ℕ} → at + m ≤ length s → new ≡ replicate (length (take m (drop at s))) 0
    → put_mid at m s new ≡ splice s at (replicate m 0)
part_cleared s at m {new} h e =
    let q : length (take m (drop at s)) ≡ m = omega (arith, length-take m (drop at s), length-drop at s) in
    let zeros : new ≡ replicate m 0 = e ∙ ap (λ (n : ℕ). replicate n 0) q in
    mid_splice at m s new (ap length zeros ∙ length-replicate {A = ℕ} m 0) ∙ ap (splice s at) zeros
