-- Laws of numbers in bytes: what a read gives after a write at the same place and at others, and both ways between a number and its bytes. General in the width.
-- Assumes nothing.
use Prim.Native.Nat.{ℕ, zero, suc, ◌+◌, ◌*◌, ◌-◌, ◌/◌, ◌%◌, ◌^◌, ◌≤◌, ◌<◌}
use mathlib.Core.Path.{◌≡◌, refl, sym, ap, ◌∙◌}
use mathlib.Core.List.{List, [], ◌∷◌, ◌++◌, append_assoc, append-nil}
use native.Mathlib.Nat.{pow-suc, div-lt_iff_lt-mul, div-div-eq-div-mul, add_assoc, mul_assoc, mul_comm}
use native.Mathlib.Omega.{arith}
use lib.ListN.{length, take, drop, get_or, length-append, length-take, length-drop, take-append-drop}
use lib.Seq.{drop-cons, sets, sets-eq, drop-drop, take_at, drop_at, take-append-le, drop-append-le, length-take-le, take_all}
use borrow.Rule.Slice.PartMut.{put_mid}
use Rattle.std.specs.Int.{byte_at, byte_worth, bytes_low_first, sum_through}
use Rattle.wire.specs.Wire.{value, bytes, read_le, splice}

pub length-bytes : (n x : ℕ) → length (bytes n x) ≡ n
unfolding bytes
length-bytes zero x = refl
length-bytes (suc n) x = ap suc (length-bytes n (x / 256))

pub read-suc : (n : ℕ) (s : List ℕ) (at : ℕ) → at < length s → read_le (suc n) s at ≡ get_or s at 0 + 256 * read_le n s (suc at)
unfolding read_le value
read-suc n s at h = rw (drop-cons s at 0 h) refl

pub read_none : (s : List ℕ) (at : ℕ) → read_le 0 s at ≡ 0
unfolding read_le value
read_none s at = refl

pub read_one : (s : List ℕ) (at : ℕ) → at + 1 ≤ length s → read_le 1 s at ≡ get_or s at 0
read_one s at h = rw (read-suc 0 s at (omega arith), read_none s (suc at)) (omega arith)

pub sets-splice : (bs s : List ℕ) (at : ℕ) → at + length bs ≤ length s → sets s at bs ≡ splice s at bs
unfolding splice
sets-splice bs s at h = sets-eq bs s at h

pub length-splice : (s : List ℕ) (at : ℕ) (bs : List ℕ) → at + length bs ≤ length s → length (splice s at bs) ≡ length s
unfolding splice
length-splice s at bs h = simp (length-append, length-take, length-drop) (omega arith)

pub splice-none : (s : List ℕ) (at : ℕ) → splice s at [] ≡ s
unfolding splice
splice-none s at = let q : at + 0 ≡ at = omega arith in rw (append-nil, q) (take-append-drop at s)

pub value-bytes : (n x : ℕ) → x < 256 ^ n → value (bytes n x) ≡ x
unfolding value bytes
value-bytes zero x h = omega arith
value-bytes (suc n) x h =
    let q : x / 256 < 256 ^ n = (div-lt_iff_lt-mul {k = 256} (omega arith)).1 (rw pow-suc at h) in
    rw (value-bytes n (x / 256) q) (omega arith)

module _ (s : List ℕ) (at : ℕ) (bs : List ℕ) where
  pub part_same : at + length bs ≤ length s → take (length bs) (drop at (splice s at bs)) ≡ bs
  unfolding splice
  part_same h =
      let q : length (take at s) ≡ at = length-take-le at s (omega arith) in
      rw (append_assoc, drop_at (take at s) (bs ++ drop (at + length bs) s) at q) (take_at bs (drop (at + length bs) s) (length bs) refl)

  pub drop-after : (k : ℕ) → at + length bs ≤ k → at + length bs ≤ length s → drop k (splice s at bs) ≡ drop k s
  unfolding splice
  drop-after k h g =
      let q : length (take at s) ≡ at = length-take-le at s (omega arith) in
      let r : length (take at s ++ bs) ≡ at + length bs = length-append (take at s) bs ∙ ap (λ (n : ℕ). n + length bs) q in
      let e : at + length bs + (k - (at + length bs)) ≡ k = omega arith in
      rw (← e) (rw (← drop-drop (k - (at + length bs)) (at + length bs) s, ← drop-drop (k - (at + length bs)) (at + length bs) (take at s ++ bs ++ drop (at + length bs) s), drop_at (take at s ++ bs) (drop (at + length bs) s) (at + length bs) r) refl)

  pub part_before : (n k : ℕ) → at ≤ length s → k + n ≤ at → take n (drop k (splice s at bs)) ≡ take n (drop k s)
  unfolding splice
  part_before n k h g =
      let q : length (take at s) ≡ at = length-take-le at s (omega arith) in
      let d : length (drop k (take at s)) ≡ at - k = length-drop k (take at s) ∙ ap (λ (m : ℕ). m - k) q in
      rw (append_assoc, drop-append-le k (take at s) (bs ++ drop (at + length bs) s) (omega arith), take-append-le n (drop k (take at s)) (bs ++ drop (at + length bs) s) (omega arith))
      (sym (take-append-le n (drop k (take at s)) (drop at s) (omega arith))
      ∙ ap (take n) (sym (drop-append-le k (take at s) (drop at s) (omega arith)) ∙ ap (drop k) (take-append-drop at s)))

pub read_same : (n : ℕ) (s : List ℕ) (at x : ℕ) → at + n ≤ length s → x < 256 ^ n → read_le n (splice s at (bytes n x)) at ≡ x
unfolding read_le
read_same n s at x h g =
    let q = length-bytes n x in
    ap value (ap (λ (m : ℕ). take m (drop at (splice s at (bytes n x)))) (sym q) ∙ part_same s at (bytes n x) (rw q h)) ∙ value-bytes n x g

pub read-before : (n : ℕ) (s : List ℕ) (at : ℕ) (bs : List ℕ) (k : ℕ) → at ≤ length s → k + n ≤ at → read_le n (splice s at bs) k ≡ read_le n s k
unfolding read_le
read-before n s at bs k h g = ap value (part_before s at bs n k h g)

pub read-after : (n : ℕ) (s : List ℕ) (at : ℕ) (bs : List ℕ) (k : ℕ) → at + length bs ≤ k → at + length bs ≤ length s → read_le n (splice s at bs) k ≡ read_le n s k
unfolding read_le
read-after n s at bs k h g = ap (λ (l : List ℕ). value (take n l)) (drop-after s at bs k h g)

pub mid_splice : (a k : ℕ) (xs ys : List ℕ) → length ys ≡ k → put_mid a k xs ys ≡ splice xs a ys
unfolding splice
mid_splice a k xs ys e = rw (append_assoc, ← e, drop-drop) refl

-- Two writes side by side are one.
pub splice_two : (s : List ℕ) (at : ℕ) (a b : List ℕ) → at ≤ length s → splice (splice s at a) (at + length a) b ≡ splice s at (a ++ b)
unfolding splice
splice_two s at a b h =
    let q : length (take at s) ≡ at = length-take-le at s h in
    let r : length (take at s ++ a) ≡ at + length a = length-append (take at s) a ∙ ap (λ (n : ℕ). n + length a) q in
    let t : take (at + length a) (take at s ++ a ++ drop (at + length a) s) ≡ take at s ++ a = take_at (take at s ++ a) (drop (at + length a) s) (at + length a) r in
    let d : drop (at + length a + length b) (take at s ++ a ++ drop (at + length a) s) ≡ drop (at + length a + length b) s =
    sym (drop-drop (length b) (at + length a) (take at s ++ a ++ drop (at + length a) s))
    ∙ ap (drop (length b)) (drop_at (take at s ++ a) (drop (at + length a) s) (at + length a) r)
    ∙ drop-drop (length b) (at + length a) s in
    rw (t, d, length-append a b, add_assoc) (simp append_assoc)

-- A write right after another.
pub next : (s : List ℕ) (at : ℕ) (a b : List ℕ) (k : ℕ) {l l' : List ℕ} → at + length a ≡ k → at ≤ length s → l ≡ splice s at a → l' ≡ splice l k b
    → l' ≡ splice s at (a ++ b)
next s at a b k e h p q =
    q ∙ ap (λ (l : List ℕ). splice l k b) p ∙ ap (λ (m : ℕ). splice (splice s at a) m b) (sym e) ∙ splice_two s at a b h

-- From here on: lists of bytes, each below 256.
module _ (s : List ℕ) (small : (i : ℕ) → get_or s i 0 < 256) where
  pub read_lt : (n at : ℕ) → at + n ≤ length s → read_le n s at < 256 ^ n
  read_lt zero at h = rw (read_none s at) (omega arith)
  read_lt (suc n) at h =
      let b = small at in
      let r = read_lt n (suc at) (omega arith) in
      rw (read-suc n s at (omega arith), pow-suc) (omega arith)

  -- What was read, written in front of what stands after it, gives what was there.
  pub peel : (n at : ℕ) → at + n ≤ length s → bytes n (read_le n s at) ++ drop (at + n) s ≡ drop at s
  unfolding bytes
  peel zero at h = let q : at + 0 ≡ at = omega arith in rw q refl
  peel (suc n) at h =
      let b = small at in
      let m : (get_or s at 0 + 256 * read_le n s (suc at)) % 256 ≡ get_or s at 0 = omega arith in
      let d : (get_or s at 0 + 256 * read_le n s (suc at)) / 256 ≡ read_le n s (suc at) = omega arith in
      let k : at + suc n ≡ suc at + n = omega arith in
      rw (read-suc n s at (omega arith), m, d, k) (ap (λ (l : List ℕ). get_or s at 0 ∷ l) (peel n (suc at) (omega arith)) ∙ sym (drop-cons s at 0 (omega arith)))

  -- The bytes of what was read are what stands there.
  pub read-bytes : (n at : ℕ) → at + n ≤ length s → bytes n (read_le n s at) ≡ take n (drop at s)
  read-bytes n at h = sym (take_at (bytes n (read_le n s at)) (drop (at + n) s) n (length-bytes n (read_le n s at))) ∙ ap (take n) (peel n at h)

  -- Writing what was read changes nothing.
  pub splice_same : (n at : ℕ) → at + n ≤ length s → splice s at (bytes n (read_le n s at)) ≡ s
  unfolding splice
  splice_same n at h = rw (length-bytes n (read_le n s at), append_assoc, peel n at h) (take-append-drop at s)

-- The part from a position to the end.
pub part_all : (s : List ℕ) (at : ℕ) → take (length s - at) (drop at s) ≡ drop at s
part_all s at = take_all (length s - at) (drop at s) (omega (arith, length-drop at s))

-- ---- the bytes of a number, and the number of its bytes, as the library has them

next_power : (n x : ℕ) → 256 ^ suc n * x ≡ 256 * (256 ^ n * x)
next_power n x = rw (pow-suc, mul_comm (256 ^ n) 256) (mul_assoc 256 (256 ^ n) x)

-- What is read in two parts is one number.
pub read_parts : (n m : ℕ) (s : List ℕ) (at : ℕ) → at + n ≤ length s → read_le (n + m) s at ≡ read_le n s at + 256 ^ n * read_le m s (at + n)
read_parts zero m s at h =
    let q : at + 0 ≡ at = omega arith in
    let z : 0 + m ≡ m = omega arith in
    rw (read_none s at, q, z) (omega arith)
read_parts (suc n) m s at h =
    let q : at + suc n ≡ suc at + n = omega arith in
    let z : suc n + m ≡ suc (n + m) = omega arith in
    rw (z, read-suc (n + m) s at (omega arith), q, read-suc n s at (omega arith), next_power) (let r = read_parts n m s (suc at) (omega arith) in omega arith)

-- The lowest k bytes from byte i on are the bytes of what is left above them.
low_bytes : (i k x : ℕ) → bytes_low_first i k x ≡ bytes k (x / 256 ^ i)
unfolding bytes
low_bytes i zero x = refl
low_bytes i (suc k) x =
    let next : x / 256 ^ suc i ≡ x / 256 ^ i / 256 = ap (λ (m : ℕ). x / m) (pow-suc 256 i) ∙ sym (div-div-eq-div-mul x (256 ^ i) 256) in
    (λ j. first i j ∷ (low_bytes (suc i) k x ∙ ap (bytes k) next) j)
  where
    first : (i : ℕ) → byte_at i x ≡ x / 256 ^ i % 256
    first zero = let q : x / 256 ^ 0 ≡ x = omega arith in ap (λ (m : ℕ). m % 256) (sym q)
    first (suc i) = refl

-- A part of a list replaced by the lowest bytes of a number.
pub part_written : (n x : ℕ) (s : List ℕ) (at : ℕ) {part : List ℕ} → part ≡ bytes_low_first 0 n x → put_mid at (at + n - at) s part ≡ splice s at (bytes n x)
part_written n x s at {part} e =
    let q : x / 256 ^ 0 ≡ x = omega arith in
    let p : part ≡ bytes n x = e ∙ low_bytes 0 n x ∙ ap (bytes n) q in
    mid_splice at (at + n - at) s part (ap length p ∙ length-bytes n x ∙ omega arith) ∙ ap (splice s at) p

-- The worth of the first bytes together is what is read there.
worth_read : (k : ℕ) (s : List ℕ) → k < length s → sum_through (λ i. byte_worth i (get_or s i 0)) k ≡ read_le (suc k) s 0
worth_read zero s h = sym (read_one s 0 h)
worth_read (suc k) s h =
    let q : suc k + 1 ≡ suc (suc k) = omega arith in
    let z : 0 + suc k ≡ suc k = omega arith in
    let one = read_one s (suc k) (omega arith) in
    let parts = rw z at (read_parts (suc k) 1 s 0 (omega arith)) in
    let here : get_or s (suc k) 0 * 256 ^ suc k ≡ 256 ^ suc k * read_le 1 s (suc k) = mul_comm (get_or s (suc k) 0) (256 ^ suc k) ∙ ap (λ (m : ℕ). 256 ^ suc k * m) (sym one) in
    (λ i. worth_read k s (omega arith) i + here i) ∙ sym (ap (λ (m : ℕ). read_le m s 0) (sym q) ∙ parts)

-- A part of a list as a number.
pub part_read : (k : ℕ) (s : List ℕ) (at : ℕ) {part : List ℕ} → at + suc k ≤ length s → part ≡ take (at + suc k - at) (drop at s)
    → sum_through (λ i. byte_worth i (get_or part i 0)) k ≡ read_le (suc k) s at
unfolding read_le
part_read k s at {part} h e =
    let q : at + suc k - at ≡ suc k = omega arith in
    let p : part ≡ take (suc k) (drop at s) = e ∙ ap (λ (m : ℕ). take m (drop at s)) q in
    let l : length part ≡ suc k = ap length p ∙ length-take-le (suc k) (drop at s) (omega (arith, length-drop at s)) in
    worth_read k part (omega arith) ∙ ap value (take_all (suc k) part (omega arith) ∙ p)
