-- Entries in bytes: an entry that is written reads back, one that is read writes back the same bytes, and other entries stay.
-- Assumes nothing.
use mathlib.Core.Path.{◌≡◌, sym, ap, ◌∙◌}
use mathlib.Core.List.{List, [], ◌++◌, append_assoc, append-nil}
use mathlib.Core.Logic.{◌⊎◌, inl, inr}
use Prim.Native.Nat.{ℕ, ◌+◌, ◌*◌, ◌^◌, ◌≤◌, ◌<◌}
use native.Mathlib.Nat.{eq-or-lt_of_le}
use native.Mathlib.Omega.{arith}
use lib.ListN.{length, take, drop, get_or, length-append, length-drop, take-append-drop, drop_of_length-le}
use lib.Seq.{take_at, drop-append-le, take-append-le}
use Rattle.theory.specs.Counting.{lt_or_le}
use Rattle.wire.specs.Wire.{value, read_le, bytes, splice}
use Rattle.wire.proofs.Laws.{length-bytes, length-splice, read_same, read-before, read-after, read_lt, splice_two, peel}
use Rattle.sets.specs.declared.Set.{Set}
use Rattle.sets.specs.Sets.{read_set, write_set}
use Rattle.sets.proofs.Laws.{read-written, read_other, length_write, read_fits, same_word}
use Rattle.entries.specs.declared.Entry.{Entry}
use Rattle.entries.specs.Entries.{entry_size, read_entry, entry_of, entry_bytes, write_entry}

-- Every field has its width.
pub record Fits (e : Entry) : Type 0 where
  pub site : e.site < 256
  pub round : e.round < 256
  pub nc : e.nc.bits < 2 ^ 64
  pub c : e.c.bits < 2 ^ 64

pub same_entry : {a b : Entry} → a.site ≡ b.site → a.round ≡ b.round → a.nc ≡ b.nc → a.c ≡ b.c → a ≡ b
same_entry es er en ec = λ i. record { site = es i; round = er i; nc = en i; c = ec i }

pub length_entry : (e : Entry) → length (entry_bytes e) ≡ entry_size
unfolding entry_bytes
length_entry e =
    let s = length-bytes 1 e.site in
    let r = length-bytes 1 e.round in
    let n = length-bytes 8 e.nc.bits in
    let c = length-bytes 8 e.c.bits in
    simp length-append (omega arith)

-- The four writes of an entry, one field after another.
fields : List ℕ → ℕ → Entry → List ℕ
fields b at e = write_set (write_set (splice (splice b at (bytes 1 e.site)) (at + 1) (bytes 1 e.round)) (at + 2) e.nc) (at + 10) e.c

-- They are one.
fields_write : (b : List ℕ) (at : ℕ) (e : Entry) → at ≤ length b → fields b at e ≡ splice b at (entry_bytes e)
unfolding fields entry_bytes write_set
fields_write b at e h =
    let s = length-bytes 1 e.site in
    let r = length-bytes 1 e.round in
    let n = length-bytes 8 e.nc.bits in
    let q1 : at + length (bytes 1 e.site) ≡ at + 1 = omega arith in
    let q2 : at + length (bytes 1 e.site ++ bytes 1 e.round) ≡ at + 2 = omega (arith, length-append (bytes 1 e.site) (bytes 1 e.round)) in
    let q3 : at + length (bytes 1 e.site ++ bytes 1 e.round ++ bytes 8 e.nc.bits) ≡ at + 10 =
    omega (arith, length-append (bytes 1 e.site) (bytes 1 e.round), length-append (bytes 1 e.site ++ bytes 1 e.round) (bytes 8 e.nc.bits)) in
    let w1 : splice (splice b at (bytes 1 e.site)) (at + 1) (bytes 1 e.round) ≡ splice b at (bytes 1 e.site ++ bytes 1 e.round) =
    ap (λ (p : ℕ). splice (splice b at (bytes 1 e.site)) p (bytes 1 e.round)) (sym q1) ∙ splice_two b at (bytes 1 e.site) (bytes 1 e.round) h in
    let w2 = ap (λ (p : ℕ). splice (splice b at (bytes 1 e.site ++ bytes 1 e.round)) p (bytes 8 e.nc.bits)) (sym q2)
    ∙ splice_two b at (bytes 1 e.site ++ bytes 1 e.round) (bytes 8 e.nc.bits) h in
    let w3 = ap (λ (p : ℕ). splice (splice b at (bytes 1 e.site ++ bytes 1 e.round ++ bytes 8 e.nc.bits)) p (bytes 8 e.c.bits)) (sym q3)
    ∙ splice_two b at (bytes 1 e.site ++ bytes 1 e.round ++ bytes 8 e.nc.bits) (bytes 8 e.c.bits) h in
    ap (λ (x : List ℕ). splice (splice x (at + 2) (bytes 8 e.nc.bits)) (at + 10) (bytes 8 e.c.bits)) w1
    ∙ ap (λ (x : List ℕ). splice x (at + 10) (bytes 8 e.c.bits)) w2
    ∙ w3

-- What the code writes.
pub wrote : (b : List ℕ) (k : ℕ) (e : Entry) {b1 b2 b3 b4 : List ℕ} → k * entry_size + entry_size ≤ length b
    → b1 ≡ splice b (k * entry_size) (bytes 1 e.site) → b2 ≡ splice b1 (k * entry_size + 1) (bytes 1 e.round)
    → b3 ≡ write_set b2 (k * entry_size + 2) e.nc → b4 ≡ write_set b3 (k * entry_size + 10) e.c → b4 ≡ write_entry b k e
unfolding write_entry fields
wrote b k e h e1 e2 e3 e4 =
    e4 ∙ ap (λ (x : List ℕ). write_set x (k * entry_size + 10) e.c) (e3 ∙ ap (λ (x : List ℕ). write_set x (k * entry_size + 2) e.nc)
    (e2 ∙ ap (λ (x : List ℕ). splice x (k * entry_size + 1) (bytes 1 e.round)) e1))
    ∙ fields_write b (k * entry_size) e (omega arith)

keep : (b : List ℕ) (at : ℕ) (s : Set) (n k : ℕ) → at ≤ length b → k + n ≤ at → read_le n (write_set b at s) k ≡ read_le n b k
unfolding write_set
keep b at s n k h l = read-before n b at (bytes 8 s.bits) k h l

-- An entry that was written reads back.
pub entry_written : (b : List ℕ) (k : ℕ) (e : Entry) → k * entry_size + entry_size ≤ length b → Fits e → entry_of (write_entry b k e) k ≡ e
unfolding write_entry read_entry fields
entry_written b k e h f =
    let at = k * entry_size in
    let b1 = splice b at (bytes 1 e.site) in
    let b2 = splice b1 (at + 1) (bytes 1 e.round) in
    let b3 = write_set b2 (at + 2) e.nc in
    let s = length-bytes 1 e.site in
    let r = length-bytes 1 e.round in
    let l1 : length b1 ≡ length b = length-splice b at (bytes 1 e.site) (omega arith) in
    let l2 : length b2 ≡ length b1 = length-splice b1 (at + 1) (bytes 1 e.round) (omega arith) in
    let l3 : length b3 ≡ length b2 = length_write b2 (at + 2) e.nc (omega arith) in
    ap (λ (x : List ℕ). read_entry x at) (sym (fields_write b at e (omega arith)))
    ∙ same_entry
    (keep b3 (at + 10) e.c 1 at (omega arith) (omega arith) ∙ keep b2 (at + 2) e.nc 1 at (omega arith) (omega arith)
    ∙ read-before 1 b1 (at + 1) (bytes 1 e.round) at (omega arith) (omega arith) ∙ read_same 1 b at e.site (omega arith) f.site)
    (keep b3 (at + 10) e.c 1 (at + 1) (omega arith) (omega arith) ∙ keep b2 (at + 2) e.nc 1 (at + 1) (omega arith) (omega arith)
    ∙ read_same 1 b1 (at + 1) e.round (omega arith) f.round)
    (read_other b3 (at + 10) e.c (at + 2) (omega arith) (inl (omega arith)) ∙ read-written b2 (at + 2) e.nc (omega arith) f.nc)
    (read-written b3 (at + 10) e.c (omega arith) f.c)

-- Numbers and sets beside what was written, and in the first part of longer bytes.
read_beside : (n : ℕ) (b : List ℕ) (at : ℕ) (bs : List ℕ) (k : ℕ) → at + length bs ≤ length b → (k + n ≤ at) ⊎ (at + length bs ≤ k)
    → read_le n (splice b at bs) k ≡ read_le n b k
read_beside n b at bs k h (inl l) = read-before n b at bs k (omega arith) l
read_beside n b at bs k h (inr l) = read-after n b at bs k l h

read_first : (n : ℕ) (b more : List ℕ) (at : ℕ) → at + n ≤ length b → read_le n (b ++ more) at ≡ read_le n b at
unfolding read_le
read_first n b more at h =
    ap value (ap (take n) (drop-append-le at b more (omega arith)) ∙ take-append-le n (drop at b) more (omega (arith, length-drop at b)))

above : {j k : ℕ} → (j ≡ k → ⊥) → k ≤ j → k < j
above {j} {k} n l = go (eq-or-lt_of_le l)
  where
    go : (k ≡ j) ⊎ (k < j) → k < j
    go (inl e) = absurd (n (sym e))
    go (inr h) = h

-- The other entries stay.
pub entry_other : (b : List ℕ) (k : ℕ) (e : Entry) (j : ℕ) → k * entry_size + entry_size ≤ length b → (j ≡ k → ⊥)
    → entry_of (write_entry b k e) j ≡ entry_of b j
unfolding write_entry read_entry read_set
entry_other b k e j h n = go (length_entry e) (lt_or_le j k)
  where
    go : length (entry_bytes e) ≡ entry_size → (j < k) ⊎ (k ≤ j)
        → read_entry (splice b (k * entry_size) (entry_bytes e)) (j * entry_size) ≡ read_entry b (j * entry_size)
    go z (inl l) =
        same_entry (read_beside 1 b (k * entry_size) (entry_bytes e) (j * entry_size) (omega arith) (inl (omega arith)))
        (read_beside 1 b (k * entry_size) (entry_bytes e) (j * entry_size + 1) (omega arith) (inl (omega arith)))
        (same_word (read_beside 8 b (k * entry_size) (entry_bytes e) (j * entry_size + 2) (omega arith) (inl (omega arith))))
        (same_word (read_beside 8 b (k * entry_size) (entry_bytes e) (j * entry_size + 10) (omega arith) (inl (omega arith))))
    go z (inr l) =
        let m : k < j = above n l in
        same_entry (read_beside 1 b (k * entry_size) (entry_bytes e) (j * entry_size) (omega arith) (inr (omega arith)))
        (read_beside 1 b (k * entry_size) (entry_bytes e) (j * entry_size + 1) (omega arith) (inr (omega arith)))
        (same_word (read_beside 8 b (k * entry_size) (entry_bytes e) (j * entry_size + 2) (omega arith) (inr (omega arith))))
        (same_word (read_beside 8 b (k * entry_size) (entry_bytes e) (j * entry_size + 10) (omega arith) (inr (omega arith))))

-- The entries of longer bytes.
pub entry_first : (b more : List ℕ) (k : ℕ) → k * entry_size + entry_size ≤ length b → entry_of (b ++ more) k ≡ entry_of b k
unfolding read_entry read_set
entry_first b more k h =
    same_entry (read_first 1 b more (k * entry_size) (omega arith)) (read_first 1 b more (k * entry_size + 1) (omega arith))
    (same_word (read_first 8 b more (k * entry_size + 2) (omega arith))) (same_word (read_first 8 b more (k * entry_size + 10) (omega arith)))

-- An entry appended to bytes.
pub entry_appended : (b : List ℕ) (k : ℕ) (e : Entry) → length b ≡ k * entry_size → Fits e → entry_of (b ++ entry_bytes e) k ≡ e
unfolding write_entry splice
entry_appended b k e h f =
    let z = length_entry e in
    let l = length-append b (entry_bytes e) in
    let q : take (k * entry_size) (b ++ entry_bytes e) ≡ b = take_at b (entry_bytes e) (k * entry_size) h in
    let d : drop (k * entry_size + length (entry_bytes e)) (b ++ entry_bytes e) ≡ [] =
    drop_of_length-le (b ++ entry_bytes e) {i = k * entry_size + length (entry_bytes e)} (omega arith) in
    let w : write_entry (b ++ entry_bytes e) k e ≡ b ++ entry_bytes e =
    (λ i. q i ++ entry_bytes e ++ d i) ∙ append-nil (b ++ entry_bytes e) in
    ap (λ (x : List ℕ). entry_of x k) (sym w) ∙ entry_written (b ++ entry_bytes e) k e (omega arith) f

-- From here on: bytes, each below 256.
module _ (b : List ℕ) (small : (i : ℕ) → get_or b i 0 < 256) (k : ℕ) (h : k * entry_size + entry_size ≤ length b) where
  pub entry_fits : Fits (entry_of b k)
  unfolding read_entry
  entry_fits =
      record {
        site = read_lt b small 1 (k * entry_size) (omega arith);
        round = read_lt b small 1 (k * entry_size + 1) (omega arith);
        nc = read_fits b (k * entry_size + 2) small (omega arith);
        c = read_fits b (k * entry_size + 10) small (omega arith);
      }

  entry_peel : entry_bytes (entry_of b k) ++ drop (k * entry_size + entry_size) b ≡ drop (k * entry_size) b
  unfolding entry_bytes read_entry read_set
  entry_peel =
      let at = k * entry_size in
      let p1 : bytes 1 (read_le 1 b at) ++ drop (at + 1) b ≡ drop at b = peel b small 1 at (omega arith) in
      let q2 : at + 1 + 1 ≡ at + 2 = omega arith in
      let p2 : bytes 1 (read_le 1 b (at + 1)) ++ drop (at + 2) b ≡ drop (at + 1) b =
      ap (λ (p : ℕ). bytes 1 (read_le 1 b (at + 1)) ++ drop p b) (sym q2) ∙ peel b small 1 (at + 1) (omega arith) in
      let q3 : at + 2 + 8 ≡ at + 10 = omega arith in
      let p3 : bytes 8 (read_le 8 b (at + 2)) ++ drop (at + 10) b ≡ drop (at + 2) b =
      ap (λ (p : ℕ). bytes 8 (read_le 8 b (at + 2)) ++ drop p b) (sym q3) ∙ peel b small 8 (at + 2) (omega arith) in
      let q4 : at + 10 + 8 ≡ at + 18 = omega arith in
      let p4 : bytes 8 (read_le 8 b (at + 10)) ++ drop (at + 18) b ≡ drop (at + 10) b =
      ap (λ (p : ℕ). bytes 8 (read_le 8 b (at + 10)) ++ drop p b) (sym q4) ∙ peel b small 8 (at + 10) (omega arith) in
      simp append_assoc (rw (p4, p3, p2) p1)

  -- The bytes of an entry that was read are those that were there,
  pub entry_bytes_lem : entry_bytes (entry_of b k) ≡ take entry_size (drop (k * entry_size) b)
  entry_bytes_lem =
      sym (take_at (entry_bytes (entry_of b k)) (drop (k * entry_size + entry_size) b) entry_size (length_entry (entry_of b k)))
      ∙ ap (take entry_size) entry_peel

  -- and writing it back changes nothing.
  pub written_entry : write_entry b k (entry_of b k) ≡ b
  unfolding write_entry splice
  written_entry =
      let z = length_entry (entry_of b k) in
      ap (λ (n : ℕ). take (k * entry_size) b ++ entry_bytes (entry_of b k) ++ drop (k * entry_size + n) b) z
      ∙ append_assoc (take (k * entry_size) b) (entry_bytes (entry_of b k)) (drop (k * entry_size + entry_size) b)
      ∙ ap (λ (x : List ℕ). take (k * entry_size) b ++ x) entry_peel
      ∙ take-append-drop (k * entry_size) b
