-- Laws of the register in lent bytes: what stands there after a bike is written, and that bytes and register give each other back.
-- Assumes nothing.
use mathlib.Core.Bool.{Bool, true, false}
use mathlib.Core.Logic.{◌⊎◌, inl, inr}
use mathlib.Core.Path.{◌≡◌, refl, sym, ap, subst, ◌∙◌}
use mathlib.Core.List.{List, ◌++◌, append-nil}
use Prim.Native.Nat.{ℕ, zero, suc, ◌+◌, ◌*◌, ◌^◌, ◌≤◌, ◌<◌}
use native.Mathlib.Decide.{dec_lt}
use native.Mathlib.Omega.{arith}
use borrow.Author.Tests.{ltb-true, ltb-false, lt-ltb, le-ltb, eqb-true, eqb-false, eq-eqb, ne_eqb}
use lib.Dec.{leb, ltb, eqb, lit<, lit≤}
use lib.IntN.{ℤ}
use lib.ListN.{length, take, drop, get_or, length-append, take-append-drop}
use lib.Seq.{drop-drop, take-add}
use Rattle.theory.specs.Sets.{pick, all}
use Rattle.theory.specs.Counting.{last_or_below, all_ext}
use Rattle.wire.specs.Wire.{bytes, read_le, splice}
use Rattle.wire.proofs.Laws.{length-bytes, length-splice, read_same, read-before, read-after, read_lt, splice_two, part_before, drop-after, read-bytes}
use Rattle.register.specs.declared.Bike.{Bike}
use Rattle.register.specs.declared.Command.{Command}
use Rattle.register.specs.declared.Command.TheVariants.{Add, Fit, Read, Trim}
use Rattle.register.specs.Register.{bikes, max_reading, bike, Register, bike_of, change, reply, execute, initial, Within, is_within, Valid}
use Rattle.register.proofs.Laws.{test_within}
use Rattle.register.specs.Lent.{bike_size, register_size, bike_in, bike_bytes, register_of, bikes_bytes, register_bytes, dash_of, Sized, Executed}

pub length-bike : (e : Bike) → length (bike_bytes e) ≡ bike_size
length-bike e = simp (length-append, length-bytes)

-- A bike is written in two halves.
pub bike-put : (b : List ℕ) (place : ℕ) (e : Bike) → place ≤ length b → splice (splice b place (bytes 4 e.reading)) (place + 4) (bytes 4 e.dash) ≡ splice b place (bike_bytes e)
bike-put b place e h =
    ap (λ (n : ℕ). splice (splice b place (bytes 4 e.reading)) (place + n) (bytes 4 e.dash)) (sym (length-bytes 4 e.reading))
    ∙ splice_two b place (bytes 4 e.reading) (bytes 4 e.dash) h

pub bike-written : (b : List ℕ) (place : ℕ) (e : Bike) {l l' : List ℕ} → place ≤ length b → l ≡ splice b place (bytes 4 e.reading) → l' ≡ splice l (place + 4) (bytes 4 e.dash) → l' ≡ splice b place (bike_bytes e)
bike-written b place e h p q =
    q ∙ ap (λ (s : List ℕ). splice s (place + 4) (bytes 4 e.dash)) p ∙ bike-put b place e h

-- The two numbers that stand at a bike's place are the bike.
pub bike-read : (b : List ℕ) (at k : ℕ) {x y : ℕ} → k < bikes → x ≡ read_le 4 b (at + bike_size * k) → y ≡ read_le 4 b (at + bike_size * k + 4) → bike x y ≡ register_of b at k
bike-read b at k h p q =
    (λ i. bike (p i) (q i)) ∙ ap (λ (t : Bool). pick t (bike_in b (at + bike_size * k)) (bike 0 0)) (sym (lt-ltb k bikes h))

-- A written bike is read back, and the others are as they were.
pub bike-here : (b : List ℕ) (place : ℕ) (e : Bike) → place + bike_size ≤ length b → e.reading < 2 ^ 32 → e.dash < 2 ^ 32 → bike_in (splice b place (bike_bytes e)) place ≡ e
bike-here b place e h p q =
    let l = length-bytes 4 e.reading in
    let g = length-splice b place (bytes 4 e.reading) (omega arith) in
    ap (λ (s : List ℕ). bike_in s place) (sym (bike-put b place e (omega arith)))
    ∙ (λ i.
    bike
    ((read-before 4 (splice b place (bytes 4 e.reading)) (place + 4) (bytes 4 e.dash) place (omega arith) (omega arith) ∙ read_same 4 b place e.reading (omega arith) p) i)
    (read_same 4 (splice b place (bytes 4 e.reading)) (place + 4) e.dash (omega arith) q i))

pub bike-before : (b : List ℕ) (place : ℕ) (bs : List ℕ) (k : ℕ) → place ≤ length b → k + bike_size ≤ place → bike_in (splice b place bs) k ≡ bike_in b k
bike-before b place bs k h l =
    λ i. bike (read-before 4 b place bs k h (omega arith) i) (read-before 4 b place bs (k + 4) h (omega arith) i)

pub bike-after : (b : List ℕ) (place : ℕ) (bs : List ℕ) (k : ℕ) → place + length bs ≤ length b → place + length bs ≤ k → bike_in (splice b place bs) k ≡ bike_in b k
bike-after b place bs k h l =
    λ i. bike (read-after 4 b place bs k l h i) (read-after 4 b place bs (k + 4) (omega arith) h i)

-- The register in which one bike is another.
abbrev pub with : Register → ℕ → Bike → Register
with r k e j = pick (eqb j k) e (r j)

-- The register after one bike was written.
module _ (b : List ℕ) (at k : ℕ) (e : Bike) (room : at + register_size ≤ length b) (is : k < bikes) (p : e.reading < 2 ^ 32) (q : e.dash < 2 ^ 32) where
  other : (j : ℕ) → (j ≡ k → ⊥) → bike_in (splice b (at + bike_size * k) (bike_bytes e)) (at + bike_size * j) ≡ bike_in b (at + bike_size * j)
  other j n =
      let l = length-bike e in
      elim (dec_lt j k) [
        | yes h ↦ bike-before b (at + bike_size * k) (bike_bytes e) (at + bike_size * j) (omega arith) (omega arith)
        | no h ↦ bike-after b (at + bike_size * k) (bike_bytes e) (at + bike_size * j) (omega arith) (omega arith)
      ]

  at_one : (j : ℕ) (x y : Bool) → ltb j bikes ≡ x → eqb j k ≡ y → pick x (bike_in (splice b (at + bike_size * k) (bike_bytes e)) (at + bike_size * j)) (bike 0 0) ≡ pick y e (pick x (bike_in b (at + bike_size * j)) (bike 0 0))
  at_one j true true s t =
      ap (λ (m : ℕ). bike_in (splice b (at + bike_size * k) (bike_bytes e)) (at + bike_size * m)) (eqb-true j k t)
      ∙ bike-here b (at + bike_size * k) e (omega arith) p q
  at_one j true false s t = other j (eqb-false j k t)
  at_one j false true s t = let u = ltb-false j bikes s in let v = eqb-true j k t in absurd (omega arith)
  at_one j false false s t = refl

  pub put_view : register_of (splice b (at + bike_size * k) (bike_bytes e)) at ≡ with (register_of b at) k e
  put_view = λ i j. at_one j (ltb j bikes) (eqb j k) refl refl i

-- Executing is writing the changed bike.
with_changed : (c : Command) (r : Register) (k : ℕ) (e : Bike) → k ≡ bike_of c → e ≡ change c (r k) → (j : ℕ) → with r k e j ≡ execute c r j
with_changed c r k e p h j = by_test (eqb j k) refl ∙ ap (λ (m : ℕ). pick (eqb j m) (change c (r j)) (r j)) p
  where
    by_test : (t : Bool) → eqb j k ≡ t → pick t e (r j) ≡ pick t (change c (r j)) (r j)
    by_test true u = h ∙ ap (λ (m : ℕ). change c (r m)) (sym (eqb-true j k u))
    by_test false u = refl

-- What the code of execute does, in one step.
pub executed : (c : Command) (at : ℕ) (b : List ℕ) {b' : List ℕ} {k : ℕ} {e e' : Bike} {r : ℤ} → at + register_size ≤ length b → k < bikes → k ≡ bike_of c → e ≡ register_of b at k → r ≡ reply c e → e' ≡ change c e → e'.reading < 2 ^ 32 → e'.dash < 2 ^ 32 → b' ≡ splice b (at + bike_size * k) (bike_bytes e') → Executed c at b b' r
executed c at b {b'} {k} {e} {e'} {r} room is ek ee er ec p q eb =
    let written : register_of b' at ≡ with (register_of b at) k e' = ap (λ (s : List ℕ). register_of s at) eb ∙ put_view b at k e' room is p q in
    let here : register_of b' at k ≡ e' = ap (λ (s : Register). s k) written ∙ ap (λ (t : Bool). pick t e' (register_of b at k)) (eq-eqb k k refl) in
    record {
      answer = er ∙ ap (reply c) (ee ∙ ap (register_of b at) ek);
      register = written ∙ (λ i j. with_changed c (register_of b at) k e' ek (ec ∙ ap (change c) ee) j i);
      elsewhere =
          eb
          ∙ ap (λ (x : Bike). splice b (at + bike_size * k) (bike_bytes x)) (sym here)
          ∙ ap (λ (m : ℕ). splice b (at + bike_size * m) (bike_bytes (register_of b' at m))) ek;
    }

-- A register as bytes has 8 bytes for each bike.
pub length-bikes : (n : ℕ) (r : Register) → length (bikes_bytes n r) ≡ bike_size * n
unfolding bikes_bytes
length-bikes zero r = refl
length-bikes (suc n) r =
    let l = length-bikes n r in
    length-append (bikes_bytes n r) (bike_bytes (r n)) ∙ ap (λ (m : ℕ). length (bikes_bytes n r) + m) (length-bike (r n)) ∙ (omega arith)

pub length_register : (r : Register) → length (register_bytes r) ≡ register_size
length_register r = length-bikes bikes r

-- No bike, and one bike more.
pub bikes-none : (b : List ℕ) (at : ℕ) (r : Register) → b ≡ splice b at (bikes_bytes 0 r)
unfolding bikes_bytes splice
bikes-none b at r =
    let e : at + 0 ≡ at = omega arith in
    sym (rw (append-nil, e) (take-append-drop at b))

pub bikes-more : (b : List ℕ) (at n : ℕ) (r : Register) → at ≤ length b → splice (splice b at (bikes_bytes n r)) (at + bike_size * n) (bike_bytes (r n)) ≡ splice b at (bikes_bytes (suc n) r)
unfolding bikes_bytes
bikes-more b at n r h =
    ap (λ (m : ℕ). splice (splice b at (bikes_bytes n r)) (at + m) (bike_bytes (r n))) (sym (length-bikes n r))
    ∙ splice_two b at (bikes_bytes n r) (bike_bytes (r n)) h

-- The first n bikes of what was written.
pub bikes-view : (n : ℕ) (r : Register) (b : List ℕ) (at : ℕ) → at + bike_size * n ≤ length b → ((k : ℕ) → ((r k).reading < 2 ^ 32) × ((r k).dash < 2 ^ 32)) → (k : ℕ) → k < n → bike_in (splice b at (bikes_bytes n r)) (at + bike_size * k) ≡ r k
bikes-view zero r b at h s k l = absurd (omega arith)
bikes-view (suc n) r b at h s k l =
    ap (λ (t : List ℕ). bike_in t (at + bike_size * k)) (sym (bikes-more b at n r (omega arith)))
    ∙ go (λ m. bikes-view n r b at (omega arith) s k m) (last_or_below k n l)
  where
    long : length (splice b at (bikes_bytes n r)) ≡ length b
    long = let m = length-bikes n r in length-splice b at (bikes_bytes n r) (omega arith)

    go : (k < n → bike_in (splice b at (bikes_bytes n r)) (at + bike_size * k) ≡ r k) → (k ≡ n) ⊎ (k < n) → bike_in (splice (splice b at (bikes_bytes n r)) (at + bike_size * n) (bike_bytes (r n))) (at + bike_size * k) ≡ r k
    go f (inl e) =
        ap (λ (m : ℕ). bike_in (splice (splice b at (bikes_bytes n r)) (at + bike_size * n) (bike_bytes (r n))) (at + bike_size * m)) e
        ∙ bike-here (splice b at (bikes_bytes n r)) (at + bike_size * n) (r n) (let z = long in omega arith) (s n).0 (s n).1
        ∙ ap r (sym e)
    go f (inr m) =
        bike-before (splice b at (bikes_bytes n r)) (at + bike_size * n) (bike_bytes (r n)) (at + bike_size * k) (let z = long in omega arith) (omega arith)
        ∙ f m

-- Every bike of a register that bytes can hold, and that is in range, is below 2 ^ 32 in both its numbers.
small : (r : Register) → Within r → Sized r → (k : ℕ) → ((r k).reading < 2 ^ 32) × ((r k).dash < 2 ^ 32)
small r w s k = let h = w.reading k in (omega arith, s.dash k)

-- View of encode: a register in range is read back as written.
pub register_view : (r : Register) (b : List ℕ) (at : ℕ) → at + register_size ≤ length b → Within r → Sized r → register_of (splice b at (register_bytes r)) at ≡ r
register_view r b at h w s = λ i k. by_test k (ltb k bikes) refl i
  where
    by_test : (k : ℕ) (t : Bool) → ltb k bikes ≡ t → pick t (bike_in (splice b at (register_bytes r)) (at + bike_size * k)) (bike 0 0) ≡ r k
    by_test k true e = bikes-view bikes r b at h (small r w s) k (ltb-true k bikes e)
    by_test k false e = sym (s.beyond k (ltb-false k bikes e))

bike-bytes : (b : List ℕ) → ((i : ℕ) → get_or b i 0 < 256) → (place : ℕ) → place + bike_size ≤ length b → bike_bytes (bike_in b place) ≡ take bike_size (drop place b)
bike-bytes b g place h =
    (λ i. read-bytes b g 4 place (omega arith) i ++ read-bytes b g 4 (place + 4) (omega arith) i)
    ∙ ap (λ (l : List ℕ). take 4 (drop place b) ++ take 4 l) (sym (drop-drop 4 place b))
    ∙ sym (take-add 4 4 (drop place b))

bikes-bytes : (b : List ℕ) → ((i : ℕ) → get_or b i 0 < 256) → (at n : ℕ) → n ≤ bikes → at + bike_size * n ≤ length b → bikes_bytes n (register_of b at) ≡ take (bike_size * n) (drop at b)
unfolding bikes_bytes
bikes-bytes b g at zero l h = refl
bikes-bytes b g at (suc n) l h =
    let e : bike_size * suc n ≡ bike_size * n + bike_size = omega arith in
    (λ i. bikes-bytes b g at n (omega arith) (omega arith) i ++ bike_bytes (here i))
    ∙ ap (λ (x : List ℕ). take (bike_size * n) (drop at b) ++ x)
    (bike-bytes b g (at + bike_size * n) (omega arith) ∙ ap (take bike_size) (sym (drop-drop (bike_size * n) at b)))
    ∙ sym (take-add (bike_size * n) bike_size (drop at b))
    ∙ ap (λ (m : ℕ). take m (drop at b)) (sym e)
  where
    here : register_of b at n ≡ bike_in b (at + bike_size * n)
    here = ap (λ (t : Bool). pick t (bike_in b (at + bike_size * n)) (bike 0 0)) (lt-ltb n bikes (omega arith))

-- Encode of view: the bytes of a lent register are those of the register that they are seen as.
pub register_bytes_lem : (b : List ℕ) → ((i : ℕ) → get_or b i 0 < 256) → (at : ℕ) → at + register_size ≤ length b → register_bytes (register_of b at) ≡ take register_size (drop at b)
register_bytes_lem b g at h = bikes-bytes b g at bikes (lit≤ tt) h

-- Writing what is seen changes nothing.
pub register_same : (b : List ℕ) → ((i : ℕ) → get_or b i 0 < 256) → (at : ℕ) → at + register_size ≤ length b → splice b at (register_bytes (register_of b at)) ≡ b
unfolding splice
register_same b g at h =
    rw (length_register (register_of b at), register_bytes_lem b g at h, ← take-add at register_size b) (take-append-drop (at + register_size) b)

-- What was written inside a part does not matter once the whole part is written.
splice_over : (b : List ℕ) (at place : ℕ) (bs cs : List ℕ) → at ≤ place → place + length bs ≤ at + length cs → at + length cs ≤ length b → splice (splice b place bs) at cs ≡ splice b at cs
unfolding splice
splice_over b at place bs cs h l m =
    λ i. part_before b place bs at 0 (omega arith) (omega arith) i ++ cs ++ drop-after b place bs (at + length cs) (omega arith) (omega arith) i

-- The bytes after a command: those of the register that the definition gives, and else as they were.
pub executed_bytes : (c : Command) (at : ℕ) (b b' : List ℕ) {r : ℤ} → ((i : ℕ) → get_or b' i 0 < 256) → at + register_size ≤ length b → length b' ≡ length b → Valid c → Executed c at b b' r → b' ≡ splice b at (register_bytes (execute c (register_of b at)))
executed_bytes c at b b' g h l v x =
    let n = v.bike in
    let p = length-bike (register_of b' at (bike_of c)) in
    let q = length_register (register_of b' at) in
    sym (register_same b' g at (omega arith))
    ∙ ap (λ (s : List ℕ). splice s at (register_bytes (register_of b' at))) x.elsewhere
    ∙ splice_over b at (at + bike_size * bike_of c) (bike_bytes (register_of b' at (bike_of c))) (register_bytes (register_of b' at)) (omega arith) (omega arith) (omega arith)
    ∙ ap (λ (s : Register). splice b at (register_bytes s)) x.register

change-dash : (c : Command) (e : Bike) → dash_of c < 2 ^ 32 → e.dash < 2 ^ 32 → (change c e).dash < 2 ^ 32
change-dash (Add b km) e d h = h
change-dash (Fit b dash start) e d h = d
change-dash (Read b) e d h = h
change-dash (Trim b km) e d h = h

-- A lent register is one that bytes can hold, and commands keep it so.
pub view_sized : (b : List ℕ) → ((i : ℕ) → get_or b i 0 < 256) → (at : ℕ) → at + register_size ≤ length b → Sized (register_of b at)
view_sized b g at h =
    record {
      dash = λ k. in_test k (ltb k bikes) refl;
      beyond = λ k l. ap (λ (t : Bool). pick t (bike_in b (at + bike_size * k)) (bike 0 0)) (le-ltb k bikes l);
    }
  where
    in_test : (k : ℕ) (t : Bool) → ltb k bikes ≡ t → (pick t (bike_in b (at + bike_size * k)) (bike 0 0)).dash < 2 ^ 32
    in_test k true e = let l = ltb-true k bikes e in read_lt b g 4 (at + bike_size * k + 4) (omega arith)
    in_test k false e = lit< tt

pub initial_sized : Sized initial
initial_sized = record { dash = λ k. lit< tt; beyond = λ k l. refl }

pub execute_sized : (c : Command) (r : Register) → Valid c → dash_of c < 2 ^ 32 → Sized r → Sized (execute c r)
execute_sized c r v d s = record { dash = λ k. by_test k (eqb k (bike_of c)); beyond = λ k l. outside k l }
  where
    by_test : (k : ℕ) (t : Bool) → (pick t (change c (r k)) (r k)).dash < 2 ^ 32
    by_test k true = change-dash c (r k) d (s.dash k)
    by_test k false = s.dash k

    outside : (k : ℕ) → bikes ≤ k → execute c r k ≡ bike 0 0
    outside k l =
        let n = v.bike in
        ap (λ (t : Bool). pick t (change c (r k)) (r k)) (ne_eqb k (bike_of c) (λ e. absurd (omega arith))) ∙ s.beyond k l

-- The test of a lent register's readings.
pub view-within : (b : List ℕ) (at : ℕ) → is_within (register_of b at) ≡ true → Within (register_of b at)
view-within b at h = record { reading = λ k. in_test k (ltb k bikes) refl }
  where
    in_test : (k : ℕ) (t : Bool) → ltb k bikes ≡ t → (register_of b at k).reading ≤ max_reading
    in_test k true e = test_within (register_of b at) h k (ltb-true k bikes e)
    in_test k false e = subst (λ (t : Bool). (pick t (bike_in b (at + bike_size * k)) (bike 0 0)).reading ≤ max_reading) (sym e) (lit≤ tt)

-- The readings are in range where each of them is, tested where it stands.
pub within_read : (b : List ℕ) (at : ℕ) → all bikes (λ k. leb (read_le 4 b (at + bike_size * k)) max_reading) ≡ is_within (register_of b at)
within_read b at =
    all_ext bikes _ _ (λ k h. ap (λ (e : Bike). leb e.reading max_reading) (bike-read b at k {y = read_le 4 b (at + bike_size * k + 4)} h refl refl))
