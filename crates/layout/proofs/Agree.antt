-- What is seen of a part on which bytes agree is the same.
-- Assumes nothing.
use mathlib.Core.Path.{◌≡◌, refl, ap}
use mathlib.Core.Bool.{Bool, true, false, ◌&&◌}
use mathlib.Core.List.{List, [], ◌∷◌, ◌++◌}
use Prim.Native.Nat.{ℕ, zero, suc, ◌+◌, ◌*◌, ◌≤◌}
use native.Mathlib.Omega.{arith}
use lib.Dec.{leb, ltb}
use borrow.Author.Tests.{ltb-true, leb-true}
use Rattle.theory.specs.Sets.{pick}
use Rattle.theory.specs.Counting.{left, right, under_test}
use Rattle.wire.specs.Wire.{read_le}
use Rattle.wire.proofs.Agree.{Agree, agree_part}
use Rattle.signed.specs.Signed.{signed32}
use Rattle.sets.specs.Sets.{has}
use Rattle.table.specs.Table.{max_sites}
use Rattle.register.specs.Register.{bikes, bike}
use Rattle.register.specs.Lent.{bike_size, bike_in, register_of}
use Rattle.layout.specs.Layout.{heard_place, register_place, deliveries_place, in_table, row_at, cell, slot, heard_in, deliveries_of}

-- A place of a table of k rows.
pub cell_inside : (k j r : ℕ) → in_table k j r ≡ true → (heard_place ≤ cell j r) × (cell j r + 8 ≤ row_at k)
cell_inside k j r h =
    let hj = ltb-true j max_sites (left (ltb j max_sites) (leb 1 r && leb r k) h) in
    let h1 = leb-true 1 r (left (leb 1 r) (leb r k) (right (ltb j max_sites) (leb 1 r && leb r k) h)) in
    let hr = leb-true r k (right (leb 1 r) (leb r k) (right (ltb j max_sites) (leb 1 r && leb r k) h)) in
    (omega arith, omega arith)

pub heard_agree : (k : ℕ) {b b' : List ℕ} → Agree b b' heard_place (row_at k) → heard_in k b' ≡ heard_in k b
unfolding heard_in
heard_agree k {b} {b'} g = λ i j r m. point j r m i
  where
    point : (j r m : ℕ) → (in_table k j r && has (read_le 8 b' (cell j r)) m) ≡ (in_table k j r && has (read_le 8 b (cell j r)) m)
    point j r m =
        under_test (in_table k j r) (has (read_le 8 b' (cell j r)) m) (has (read_le 8 b (cell j r)) m)
        (λ h. let w = cell_inside k j r h in ap (λ (x : ℕ). has x m) (g.reads 8 (cell j r) w.0 w.1))

pub register_agree : {b b' : List ℕ} → Agree b b' register_place deliveries_place → register_of b' register_place ≡ register_of b register_place
register_agree {b} {b'} g = λ i k. point k (ltb k bikes) refl i
  where
    point : (k : ℕ) (t : Bool) → ltb k bikes ≡ t
        → pick t (bike_in b' (register_place + bike_size * k)) (bike 0 0) ≡ pick t (bike_in b (register_place + bike_size * k)) (bike 0 0)
    point k true e =
        let l = ltb-true k bikes e in
        λ i. bike (g.reads 4 (register_place + bike_size * k) (omega arith) (omega arith) i) (g.reads 4 (register_place + bike_size * k + 4) (omega arith) (omega arith) i)
    point k false e = refl

pub deliveries_agree : (n : ℕ) {b b' : List ℕ} → Agree b b' deliveries_place (slot n) → deliveries_of n b' ≡ deliveries_of n b
unfolding deliveries_of
deliveries_agree zero g = refl
deliveries_agree (suc n) {b} {b'} g =
    λ i.
    deliveries_agree n (agree_part deliveries_place (slot n) g (omega arith) (omega arith)) i
    ++ (record { command = g.reads 1 (slot n) (omega arith) (omega arith) i; answer = signed32 (g.reads 4 (slot n + 1) (omega arith) (omega arith) i) } ∷ [])
