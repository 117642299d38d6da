-- The test of a phase's bytes tells exactly those with a tag of 0 or 1, and nothing proposed while it is 0.
-- Assumes nothing.
use mathlib.Core.Path.{◌≡◌}
use mathlib.Core.Bool.{true, ◌&&◌}
use mathlib.Core.Logic.{◌⊎◌, inl, inr, ⊎_elim}
use mathlib.Core.List.{List}
use Prim.Native.Nat.{ℕ, ◌≤◌, ◌<◌}
use native.Mathlib.Omega.{arith}
use lib.Dec.{eqb}
use borrow.Author.Tests.{eqb-true, eq-eqb}
use Rattle.theory.specs.Counting.{left, right, either, true_or, or_true, lt_or_le}
use Rattle.wire.specs.Wire.{read_le}
use Rattle.layout.specs.Layout.{phase_place, nc_place, c_place}
use Rattle.layout.specs.Good.{good_phase}

module _ (b : List ℕ) where
  pub phase_good : good_phase b ≡ true → (read_le 1 b phase_place ≤ 1) × (read_le 1 b phase_place ≡ 0 → (read_le 8 b nc_place ≡ 0) × (read_le 8 b c_place ≡ 0))
  phase_good h = ⊎_elim waiting acknowledging (either (eqb tag 1) (eqb tag 0 && eqb nc 0 && eqb c 0) h)
    where
      tag : ℕ
      tag = read_le 1 b phase_place

      nc : ℕ
      nc = read_le 8 b nc_place

      c : ℕ
      c = read_le 8 b c_place

      waiting : eqb tag 1 ≡ true → (tag ≤ 1) × (tag ≡ 0 → (nc ≡ 0) × (c ≡ 0))
      waiting e = let q = eqb-true tag 1 e in (omega arith, λ z. absurd (omega arith))

      acknowledging : (eqb tag 0 && eqb nc 0 && eqb c 0) ≡ true → (tag ≤ 1) × (tag ≡ 0 → (nc ≡ 0) × (c ≡ 0))
      acknowledging e =
          let p = left (eqb tag 0 && eqb nc 0) (eqb c 0) e in
          let z = eqb-true tag 0 (left (eqb tag 0) (eqb nc 0) p) in
          (omega arith, λ _. (eqb-true nc 0 (right (eqb tag 0) (eqb nc 0) p), eqb-true c 0 (right (eqb tag 0 && eqb nc 0) (eqb c 0) e)))

  pub good_phase_lem : read_le 1 b phase_place ≤ 1 → (read_le 1 b phase_place ≡ 0 → (read_le 8 b nc_place ≡ 0) × (read_le 8 b c_place ≡ 0)) → good_phase b ≡ true
  good_phase_lem h idle = go (lt_or_le (read_le 1 b phase_place) 1)
    where
      go : (read_le 1 b phase_place < 1) ⊎ (1 ≤ read_le 1 b phase_place) → good_phase b ≡ true
      go (inl l) =
          let z : read_le 1 b phase_place ≡ 0 = omega arith in
          or_true (eqb (read_le 1 b phase_place) 1) (eqb (read_le 1 b phase_place) 0 && eqb (read_le 8 b nc_place) 0 && eqb (read_le 8 b c_place) 0)
          (simp (eq-eqb (read_le 1 b phase_place) 0 z, eq-eqb (read_le 8 b nc_place) 0 (idle z).0, eq-eqb (read_le 8 b c_place) 0 (idle z).1))
      go (inr l) =
          true_or (eqb (read_le 1 b phase_place) 1) (eqb (read_le 1 b phase_place) 0 && eqb (read_le 8 b nc_place) 0 && eqb (read_le 8 b c_place) 0)
          (eq-eqb (read_le 1 b phase_place) 1 (omega arith))
