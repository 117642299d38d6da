-- What the exchange law says, and that conflict is symmetric and irreflexive. The law itself is proved in proofs/Exchange.antt.
-- Assumes nothing.
use Rattle.std.specs.Prelude.{Bool, true, false, not, ◌&&◌, ◌≡◌, refl, ℕ, eqb}
use Rattle.std.proofs.Common.{sym, ap, ◌∙◌, eqb-true, eq-eqb}
use Rattle.register.specs.declared.Command.{Command}
use Rattle.register.specs.declared.Command.TheVariants.{Add, Fit, Read, Trim}
use Rattle.register.specs.Register.{Register, bike_of, execute, answer, alike, conflict, conflict_at}

-- What either order gives.
pub record Exchanged (c d : Command) (r : Register) : Type 0 where
  -- the same register
  pub register : execute d (execute c r) ≡ execute c (execute d r)
  -- the same answer of the one
  pub first : answer c (execute d r) ≡ answer c r
  -- and of the other
  pub second : answer d (execute c r) ≡ answer d r

alike-sym : (c d : Command) → alike c d ≡ alike d c
alike-sym (Add b km) (Add b' km') = refl
alike-sym (Add b km) (Fit b' dash start) = refl
alike-sym (Add b km) (Read b') = refl
alike-sym (Add b km) (Trim b' km') = refl
alike-sym (Fit b dash start) (Add b' km') = refl
alike-sym (Fit b dash start) (Fit b' dash' start') = refl
alike-sym (Fit b dash start) (Read b') = refl
alike-sym (Fit b dash start) (Trim b' km') = refl
alike-sym (Read b) (Add b' km') = refl
alike-sym (Read b) (Fit b' dash start) = refl
alike-sym (Read b) (Read b') = refl
alike-sym (Read b) (Trim b' km') = refl
alike-sym (Trim b km) (Add b' km') = refl
alike-sym (Trim b km) (Fit b' dash start) = refl
alike-sym (Trim b km) (Read b') = refl
alike-sym (Trim b km) (Trim b' km') = refl

-- A test of equality is the same both ways round.
eqb-sym : (a b : ℕ) → eqb a b ≡ eqb b a
eqb-sym a b = by_test (eqb a b) (eqb b a) refl refl
  where
    by_test : (x y : Bool) → eqb a b ≡ x → eqb b a ≡ y → x ≡ y
    by_test true true p q = refl
    by_test true false p q = sym (eq-eqb b a (sym (eqb-true a b p))) ∙ q
    by_test false true p q = sym p ∙ eq-eqb a b (sym (eqb-true b a q))
    by_test false false p q = refl

-- Conflict is symmetric.
pub conflict-sym : (c d : Command) → conflict c d ≡ conflict d c
conflict-sym c d = λ i. eqb-sym (bike_of c) (bike_of d) i && not (alike-sym c d i)

pub conflict_at-sym : (book : ℕ → Command) (a b : ℕ) → conflict_at book a b ≡ conflict_at book b a
conflict_at-sym book a b = λ i. not (eqb-sym a b i) && conflict-sym (book a) (book b) i

-- A command never conflicts with itself.
pub conflict_at_same : (book : ℕ → Command) (a : ℕ) → conflict_at book a a ≡ false
conflict_at_same book a = ap (λ (t : Bool). not t && conflict (book a) (book a)) (eq-eqb a a refl)
