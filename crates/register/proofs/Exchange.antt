-- The exchange law: two commands that do not conflict give, in either order, the same register and the same two answers.
-- It holds for every register, in range or not. Assumes nothing.
use Rattle.std.specs.Prelude.{Bool, true, false, not, ◌&&◌, ◌≡◌, refl, ℕ, ◌+◌, min, T, eqb}
use Rattle.std.proofs.Common.{sym, ap, subst, ◌∙◌, arith, eqb-true, eq-eqb, ne_eqb}
use Rattle.theory.specs.Sets.{pick}
use Rattle.register.specs.declared.Bike.{Bike}
use Rattle.register.specs.declared.Command.{Command}
use Rattle.register.specs.declared.Command.TheVariants.{Add, Fit, Read, Trim}
use Rattle.register.specs.Register.{bike, max_reading, Register, bike_of, change, reply, execute, answer, alike, conflict, conflict_at}
use Rattle.register.specs.Exchange.{Exchanged, conflict-sym}

-- Two alike commands on one bike change it the same in both orders.
both : (c d : Command) (e : Bike) → alike c d ≡ true → change d (change c e) ≡ change c (change d e)
both (Add b km) (Add b' km') e h =
    let z : min (min (e.reading + km) max_reading + km') max_reading ≡ min (min (e.reading + km') max_reading + km) max_reading = omega arith in
    ap (λ (n : ℕ). bike n e.dash) z
both (Add b km) (Fit b' dash start) e h = absurd (subst T (sym h) tt)
both (Add b km) (Read b') e h = absurd (subst T (sym h) tt)
both (Add b km) (Trim b' km') e h = absurd (subst T (sym h) tt)
both (Fit b dash start) d e h = absurd (subst T (sym h) tt)
both (Read b) (Add b' km') e h = absurd (subst T (sym h) tt)
both (Read b) (Fit b' dash start) e h = absurd (subst T (sym h) tt)
both (Read b) (Read b') e h = refl
both (Read b) (Trim b' km') e h = absurd (subst T (sym h) tt)
both (Trim b km) d e h = absurd (subst T (sym h) tt)

-- The answer of a command is not changed by one alike.
quiet : (c d : Command) (e : Bike) → alike c d ≡ true → reply c (change d e) ≡ reply c e
quiet (Add b km) (Add b' km') e h = refl
quiet (Add b km) (Fit b' dash start) e h = absurd (subst T (sym h) tt)
quiet (Add b km) (Read b') e h = absurd (subst T (sym h) tt)
quiet (Add b km) (Trim b' km') e h = absurd (subst T (sym h) tt)
quiet (Fit b dash start) d e h = absurd (subst T (sym h) tt)
quiet (Read b) (Add b' km') e h = absurd (subst T (sym h) tt)
quiet (Read b) (Fit b' dash start) e h = absurd (subst T (sym h) tt)
quiet (Read b) (Read b') e h = refl
quiet (Read b) (Trim b' km') e h = absurd (subst T (sym h) tt)
quiet (Trim b km) d e h = absurd (subst T (sym h) tt)

-- Commands on one bike that do not conflict are alike.
alike_of : (x y : Bool) → x && not y ≡ false → x ≡ true → y ≡ true
alike_of true true h p = refl
alike_of true false h p = sym h
alike_of false y h p = absurd (subst T (sym p) tt)

same_bike : (c d : Command) → conflict c d ≡ false → bike_of c ≡ bike_of d → alike c d ≡ true
same_bike c d h e = alike_of (eqb (bike_of c) (bike_of d)) (alike c d) h (eq-eqb (bike_of c) (bike_of d) e)

-- At one bike: x and y say whether the one and the other command name it.
at_bike : (x y : Bool) (c d : Command) (e : Bike) → (x ≡ true → y ≡ true → alike c d ≡ true) → pick y (change d (pick x (change c e) e)) (pick x (change c e) e) ≡ pick x (change c (pick y (change d e) e)) (pick y (change d e) e)
at_bike true true c d e h = both c d e (h refl refl)
at_bike true false c d e h = refl
at_bike false true c d e h = refl
at_bike false false c d e h = refl

-- The answer of c at its bike, which d names where x is true.
at_answer : (x : Bool) (c d : Command) (e : Bike) → (x ≡ true → alike c d ≡ true) → reply c (pick x (change d e) e) ≡ reply c e
at_answer true c d e h = quiet c d e (h refl)
at_answer false c d e h = refl

unmoved : (c d : Command) → conflict c d ≡ false → (r : Register) → answer c (execute d r) ≡ answer c r
unmoved c d h r =
    at_answer (eqb (bike_of c) (bike_of d)) c d (r (bike_of c)) (λ p. same_bike c d h (eqb-true (bike_of c) (bike_of d) p))

pub exchange : (c d : Command) → conflict c d ≡ false → (r : Register) → Exchanged c d r
exchange c d h r =
    record {
      register =
          λ i k.
          at_bike (eqb k (bike_of c)) (eqb k (bike_of d)) c d (r k)
          (λ p q. same_bike c d h (sym (eqb-true k (bike_of c) p) ∙ eqb-true k (bike_of d) q))
          i;
      first = unmoved c d h r;
      second = unmoved d c (sym (conflict-sym c d) ∙ h) r;
    }

-- The same of the commands at two different places of a book.
pub exchange_at : (book : ℕ → Command) (a b : ℕ) → (a ≡ b → ⊥) → conflict_at book a b ≡ false → (r : Register) → Exchanged (book a) (book b) r
exchange_at book a b n h r =
    exchange (book a) (book b) (ap (λ (t : Bool). not t && conflict (book a) (book b)) (sym (ne_eqb a b n)) ∙ h) r
