-- Laws of commands on one bike and on the register: readings stay in range, answers fit 4 bytes, and what the code's tests say.
-- Assumes nothing.
use mathlib.Core.Bool.{Bool, true, false}
use mathlib.Core.Path.{◌≡◌, refl, sym, ap, subst, ◌∙◌}
use Prim.Native.Nat.{ℕ, ◌≤◌, ◌<◌, min}
use native.Mathlib.Omega.{arith}
use borrow.Author.Tests.{ltb-true, ltb-false, leb-true, le-leb}
use lib.Dec.{T, eqb, leb, lit≤}
use lib.IntN.{ℤ, pos, negsuc, ◌+ℤ◌}
use lib.Signed.{lt_z}
use mir.Syntax.{w32}
use mir.Val.{SFits}
use Rattle.theory.specs.Sets.{pick}
use Rattle.theory.specs.Counting.{all_at, all_of}
use Rattle.signed.proofs.Laws.{sfits_diff}
use Rattle.register.specs.declared.Bike.{Bike}
use Rattle.register.specs.declared.Command.{Command}
use Rattle.register.specs.declared.Command.TheVariants.{Add, Fit, Read, Trim}
use Rattle.register.specs.Register.{bikes, max_reading, Register, bike_of, start_of, held, change, reply, execute, answer, initial, Within, is_within, Valid}

-- A held sum, by the tests that the code makes.
pub held_below : (z : ℤ) → lt_z z (pos 0) ≡ true → held z ≡ 0
held_below (pos n) h = let k = ltb-true n 0 h in absurd (omega arith)
held_below (negsuc n) h = refl

pub held_above : (z : ℤ) → lt_z (pos 999999) z ≡ true → held z ≡ 999999
held_above (pos n) h = let k = ltb-true 999999 n h in omega arith
held_above (negsuc n) h = absurd (subst T (sym h) tt)

pub held_between : (z : ℤ) → lt_z z (pos 0) ≡ false → lt_z (pos 999999) z ≡ false → z ≡ pos (held z)
held_between (pos n) h g =
    let k = ltb-false 999999 n g in
    let e : n ≡ min n 999999 = omega arith in
    ap pos e
held_between (negsuc n) h g = absurd (subst T h tt)

-- A held sum is a reading in range.
pub held_most : (z : ℤ) → held z ≤ max_reading
held_most (pos n) = omega arith
held_most (negsuc n) = omega arith

-- A command keeps its bike's reading in range.
pub change-within : (c : Command) (e : Bike) → start_of c ≤ max_reading → e.reading ≤ max_reading → (change c e).reading ≤ max_reading
change-within (Add b km) e s h = omega arith
change-within (Fit b dash start) e s h = s
change-within (Read b) e s h = h
change-within (Trim b km) e s h = held_most (pos e.reading +ℤ km)

-- A command keeps a register in range.
pub kept-within : (c : Command) (r : Register) → Valid c → Within r → Within (execute c r)
kept-within c r v w = record { reading = λ k. by_test k (eqb k (bike_of c)) }
  where
    by_test : (k : ℕ) (t : Bool) → (pick t (change c (r k)) (r k)).reading ≤ max_reading
    by_test k true = change-within c (r k) v.start (w.reading k)
    by_test k false = w.reading k

pub initial-within : Within initial
initial-within = record { reading = λ k. lit≤ tt }

pub reading-within : {e : Bike} (r : Register) (k : ℕ) → Within r → e ≡ r k → e.reading ≤ max_reading
reading-within r k w p = subst (λ (x : Bike). x.reading ≤ max_reading) (sym p) (w.reading k)

-- The test of readings in range.
pub within_test : (r : Register) → Within r → is_within r ≡ true
within_test r w = all_of bikes (λ k. leb (r k).reading max_reading) (λ k h. le-leb (r k).reading max_reading (w.reading k))

pub test_within : (r : Register) → is_within r ≡ true → (k : ℕ) → k < bikes → (r k).reading ≤ max_reading
test_within r h k l = leb-true (r k).reading max_reading (all_at bikes (λ m. leb (r m).reading max_reading) h k l)

-- An answer fits 4 bytes.
pub reply_fits : (c : Command) (e : Bike) → e.reading ≤ max_reading → SFits w32 (reply c e)
reply_fits (Add b km) e h = record { sfits = omega arith }
reply_fits (Fit b dash start) e h = record { sfits = omega arith }
reply_fits (Read b) e h = record { sfits = omega arith }
reply_fits (Trim b km) e h =
    let k = held_most (pos e.reading +ℤ km) in
    sfits_diff w32 (held (pos e.reading +ℤ km)) e.reading {m = 1000000} (omega arith) (omega arith) (lit≤ tt)

pub answer_fits : (c : Command) (r : Register) → Within r → SFits w32 (answer c r)
answer_fits c r w = reply_fits c (r (bike_of c)) (w.reading (bike_of c))

-- A match on the command: what holds of the variant holds of the command.
pub change_of : {c d : Command} {x : Bike} (e : Bike) → c ≡ d → x ≡ change d e → x ≡ change c e
change_of e p q = q ∙ ap (λ (k : Command). change k e) (sym p)

pub reply_of : {c d : Command} {x : ℤ} (e : Bike) → c ≡ d → x ≡ reply d e → x ≡ reply c e
reply_of e p q = q ∙ ap (λ (k : Command). reply k e) (sym p)
