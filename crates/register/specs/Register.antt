-- The dash register as document 01's table of kinds gives it: what a command does to the register, what it answers, and which commands conflict.
-- Assumes nothing.
use Rattle.std.specs.Prelude.{Bool, true, false, not, ◌&&◌, ◌||◌, ℕ, ◌+◌, ◌≤◌, ◌<◌, min, eqb, leb, ℤ, pos, negsuc, ◌+ℤ◌, ◌-ℤ◌}
use Rattle.theory.specs.Sets.{pick, all}
use Rattle.register.specs.declared.Bike.{Bike}
use Rattle.register.specs.declared.Command.{Command}
use Rattle.register.specs.declared.Command.TheVariants.{Add, Fit, Read, Trim}

-- Bikes are numbered from 0 to 31.
abbrev pub bikes : ℕ
bikes = 32

-- A reading is at most 999,999.
abbrev pub max_reading : ℕ
max_reading = 999999

-- What the register holds of one bike.
abbrev pub bike : ℕ → ℕ → Bike
bike reading dash = record { reading = reading; dash = dash }

-- The register: what it holds of each bike.
abbrev pub Register : Type 0
Register = ℕ → Bike

-- The bike that a command names.
abbrev pub bike_of : Command → ℕ
bike_of (Add b km) = b
bike_of (Fit b dash start) = b
bike_of (Read b) = b
bike_of (Trim b km) = b

-- A signed sum held within 0 to 999,999.
abbrev pub held : ℤ → ℕ
held (pos n) = min n max_reading
held (negsuc n) = 0

-- What a command makes of its bike.
--   ADD: the reading becomes the lesser of reading + km and 999,999.
--   FIT: dash and reading are set.
--   READ: nothing changes.
--   TRIM: the reading becomes reading + km, held within 0 to 999,999.
abbrev pub change : Command → Bike → Bike
change (Add b km) e = bike (min (e.reading + km) max_reading) e.dash
change (Fit b dash start) e = bike start dash
change (Read b) e = e
change (Trim b km) e = bike (held (pos e.reading +ℤ km)) e.dash

-- What a command answers, from its bike as it was before.
--   ADD: 0. FIT: the reading before. READ: the reading. TRIM: the new reading minus the old, signed.
abbrev pub reply : Command → Bike → ℤ
reply (Add b km) e = pos 0
reply (Fit b dash start) e = pos e.reading
reply (Read b) e = pos e.reading
reply (Trim b km) e = pos (held (pos e.reading +ℤ km)) -ℤ pos e.reading

-- The register after a command: only the bike that it names changes.
abbrev pub execute : Command → Register → Register
execute c r k = pick (eqb k (bike_of c)) (change c (r k)) (r k)

-- The answer of a command on a register.
abbrev pub answer : Command → Register → ℤ
answer c r = reply c (r (bike_of c))

-- The initial register (document 01: the opening register): reading 0 and dash 0 for every bike.
abbrev pub initial : Register
initial k = bike 0 0

abbrev pub is_add : Command → Bool
is_add (Add b km) = true
is_add (Fit b dash start) = false
is_add (Read b) = false
is_add (Trim b km) = false

abbrev pub is_read : Command → Bool
is_read (Add b km) = false
is_read (Fit b dash start) = false
is_read (Read b) = true
is_read (Trim b km) = false

-- Both are ADD, or both are READ.
abbrev pub alike : Command → Command → Bool
alike c d = is_add c && is_add d || is_read c && is_read d

-- Two commands at different places conflict (document 01: clash) when they name the same bike, unless both are ADD or both are READ.
abbrev pub conflict : Command → Command → Bool
conflict c d = eqb (bike_of c) (bike_of d) && not (alike c d)

-- The commands at two places of a book conflict: a command never conflicts with itself.
abbrev pub conflict_at : (ℕ → Command) → ℕ → ℕ → Bool
conflict_at book a b = not (eqb a b) && conflict (book a) (book b)

-- Every reading of a register is at most 999,999.
pub record Within (r : Register) : Type 0 where
  pub reading : (k : ℕ) → (r k).reading ≤ max_reading

-- The same as a test.
abbrev pub is_within : Register → Bool
is_within r = all bikes (λ k. leb (r k).reading max_reading)

-- The reading that a command sets, 0 where it sets none.
abbrev pub start_of : Command → ℕ
start_of (Add b km) = 0
start_of (Fit b dash start) = start
start_of (Read b) = 0
start_of (Trim b km) = 0

-- A command whose bike and start are in range.
pub record Valid (c : Command) : Type 0 where
  pub bike : bike_of c < bikes
  pub start : start_of c ≤ max_reading
