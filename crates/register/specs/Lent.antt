-- The register in lent bytes: 32 bikes of 8 bytes each, the reading and then the dash, from a position on.
-- Assumes nothing.
use Rattle.std.specs.Prelude.{◌≡◌, List, [], ◌++◌, ℕ, zero, suc, ◌+◌, ◌*◌, ◌^◌, ◌≤◌, ◌<◌, ltb, ℤ}
use Rattle.theory.specs.Sets.{pick}
use Rattle.wire.specs.Wire.{bytes, read_le, splice}
use Rattle.register.specs.declared.Bike.{Bike}
use Rattle.register.specs.declared.Command.{Command}
use Rattle.register.specs.declared.Command.TheVariants.{Add, Fit, Read, Trim}
use Rattle.register.specs.Register.{bikes, bike, Register, bike_of, execute, answer}

-- The bytes of one bike.
abbrev pub bike_size : ℕ
bike_size = 8

-- The bytes of a register.
abbrev pub register_size : ℕ
register_size = bikes * bike_size

-- The bike that stands at a position.
abbrev pub bike_in : List ℕ → ℕ → Bike
bike_in b place = bike (read_le 4 b place) (read_le 4 b (place + 4))

-- A bike as bytes.
abbrev pub bike_bytes : Bike → List ℕ
bike_bytes e = bytes 4 e.reading ++ bytes 4 e.dash

-- The register that stands at a position. Bikes that there are not have nothing.
abbrev pub register_of : List ℕ → ℕ → Register
register_of b at k = pick (ltb k bikes) (bike_in b (at + bike_size * k)) (bike 0 0)

-- The first n bikes of a register as bytes.
unfoldable pub bikes_bytes : ℕ → Register → List ℕ
bikes_bytes zero r = []
bikes_bytes (suc n) r = bikes_bytes n r ++ bike_bytes (r n)

-- A register as bytes.
abbrev pub register_bytes : Register → List ℕ
register_bytes r = bikes_bytes bikes r

-- The dash that a command sets, 0 where it sets none.
abbrev pub dash_of : Command → ℕ
dash_of (Add b km) = 0
dash_of (Fit b dash start) = dash
dash_of (Read b) = 0
dash_of (Trim b km) = 0

-- A register that bytes can hold: dashes of 4 bytes, and nothing beyond the last bike.
pub record Sized (r : Register) : Type 0 where
  pub dash : (k : ℕ) → (r k).dash < 2 ^ 32
  pub beyond : (k : ℕ) → bikes ≤ k → r k ≡ bike 0 0

-- What an executed command leaves of the bytes b and answers.
pub record Executed (c : Command) (at : ℕ) (b b' : List ℕ) (r : ℤ) : Type 0 where
  pub answer : r ≡ answer c (register_of b at)
  pub register : register_of b' at ≡ execute c (register_of b at)
  -- only the bytes of the command's bike are written
  pub elsewhere : b' ≡ splice b (at + bike_size * bike_of c) (bike_bytes (register_of b' at (bike_of c)))
