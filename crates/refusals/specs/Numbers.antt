-- Laws of the numbers of refusals: none is 0, and none has more than two digits.
-- Assumes nothing.
use Rattle.std.specs.Prelude.{◌≡◌, ◌≤◌, ◌<◌}
use Rattle.std.proofs.Common.{arith}
use Rattle.refusals.specs.declared.Refusal.{Refusal}
use Rattle.refusals.specs.declared.Refusal.TheVariants.{Book, Table, Form, Range, Role, Disabled, ThirdEntry, LastRound, Size, Full}
use Rattle.refusals.specs.Refusals.{number_of}

bounds : (r : Refusal) → (1 ≤ number_of r) × (number_of r < 100)
bounds Book = (omega arith, omega arith)
bounds Table = (omega arith, omega arith)
bounds Form = (omega arith, omega arith)
bounds Range = (omega arith, omega arith)
bounds Role = (omega arith, omega arith)
bounds Disabled = (omega arith, omega arith)
bounds ThirdEntry = (omega arith, omega arith)
bounds LastRound = (omega arith, omega arith)
bounds Size = (omega arith, omega arith)
bounds Full = (omega arith, omega arith)

pub number_nonzero : (r : Refusal) → number_of r ≡ 0 → ⊥
number_nonzero r e = omega (arith, (bounds r).0)

pub number_short : (r : Refusal) → number_of r < 100
number_short r = (bounds r).1
