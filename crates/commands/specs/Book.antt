-- Commands in bytes: how they are read, judged and written. Document 01 calls this the book.
-- Assumes nothing.
use Rattle.std.specs.Prelude.{◌≡◌, Bool, true, false, List, [], ◌∷◌, ◌++◌, ℕ, zero, suc, ◌+◌, ◌^◌, ◌≤◌, ◌<◌, leb, ltb, length, get_or, take, drop, Err, None, Option, Some}
use Rattle.std.specs.Int.{w16}
use Rattle.std.proofs.Common.{SFits}
use Rattle.wire.specs.Wire.{read_le, bytes}
use Rattle.signed.specs.Signed.{signed16, word16}
use Rattle.refusals.specs.Refusals.{Verdict, accepted}
use Rattle.refusals.specs.declared.Refusal.TheVariants.{Book}
use Rattle.register.specs.Register.{bikes, max_reading}
use Rattle.register.specs.declared.Command.{Command}
use Rattle.register.specs.declared.Command.TheVariants.{Add, Fit, Read, Trim}

-- A book has at most 64 commands.
abbrev pub max_commands : ℕ
max_commands = 64

-- The bytes of a command: kind, bike, operands.
abbrev pub size_of : Command → ℕ
size_of (Add bike km) = 4
size_of (Fit bike dash start) = 10
size_of (Read bike) = 2
size_of (Trim bike km) = 4

-- A reading that is taken only where a test holds.
abbrev pub given : Bool → Option Command → Option Command
given true r = r
given false r = None

-- The command of a kind, from bytes that start with that kind and a bike.
unfoldable pub read_kind : ℕ → List ℕ → Option Command
read_kind zero s = None
read_kind (suc zero) s = given (leb 4 (length s)) (Some (Add (get_or s 1 0) (read_le 2 s 2)))
read_kind (suc (suc zero)) s =
    given (leb 10 (length s)) (given (leb (read_le 4 s 6) max_reading) (Some (Fit (get_or s 1 0) (read_le 4 s 2) (read_le 4 s 6))))
read_kind (suc (suc (suc zero))) s = Some (Read (get_or s 1 0))
read_kind (suc (suc (suc (suc zero)))) s = given (leb 4 (length s)) (Some (Trim (get_or s 1 0) (signed16 (read_le 2 s 2))))
read_kind (suc (suc (suc (suc (suc n))))) s = None

-- The command at the front of some bytes.
unfoldable pub read_command : List ℕ → Option Command
read_command s = given (leb 2 (length s)) (given (ltb (get_or s 1 0) bikes) (read_kind (get_or s 0 0) s))

-- No commands where no bytes are left, else what is given.
abbrev pub unless_empty : List ℕ → Option (List Command) → Option (List Command)
unless_empty [] r = Some []
unless_empty (b ∷ s) r = r

-- A command and those after it, where they are readable.
abbrev pub also : Command → Option (List Command) → Option (List Command)
also c None = None
also c (Some cs) = Some (c ∷ cs)

-- What follows a reading: nothing where it is bad.
abbrev pub and_then : Option Command → (Command → Option (List Command)) → Option (List Command)
and_then (Some c) f = f c
and_then None f = None

-- The commands of bytes that hold at most n of them, end to end.
abbrev pub read_up_to : ℕ → List ℕ → Option (List Command)
read_up_to zero s = unless_empty s None
read_up_to (suc n) s = unless_empty s (and_then (read_command s) (λ c. also c (read_up_to n (drop (size_of c) s))))

-- The commands of a reading of a whole book, none where it is refused.
abbrev pub or_none : Option (List Command) → List Command
or_none None = []
or_none (Some cs) = cs

-- The commands of a book, none where it is refused.
unfoldable pub commands_of : List ℕ → List Command
commands_of s = or_none (read_up_to max_commands s)

-- The command at a place of the book, counted from 0.
unfoldable pub command_of : List ℕ → ℕ → Command
command_of s k = get_or (commands_of s) k (Read 0)

-- The verdict on a reading of a whole book.
abbrev pub verdict_of : Option (List Command) → Verdict
verdict_of None = Err Book
verdict_of (Some cs) = accepted

-- Whether a book is taken: refusal 1 for an unknown kind, a cut operand, a bike or start out of range, a 65th command.
unfoldable pub judge_book : List ℕ → Verdict
judge_book s = verdict_of (read_up_to max_commands s)

-- The number of commands, k of them passed before.
abbrev pub count_from : ℕ → Option (List Command) → Option ℕ
count_from k None = None
count_from k (Some cs) = Some (k + length cs)

-- The number of commands of a book, none where it is refused.
unfoldable pub measure_book : List ℕ → Option ℕ
measure_book s = count_from 0 (read_up_to max_commands s)

-- The places of commands that stand end to end from a position on.
abbrev pub places_from : ℕ → List Command → List ℕ
places_from at [] = []
places_from at (c ∷ cs) = at ∷ places_from (at + size_of c) cs

-- The place in bytes of each command of a book.
unfoldable pub places_of : List ℕ → List ℕ
places_of s = places_from 0 (commands_of s)

-- The first of some words are the places of a book's commands.
abbrev pub Placed : List ℕ → List ℕ → Type 0
Placed book places = take (length (commands_of book)) places ≡ places_of book

-- A command that was read and those after it; none where the reading is bad.
abbrev pub read_on : Option Command → (Command → List Command) → List Command
read_on (Some c) f = c ∷ f c
read_on None f = []

-- The commands at the front of some bytes, at most n of them, up to the first that cannot be read.
abbrev pub readable : ℕ → List ℕ → List Command
readable zero s = []
readable (suc n) s = read_on (read_command s) (λ c. readable n (drop (size_of c) s))

-- The places of the commands that a walk through a book reads: all of its commands where the book is taken.
unfoldable pub noted_places : List ℕ → List ℕ
noted_places s = places_from 0 (readable max_commands s)

-- The bytes of a command.
abbrev pub encode_command : Command → List ℕ
encode_command (Add bike km) = 1 ∷ bike ∷ bytes 2 km
encode_command (Fit bike dash start) = 2 ∷ bike ∷ bytes 4 dash ++ bytes 4 start
encode_command (Read bike) = 3 ∷ bike ∷ []
encode_command (Trim bike km) = 4 ∷ bike ∷ bytes 2 (word16 km)

-- The bytes of commands end to end.
abbrev pub encode_book : List Command → List ℕ
encode_book [] = []
encode_book (c ∷ cs) = encode_command c ++ encode_book cs

-- A command whose bike, start and operands fit their bytes.
abbrev pub InRange : Command → Type 0
InRange (Add bike km) = (bike < bikes) × (km < 256 ^ 2)
InRange (Fit bike dash start) = (bike < bikes) × (dash < 256 ^ 4) × (start ≤ max_reading)
InRange (Read bike) = bike < bikes
InRange (Trim bike km) = (bike < bikes) × SFits w16 km

-- Every command of a list is in range.
abbrev pub AllInRange : List Command → Type 0
AllInRange [] = Unit {0}
AllInRange (c ∷ cs) = InRange c × AllInRange cs
