-- The steps of a run in bytes: document 01, "A run and its print". Operands are 1 byte, sets 8 bytes.
-- Assumes nothing.
use Rattle.std.specs.Prelude.{Bool, true, false, List, [], ◌∷◌, ◌++◌, ℕ, zero, suc, ◌+◌, ◌-◌, ◌*◌, ◌^◌, ◌<◌, leb, length, get_or, None, Option, Some}
use Rattle.wire.specs.Wire.{bytes}
use Rattle.sets.specs.declared.Set.{Set}
use Rattle.sets.specs.Sets.{set_bytes, read_set}
use Rattle.steps.specs.declared.Step.{Step}
use Rattle.steps.specs.declared.Step.TheVariants.{Command, Acknowledgment, Check, FalseAcknowledgment, FalseCheck, FalseEntry, Turn, FastDelivery, LogRead, RoundEnd}

-- The bytes of a step: its code, its operands of 1 byte, its sets.
abbrev pub size_of : Step → ℕ
size_of (Command i m) = 3
size_of (Acknowledgment i j r a) = 5
size_of (Check i j r) = 4
size_of (FalseAcknowledgment i j r x) = 4 + set_bytes
size_of (FalseCheck i j r x) = 4 + set_bytes
size_of (FalseEntry j r nc c) = 3 + 2 * set_bytes
size_of (Turn i) = 2
size_of (FastDelivery i m) = 3
size_of (LogRead i) = 2
size_of (RoundEnd i) = 2

-- The byte at a position.
abbrev pub byte : List ℕ → ℕ → ℕ
byte s k = get_or s k 0

-- A step that is whole where a test holds.
abbrev pub given : Bool → Step → Option Step
given true t = Some t
given false t = None

-- A step whose operands are those of some bytes: unreadable where the bytes are cut.
unfoldable pub uncut : List ℕ → Step → Option Step
uncut s t = given (leb (size_of t) (length s)) t

-- What some bytes are by each code from 00 on.
abbrev pub by_code : List ℕ → List (Option Step)
by_code s =
    None
    ∷ uncut s (Command (byte s 1) (byte s 2))
    ∷ uncut s (Acknowledgment (byte s 1) (byte s 2) (byte s 3) (byte s 4))
    ∷ uncut s (Check (byte s 1) (byte s 2) (byte s 3))
    ∷ uncut s (FalseAcknowledgment (byte s 1) (byte s 2) (byte s 3) (read_set s 4))
    ∷ uncut s (FalseCheck (byte s 1) (byte s 2) (byte s 3) (read_set s 4))
    ∷ uncut s (FalseEntry (byte s 1) (byte s 2) (read_set s 3) (read_set s (3 + set_bytes)))
    ∷ uncut s (Turn (byte s 1))
    ∷ uncut s (FastDelivery (byte s 1) (byte s 2))
    ∷ uncut s (LogRead (byte s 1))
    ∷ uncut s (RoundEnd (byte s 1))
    ∷ []

-- What some bytes are by a code.
unfoldable pub read_as : ℕ → List ℕ → Option Step
read_as code s = get_or (by_code s) code None

-- The step at the front of some bytes: unreadable where its code is unknown or its operands are cut.
unfoldable pub read_step : List ℕ → Option Step
read_step s = read_as (byte s 0) s

-- A reading, and those after it where it is a step.
abbrev pub and_then : Option Step → (ℕ → List (Option Step)) → List (Option Step)
and_then (Some t) rest = Some t ∷ rest (size_of t - 1)
and_then None rest = None ∷ []

-- The steps of some bytes, of which the first k are passed over.
abbrev pub readings : List ℕ → ℕ → List (Option Step)
readings [] k = []
readings (b ∷ s) (suc k) = readings s k
readings (b ∷ s) zero = and_then (read_step (b ∷ s)) (λ k. readings s k)

-- The steps that stand end to end in some bytes. What cannot be read ends them.
unfoldable pub steps_of : List ℕ → List (Option Step)
steps_of s = readings s 0

-- The bytes of a set.
abbrev pub set_operand : Set → List ℕ
set_operand x = bytes set_bytes x.bits

-- The bytes of a step.
abbrev pub encode_step : Step → List ℕ
encode_step (Command i m) = 1 ∷ i ∷ m ∷ []
encode_step (Acknowledgment i j r a) = 2 ∷ i ∷ j ∷ r ∷ a ∷ []
encode_step (Check i j r) = 3 ∷ i ∷ j ∷ r ∷ []
encode_step (FalseAcknowledgment i j r x) = 4 ∷ i ∷ j ∷ r ∷ set_operand x
encode_step (FalseCheck i j r x) = 5 ∷ i ∷ j ∷ r ∷ set_operand x
encode_step (FalseEntry j r nc c) = 6 ∷ j ∷ r ∷ set_operand nc ++ set_operand c
encode_step (Turn i) = 7 ∷ i ∷ []
encode_step (FastDelivery i m) = 8 ∷ i ∷ m ∷ []
encode_step (LogRead i) = 9 ∷ i ∷ []
encode_step (RoundEnd i) = 10 ∷ i ∷ []

-- The bytes of steps end to end.
abbrev pub encode_steps : List Step → List ℕ
encode_steps [] = []
encode_steps (t ∷ ts) = encode_step t ++ encode_steps ts

-- A set that fits its 8 bytes.
abbrev pub SetFits : Set → Type 0
SetFits x = x.bits < 256 ^ set_bytes

-- A step whose sets fit their bytes. Operands of 1 byte are written as they are.
abbrev pub InRange : Step → Type 0
InRange (Command i m) = Unit {0}
InRange (Acknowledgment i j r a) = Unit {0}
InRange (Check i j r) = Unit {0}
InRange (FalseAcknowledgment i j r x) = SetFits x
InRange (FalseCheck i j r x) = SetFits x
InRange (FalseEntry j r nc c) = SetFits nc × SetFits c
InRange (Turn i) = Unit {0}
InRange (FastDelivery i m) = Unit {0}
InRange (LogRead i) = Unit {0}
InRange (RoundEnd i) = Unit {0}

-- Every step of a list is in range.
abbrev pub AllInRange : List Step → Type 0
AllInRange [] = Unit {0}
AllInRange (t ∷ ts) = InRange t × AllInRange ts
