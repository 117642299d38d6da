-- A message in bytes: kind, round, set (document 01: acknowledgments and check messages). Who sent it is not in it.
-- Assumes nothing.
use Rattle.std.specs.Prelude.{Bool, cond, ◌&&◌, ◌||◌, List, ◌++◌, ℕ, ◌+◌, eqb, length}
use Rattle.wire.specs.Wire.{bytes, read_le}
use Rattle.sets.specs.Sets.{set_bytes, read_set}
use Rattle.message.specs.declared.Kind.{Kind}
use Rattle.message.specs.declared.Kind.TheVariants.{Acknowledgment, Check}
use Rattle.message.specs.declared.Message.{Message}

-- Where the round and the set stand, after the kind.
abbrev pub round_offset : ℕ
round_offset = 1

abbrev pub set_offset : ℕ
set_offset = 2

abbrev pub message_size : ℕ
message_size = set_offset + set_bytes

-- The number of a kind.
abbrev pub kind_number : Kind → ℕ
kind_number Acknowledgment = 1
kind_number Check = 2

-- The kind of a number that is one of theirs.
abbrev pub kind_from : ℕ → Kind
kind_from k = cond (eqb k (kind_number Acknowledgment)) Acknowledgment Check

-- Bytes of the length of a message, with one of its kinds. Round and set may be anything.
unfoldable pub is_message : List ℕ → Bool
is_message b =
    eqb (length b) message_size && (eqb (read_le 1 b 0) (kind_number Acknowledgment) || eqb (read_le 1 b 0) (kind_number Check))

-- The message that such bytes are.
abbrev pub message_of : List ℕ → Message
message_of b = record { kind = kind_from (read_le 1 b 0); round = read_le 1 b round_offset; set = read_set b set_offset }

-- The bytes of a message.
unfoldable pub message_bytes : Message → List ℕ
message_bytes m = (bytes 1 (kind_number m.kind) ++ bytes 1 m.round) ++ bytes set_bytes m.set.bits
