-- Sets of command numbers: what a word holds, and what each operation answers.
-- Assumes nothing.
use Rattle.std.specs.Prelude.{Bool, not, ◌||◌, List, ℕ, zero, suc, ◌+◌, ◌*◌, ◌/◌, ◌%◌, ◌^◌, eqb, leb, ltb, get_or, set}
use Rattle.std.specs.Int.Bits.{bit_and, bit_or, bit_xor}
use Rattle.theory.specs.Sets.{pick, one, all, any, count}
use Rattle.wire.specs.Wire.{read_le, bytes, splice}
use Rattle.sets.specs.declared.Set.{Set}

-- A word as a set: m is in it where bit m is set.
unfoldable pub has : ℕ → ℕ → Bool
has s m = eqb (s / 2 ^ m % 2) 1

-- The word of the numbers below k that satisfy p.
unfoldable pub word : ℕ → (ℕ → Bool) → ℕ
word zero p = 0
word (suc k) p = word k p + one (p k) * 2 ^ k

-- The least number below n that satisfies p, and n where none does.
unfoldable pub least : ℕ → (ℕ → Bool) → ℕ
least zero p = 0
least (suc n) p = pick (p 0) 0 (suc (least n (λ m. p (suc m))))

-- How many commands a set can hold.
abbrev pub capacity : ℕ
capacity = 64

-- Whether command m is in a set.
abbrev pub in_set : Set → ℕ → Bool
in_set s m = has s.bits m

-- The set of the commands below k that satisfy p.
abbrev pub set_of : ℕ → (ℕ → Bool) → Set
set_of k p = record { bits = word k p }

-- No command.
abbrev pub empty_of : Set
empty_of = record { bits = 0 }

-- A set and one command more.
unfoldable pub with_of : Set → ℕ → Set
with_of s m = record { bits = bit_or s.bits (2 ^ m) }

-- The commands of either set.
unfoldable pub union_of : Set → Set → Set
union_of a b = record { bits = bit_or a.bits b.bits }

-- The commands of the first set that are not in the second.
unfoldable pub without_of : Set → Set → Set
without_of a b = record { bits = bit_xor a.bits (bit_and a.bits b.bits) }

-- The commands of both sets.
unfoldable pub common_of : Set → Set → Set
common_of a b = record { bits = bit_and a.bits b.bits }

-- The commands from n on.
abbrev pub beyond_of : ℕ → Set
beyond_of n = set_of capacity (leb n)

-- No command is in the set.
abbrev pub is_empty_of : Set → Bool
is_empty_of s = not (any capacity (in_set s))

-- Every command of the set is below n.
abbrev pub within_of : Set → ℕ → Bool
within_of s n = all capacity (λ m. not (in_set s m) || ltb m n)

-- How many commands are in the set.
abbrev pub size_of : Set → ℕ
size_of s = count capacity (in_set s)

-- The least command of the set, and its capacity where it is empty.
abbrev pub first_of : Set → ℕ
first_of s = least capacity (in_set s)

-- The set without its least command.
abbrev pub rest_of : Set → Set
rest_of s = without_of s (with_of empty_of (first_of s))

-- The bytes of a set.
abbrev pub set_bytes : ℕ
set_bytes = 8

-- The set that stands in bytes at a position, least significant byte first.
unfoldable pub read_set : List ℕ → ℕ → Set
read_set bs at = record { bits = read_le set_bytes bs at }

-- Bytes with a set written at a position.
unfoldable pub write_set : List ℕ → ℕ → Set → List ℕ
write_set bs at s = splice bs at (bytes set_bytes s.bits)

-- The k-th set of a list of words.
abbrev pub load_set : List ℕ → ℕ → Set
load_set ws k = record { bits = get_or ws k 0 }

-- A list of words whose k-th set is another.
abbrev pub store_set : List ℕ → ℕ → Set → List ℕ
store_set ws k s = set ws k s.bits
