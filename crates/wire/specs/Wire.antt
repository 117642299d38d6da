-- Numbers in bytes, least significant byte first, and what a write leaves of a list. General in the width.
-- Assumes nothing.
use Rattle.std.specs.Prelude.{ℕ, zero, suc, ◌+◌, ◌*◌, ◌/◌, ◌%◌, List, [], ◌∷◌, ◌++◌, length, take, drop}

-- The number that bytes stand for (document 01: multi-byte operands are little-endian).
unfoldable pub value : List ℕ → ℕ
value [] = 0
value (b ∷ bs) = b + 256 * value bs

-- The n low bytes of x.
unfoldable pub bytes : ℕ → ℕ → List ℕ
bytes zero x = []
bytes (suc n) x = x % 256 ∷ bytes n (x / 256)

-- The number of n bytes that stands at a position.
unfoldable pub read_le : ℕ → List ℕ → ℕ → ℕ
read_le n s at = value (take n (drop at s))

-- A list with other bytes written at a position, the rest as it was.
unfoldable pub splice : List ℕ → ℕ → List ℕ → List ℕ
splice s at bs = take at s ++ bs ++ drop (at + length bs) s
