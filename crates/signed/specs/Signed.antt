-- Two's complement: which signed number a word stands for, and which word stands for a signed number.
-- Assumes nothing.
use Rattle.std.specs.Prelude.{ℕ, ℤ}
use Rattle.std.specs.Int.{w16, w32}
use Rattle.std.proofs.Common.{to_z, of_z}

-- The signed number that a word of 2 bytes stands for: n below 32,768, and n - 65,536 from there on.
abbrev pub signed16 : ℕ → ℤ
signed16 n = to_z w16 n

-- The same of 4 bytes: n below 2,147,483,648, and n - 4,294,967,296 from there on.
abbrev pub signed32 : ℕ → ℤ
signed32 n = to_z w32 n

-- The word of 2 bytes that stands for a signed number: z from 0 on, and z + 65,536 below 0.
abbrev pub word16 : ℤ → ℕ
word16 z = of_z w16 z

-- The same of 4 bytes: z from 0 on, and z + 4,294,967,296 below 0.
abbrev pub word32 : ℤ → ℕ
word32 z = of_z w32 z
