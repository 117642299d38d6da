-- Numbers in ASCII digits, and what a print leaves of a buffer.
-- Assumes nothing.
use Rattle.std.specs.Prelude.{cond, ◌≡◌, List, [], ◌∷◌, ◌++◌, ℕ, zero, suc, ◌+◌, ◌/◌, ◌%◌, leb, ◌≤◌, ℤ, pos, negsuc, length}
use Rattle.wire.specs.Wire.{splice}
use Rattle.print.specs.Ascii.{ascii}
use Rattle.print.specs.declared.Text.{Text}

-- The last n decimal digits of x, the highest first: `digits 2 7` is the text 07. The digit 0 is the byte 48.
unfoldable pub digits : ℕ → ℕ → List ℕ
digits zero x = []
digits (suc n) x = digits n (x / 10) ++ ((48 + x % 10) ∷ [])

-- How many digits x has, of which at most suc n are counted.
unfoldable pub width_to : ℕ → ℕ → ℕ
width_to zero x = 1
width_to (suc n) x = cond (leb x 9) 1 (suc (width_to n (x / 10)))

-- How many digits x has without leading zeros; 0 has one.
unfoldable pub width : ℕ → ℕ
width x = width_to x x

-- A number without leading zeros.
unfoldable pub decimal : ℕ → List ℕ
decimal x = digits (width x) x

-- A signed number: a minus sign where it is below 0, no plus sign.
unfoldable pub signed_decimal : ℤ → List ℕ
signed_decimal (pos n) = decimal n
signed_decimal (negsuc n) = ascii "-" ++ decimal (suc n)

-- A text was written at a position: `after` is the buffer with it, `past` the position after it.
pub record Wrote (after : List ℕ) (past : ℕ) (before : List ℕ) (at : ℕ) (text : List ℕ) : Type 0 where
  pub end : past ≡ at + length text
  pub bytes : after ≡ splice before at text

-- There is room for n bytes more.
abbrev pub HasRoom : Text → ℕ → Type 0
HasRoom t n = t.end + n ≤ length t.out.now

-- The text has more at its end; it is in the same buffer, which has its length still.
pub record Printed (new old : Text) (text : List ℕ) : Type 0 where
  pub same : new.out.ghost_name ≡ old.out.ghost_name
  pub wrote : Wrote new.out.now new.end old.out.now old.end text
  pub size : length new.out.now ≡ length old.out.now
  pub room : HasRoom new 0
