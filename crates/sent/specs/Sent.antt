-- What correct sites have sent, in bytes: one cell for each site and round, all rounds of a site together.
-- A cell has the number of its acknowledgments and a flag, 1 byte each, room for 64 sets of which that many are meant, and the check message's set.
-- The acknowledgments' sets come first, 512 bytes a cell, then the check messages' sets of all cells, 8 bytes each, so that each set stands at a multiple of 8.
-- Then come the counts of all cells and then all flags, so that what a start clears stands together.
-- Assumes nothing.
use Rattle.std.specs.Prelude.{◌≡◌, Bool, ◌&&◌, List, [], ◌∷◌, ◌++◌, ℕ, zero, suc, ◌+◌, ◌*◌, ◌-◌, ◌≤◌, ◌<◌, eqb, leb, ltb, length, replicate, None, Option, Some}
use Rattle.theory.specs.Sets as theory
use Rattle.theory.specs.Sets.{pick}
use Rattle.theory.specs.Lists.{nth}
use Rattle.wire.specs.Wire.{bytes, read_le, splice}
use Rattle.sets.specs.declared.Set.{Set}
use Rattle.sets.specs.Sets.{in_set, set_bytes, read_set, write_set}
use Rattle.table.specs.Table.{max_sites}

-- Messages are sent in rounds 1 to 33.
abbrev pub sent_rounds : ℕ
sent_rounds = 33

-- The acknowledgments of a site and round that there is room for.
abbrev pub max_acknowledgments : ℕ
max_acknowledgments = 64

-- The cells, one for each site and round: 363.
abbrev pub cells : ℕ
cells = max_sites * sent_rounds

-- The bytes of a cell's acknowledgments: 512.
abbrev pub cell_size : ℕ
cell_size = max_acknowledgments * set_bytes

-- The check messages' sets stand after the acknowledgments of all cells: from 185,856 on.
abbrev pub checks_offset : ℕ
checks_offset = cells * cell_size

-- The counts stand after all sets: from 188,760 on.
abbrev pub counts_offset : ℕ
counts_offset = checks_offset + cells * set_bytes

-- The flags stand after the counts: from 189,123 on.
abbrev pub flags_offset : ℕ
flags_offset = counts_offset + cells

-- The bytes of all that is sent: 189,486.
abbrev pub sent_size : ℕ
sent_size = flags_offset + cells

-- ---- places

-- The cell of site j and round r.
abbrev pub cell_of : ℕ → ℕ → ℕ
cell_of j r = j * sent_rounds + (r - 1)

-- The number of a cell's acknowledgments.
abbrev pub count_place : ℕ → ℕ
count_place k = counts_offset + k

-- Its flag: 1 where a check message was sent.
abbrev pub flag_place : ℕ → ℕ
flag_place k = flags_offset + k

-- Its acknowledgments' sets, oldest first, counted from 0.
abbrev pub set_place : ℕ → ℕ → ℕ
set_place k n = k * cell_size + n * set_bytes

-- Its check message's set.
abbrev pub check_place : ℕ → ℕ
check_place k = checks_offset + k * set_bytes

-- ---- what the bytes say

abbrev pub count_in : List ℕ → ℕ → ℕ
count_in b k = read_le 1 b (count_place k)

abbrev pub flag_in : List ℕ → ℕ → ℕ
flag_in b k = read_le 1 b (flag_place k)

-- The n sets that stand one after the other from a position on.
unfoldable pub sets_from : ℕ → ℕ → List ℕ → List theory.Set
sets_from zero at b = []
sets_from (suc n) at b = in_set (read_set b at) ∷ sets_from n (at + set_bytes) b

-- What a cell says.
unfoldable pub acks_in : List ℕ → ℕ → List theory.Set
acks_in b k = sets_from (count_in b k) (set_place k 0) b

unfoldable pub check_in : List ℕ → ℕ → Option theory.Set
check_in b k = pick (eqb (flag_in b k) 1) (Some (in_set (read_set b (check_place k)))) None

-- A site and a round that have a cell.
abbrev pub in_table : ℕ → ℕ → Bool
in_table j r = ltb j max_sites && (leb 1 r && leb r sent_rounds)

-- The acknowledgments that site j sent in round r, oldest first.
unfoldable pub acks_of : List ℕ → ℕ → ℕ → List theory.Set
acks_of b j r = pick (in_table j r) (acks_in b (cell_of j r)) []

-- The check message that site j sent in round r.
unfoldable pub checks_of : List ℕ → ℕ → ℕ → Option theory.Set
checks_of b j r = pick (in_table j r) (check_in b (cell_of j r)) None

-- Bytes that are what sites have sent.
pub record GoodSent (b : List ℕ) : Type 0 where
  pub size : length b ≡ sent_size
  pub counts : (k : ℕ) → k < cells → count_in b k ≤ max_acknowledgments
  pub flags : (k : ℕ) → k < cells → flag_in b k ≤ 1

-- ---- messages

-- A message as a set, where there is one.
abbrev pub said : Option Set → Option theory.Set
said (Some s) = Some (in_set s)
said None = None

-- The a-th of a list, a from 1: there is no 0-th.
abbrev pub numbered : List theory.Set → ℕ → Option theory.Set
numbered l zero = None
numbered l (suc n) = nth l n

-- The a-th acknowledgment of site j and round r, a from 1: the 0-th was never sent.
unfoldable pub acknowledgment_of : List ℕ → ℕ → ℕ → ℕ → Option Set
acknowledgment_of b j r a = pick (leb 1 a && leb a (count_in b (cell_of j r))) (Some (read_set b (set_place (cell_of j r) (a - 1)))) None

-- The check message of site j and round r.
unfoldable pub check_of : List ℕ → ℕ → ℕ → Option Set
check_of b j r = pick (eqb (flag_in b (cell_of j r)) 1) (Some (read_set b (check_place (cell_of j r)))) None

-- A message read: which one it is, and what it means.
pub record Read (m exact : Option Set) (meant : Option theory.Set) : Type 0 where
  pub answer : m ≡ exact
  pub means : said m ≡ meant

-- ---- writes

-- Nothing sent: all counts and flags are 0, the sets are as they were.
unfoldable pub cleared : List ℕ → List ℕ
cleared b = splice b counts_offset (replicate (2 * cells) 0)

-- A set written at one place and a byte at another.
unfoldable pub written : List ℕ → ℕ → Set → ℕ → ℕ → List ℕ
written b p s q x = splice (write_set b p s) q (bytes 1 x)

-- One acknowledgment more in a cell: the set after those that are there, and the number raised.
abbrev pub acknowledged_in : List ℕ → ℕ → Set → List ℕ
acknowledged_in b k s = written b (set_place k (count_in b k)) s (count_place k) (count_in b k + 1)

-- A check message in a cell: its set, and the flag.
abbrev pub checked_in : List ℕ → ℕ → Set → List ℕ
checked_in b k s = written b (check_place k) s (flag_place k) 1

-- One acknowledgment more, as the protocol sends it.
abbrev pub one_more : ℕ → ℕ → theory.Set → (ℕ → ℕ → List theory.Set) → ℕ → ℕ → List theory.Set
one_more i k x acks j r = pick (eqb j i && eqb r k) (acks j r ++ (x ∷ [])) (acks j r)

-- A check message, as the protocol sends it.
abbrev pub checked : ℕ → ℕ → theory.Set → (ℕ → ℕ → Option theory.Set) → ℕ → ℕ → Option theory.Set
checked i k x checks j r = pick (eqb j i && eqb r k) (Some x) (checks j r)

-- Bytes after a write: which they are, what they say, and that they are good.
pub record Holds (b exact : List ℕ) (sent_acks : ℕ → ℕ → List theory.Set) (sent_checks : ℕ → ℕ → Option theory.Set) : Type 0 where
  pub bytes : b ≡ exact
  pub acks : acks_of b ≡ sent_acks
  pub checks : checks_of b ≡ sent_checks
  pub good : GoodSent b
