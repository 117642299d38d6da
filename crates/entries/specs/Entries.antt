-- The common log in bytes (document 01, "How a round is decided"): what an entry's bytes say, the log that they are, and which entries are good.
-- Assumes nothing.
use Rattle.std.specs.Prelude.{◌≡◌, Bool, ◌&&◌, List, [], ◌∷◌, ◌++◌, ℕ, zero, suc, ◌+◌, ◌*◌, ◌/◌, ◌<◌, eqb, leb, ltb, length, get_or}
use Rattle.theory.specs.Sets.{one, all}
use Rattle.wire.specs.Wire.{read_le, bytes, splice}
use Rattle.sets.specs.Sets.{in_set, within_of, set_bytes, read_set}
use Rattle.table.specs.Table.{max_sites}
use Rattle.protocol.specs.Recovery as recovery
use Rattle.system.specs.Dash.{last_round}
use Rattle.entries.specs.declared.Entry.{Entry}

-- The bytes of an entry: site and round of 1 byte each, NC and C of 8.
abbrev pub entry_size : ℕ
entry_size = 18

-- The entry whose bytes start at a position.
unfoldable pub read_entry : List ℕ → ℕ → Entry
read_entry b at = record { site = read_le 1 b at; round = read_le 1 b (at + 1); nc = read_set b (at + 2); c = read_set b (at + 10) }

-- The k-th entry.
abbrev pub entry_of : List ℕ → ℕ → Entry
entry_of b k = read_entry b (k * entry_size)

-- The bytes of an entry.
unfoldable pub entry_bytes : Entry → List ℕ
entry_bytes e = bytes 1 e.site ++ bytes 1 e.round ++ bytes set_bytes e.nc.bits ++ bytes set_bytes e.c.bits

-- Bytes with an entry written as the k-th.
unfoldable pub write_entry : List ℕ → ℕ → Entry → List ℕ
write_entry b k e = splice b (k * entry_size) (entry_bytes e)

-- An entry as the protocol knows it.
abbrev pub view_entry : Entry → recovery.Entry
view_entry e = record { site = e.site; round = e.round; nc = in_set e.nc; c = in_set e.c }

-- The first k entries.
unfoldable pub log_to : List ℕ → ℕ → recovery.Log
log_to b zero = []
log_to b (suc k) = log_to b k ++ (view_entry (entry_of b k) ∷ [])

-- The whole entries of bytes.
unfoldable pub log_of : List ℕ → recovery.Log
log_of b = log_to b (length b / entry_size)

-- 1 where the k-th entry is one of a site in a round, else 0.
abbrev pub one_of : List ℕ → ℕ → ℕ → ℕ → ℕ
one_of b k site round = one (eqb (entry_of b k).site site && eqb (entry_of b k).round round)

-- Site, round and sets of an entry are in range.
abbrev pub in_range_of : ℕ → ℕ → Entry → Bool
in_range_of sites commands e =
    ltb e.site sites && leb 1 e.round && leb e.round last_round && within_of e.nc commands && within_of e.c commands

-- The k-th entry is no third of its site and round among those before it.
abbrev pub no_third_at : List ℕ → ℕ → Bool
no_third_at b k = ltb (recovery.entries (entry_of b k).site (entry_of b k).round (log_to b k)) 2

-- The k-th entry is in range and no third.
abbrev pub good_at : List ℕ → ℕ → ℕ → ℕ → Bool
good_at b sites commands k = in_range_of sites commands (entry_of b k) && no_third_at b k

-- So are all of the first k.
abbrev pub good_to : List ℕ → ℕ → ℕ → ℕ → Bool
good_to b sites commands k = all k (good_at b sites commands)

-- The cells of a table of counts, one for each site and round.
abbrev pub cells : ℕ
cells = 352

-- A table of counts: how many of the first k entries each site has in each round.
pub record Counting (b : List ℕ) (k : ℕ) (counts : List ℕ) : Type 0 where
  pub size : length counts ≡ cells
  pub holds : (j r : ℕ) → j < max_sites → r < last_round → get_or counts (j * last_round + r) 0 ≡ recovery.entries j (suc r) (log_to b k)
