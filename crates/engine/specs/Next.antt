-- What is looked at of the entry that a site reads next.
-- Assumes nothing.
use Rattle.std.specs.Prelude.{Bool, true, false, List, ℕ, leb, ltb}
use Rattle.theory.specs.Sets.{pick}
use Rattle.protocol.specs.Recovery.{entries}
use Rattle.entries.specs.Entries.{entry_of, log_to, in_range_of}
use Rattle.judging.specs.Judging.{entries_in}

-- The entry at a position, where there is one, is in range.
unfoldable pub next_in_range_of : List ℕ → (position sites commands : ℕ) → Bool
next_in_range_of log position sites commands = pick (ltb position (entries_in log)) (in_range_of sites commands (entry_of log position)) true

-- It is a third of its site and round.
unfoldable pub third_of : List ℕ → (position : ℕ) → Bool
third_of log position =
    pick (ltb position (entries_in log)) (leb 2 (entries (entry_of log position).site (entry_of log position).round (log_to log position))) false
