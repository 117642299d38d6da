-- What the steps that deliver ask of the sites and promise: a fast delivery, and a round end.
-- Assumes nothing.
use Rattle.std.specs.Prelude.{◌≡◌, true, List, ℕ, ◌*◌, ◌≤◌, ◌<◌, length, get_or}
use Rattle.refusals.specs.Refusals.{Verdict}
use Rattle.table.specs.declared.SiteTable.{SiteTable}
use Rattle.register.specs.declared.Command.{Command}
use Rattle.commands.specs.Book.{commands_of}
use Rattle.conflicts.specs.Conflicts.{conflict_rows}
use Rattle.protocol.specs.World.{Step}
use Rattle.layout.specs.Layout.{site_size, head_of, site_at}
use Rattle.layout.specs.Good.{Good}
use Rattle.entries.specs.Entries.{entry_size, entry_of, in_range_of}
use Rattle.rounds.specs.Rounds.{Kept}
use Rattle.rounds.specs.declared.Rounds.{Rounds}
use Rattle.world.specs.World.{GoodWorld, Outcome}
use Rattle.world.specs.Parts.{lent}

-- Good sites, for a site table and so many commands.
pub record GoodSites (t : SiteTable) (commands : ℕ) (sites : List ℕ) : Type 0 where
  pub size : length sites ≡ t.sites * site_size
  pub site : (i : ℕ) → i < t.sites → Good t.sites commands (site_at sites i)

-- A good log of so many entries, of which no site has read more.
pub record GoodLog (t : SiteTable) (commands : ℕ) (sites log : List ℕ) (entries : ℕ) : Type 0 where
  pub room : entries * entry_size ≤ length log
  pub logged : (k : ℕ) → k < entries → in_range_of t.sites commands (entry_of log k) ≡ true
  pub position : (i : ℕ) → i < t.sites → (head_of (site_at sites i)).position ≤ entries

-- A good log in bytes, and what is kept of it by the conflicts of a book.
pub record KeptLog (t : SiteTable) (book sites log : List ℕ) (kept : Rounds) : Type 0 where
  pub good : GoodLog t (length (commands_of book)) sites log kept.entries
  pub bytes : (k : ℕ) → get_or log k 0 < 256
  pub rounds : Kept t (conflict_rows book) log kept

-- A step that changes sites only, by the log.
abbrev pub Closed : SiteTable → List Command → Step → List ℕ → ℕ → List ℕ → Verdict → List ℕ → Type 0
Closed t book u log entries sites v after =
    (sent : List ℕ) → GoodWorld t (length book) (lent sites log entries sent)
    → Outcome t book u (lent sites log entries sent) v (lent after log entries sent)
