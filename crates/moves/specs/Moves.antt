-- What the moves of a correct site ask of the buffers and promise: a turn, and a log read.
-- Assumes nothing.
use Rattle.std.specs.Prelude.{◌≡◌, true, List, ℕ, ◌+◌, ◌*◌, ◌≤◌, length, Result}
use Rattle.refusals.specs.declared.Refusal.{Refusal}
use Rattle.refusals.specs.Refusals.{Verdict}
use Rattle.table.specs.declared.SiteTable.{SiteTable}
use Rattle.table.specs.Table.{is_good}
use Rattle.register.specs.declared.Command.{Command}
use Rattle.commands.specs.Book.{commands_of}
use Rattle.conflicts.specs.Conflicts.{conflict_rows}
use Rattle.protocol.specs.World.{Step, log_read, step}
use Rattle.system.specs.Dash.{dash}
use Rattle.layout.specs.Layout.{view}
use Rattle.layout.specs.Good.{Good}
use Rattle.site.specs.declared.Turn.{Turn}
use Rattle.site.specs.Steps.{Turned}
use Rattle.entries.specs.Entries.{entry_size, log_to}
use Rattle.rounds.specs.Rounds.{Kept}
use Rattle.rounds.specs.declared.Rounds.{Rounds}
use Rattle.sent.specs.Sent.{max_acknowledgments}
use Rattle.world.specs.World.{Buffers, GoodWorld, world_of, Outcome}
use Rattle.world.specs.Parts.{lent}

-- What a step asks of the buffers, at a site table and the bytes of a book: that they are good, and that there is room for what it writes.
pub record Ready (t : SiteTable) (book rows : List ℕ) (b : Buffers) (u : Step) : Type 0 where
  pub table : is_good t ≡ true
  pub conflicts : rows ≡ conflict_rows book
  pub world : GoodWorld t (length (commands_of book)) b
  -- room for one log entry more,
  pub room : (b.entries + 1) * entry_size ≤ length b.log
  -- and for the acknowledgments that there are after the step
  pub acks : (j r : ℕ) → length ((step (dash t (commands_of book)) (world_of t (commands_of book) b) u).acks j r) ≤ max_acknowledgments

-- The turn of site i with the bytes b, by the rows of a book and what is kept of a log.
abbrev pub TurnedBy : List ℕ → Rounds → ℕ → Result Turn Refusal → List ℕ → List ℕ → Type 0
TurnedBy rows kept i r b after =
    (t : SiteTable) (book log : List ℕ) → rows ≡ conflict_rows book → Kept t rows log kept → Good t.sites (length (commands_of book)) b
    → Turned t (commands_of book) i (log_to log kept.entries) (view t (commands_of book) b) b r after

-- A log read, which changes a site only, of any log with so many entries.
abbrev pub LogRead : SiteTable → ℕ → ℕ → List ℕ → Verdict → List ℕ → Type 0
LogRead t i entries sites v after =
    (book : List Command) (log sent : List ℕ) → GoodWorld t (length book) (lent sites log entries sent)
    → Outcome t book (log_read i) (lent sites log entries sent) v (lent after log entries sent)
