-- The call of a turn: what it asks for, in document 01's order 9, 2, 1, 3, 4, 6, 7, 8, and what it leaves of the site's bytes and of the buffers for what is sent.
-- Assumes nothing.
use Rattle.std.specs.Prelude.{◌≡◌, ◌&&◌, List, ℕ, leb, ltb, length, Result}
use Rattle.theory.specs.Sets.{pick}
use Rattle.wire.specs.Wire.{splice}
use Rattle.refusals.specs.declared.Refusal.{Refusal}
use Rattle.refusals.specs.declared.Refusal.TheVariants.{Range}
use Rattle.sets.specs.Sets.{capacity, set_of}
use Rattle.table.specs.declared.SiteTable.{SiteTable}
use Rattle.table.specs.Table.{table_in}
use Rattle.commands.specs.Book.{commands_of}
use Rattle.conflicts.specs.Conflicts.{conflict_rows}
use Rattle.protocol.specs.System.{System, ◌else◌⨾◌, verdict}
use Rattle.protocol.specs.Site.{Site, undelivered, unacknowledged, acknowledges, acknowledge, propose, for_turn}
use Rattle.entries.specs.declared.Entry.{Entry}
use Rattle.entries.specs.Entries.{entry_size, log_of, entry_bytes}
use Rattle.layout.specs.declared.Proposal.{Proposal}
use Rattle.layout.specs.Layout.{view}
use Rattle.layout.specs.Good.{Good}
use Rattle.site.specs.Steps.{Turned}
use Rattle.site.specs.declared.Turn.{Turn}
use Rattle.site.specs.declared.Turn.TheVariants as turn
use Rattle.message.specs.declared.Kind.TheVariants.{Acknowledgment, Check}
use Rattle.message.specs.declared.Message.{Message}
use Rattle.message.specs.Messages.{message_size, message_bytes}
use Rattle.judging.specs.Outcomes.{Outcome, answered, ◌then◌}
use Rattle.judging.specs.Judging.{system_of, span_in, site_in, with_site, for_site_and_log}

-- The buffers for what a turn sends, and all that it may write.
pub record Sendings : Type 0 where
  pub message : List ℕ
  pub entry : List ℕ

abbrev pub sendings : List ℕ → List ℕ → Sendings
sendings m e = record { message = m; entry = e }

pub record Buffers : Type 0 where
  pub site : List ℕ
  pub sent : Sendings

abbrev pub buffers : List ℕ → List ℕ → List ℕ → Buffers
buffers s m e = record { site = s; sent = sendings m e }

-- The turn of site number `own` with the bytes b, by the rows of a book and a whole log.
abbrev pub TurnTaken : (rows log : List ℕ) (own : ℕ) (b : List ℕ) → Result Turn Refusal → List ℕ → Type 0
TurnTaken rows log own b r b' =
    (t : SiteTable) (book : List ℕ) → rows ≡ conflict_rows book → Good t.sites (length (commands_of book)) b
    → Turned t (commands_of book) own (log_of log) (view t (commands_of book) b) b r b'

-- The message that a site's turn sends to all: an acknowledgment or a check message, with what is undelivered.
abbrev pub message_for : (S : System) → Site S → Message
message_for S s = record { kind = pick (acknowledges S s) Acknowledgment Check; round = s.round; set = set_of capacity (undelivered S s) }

-- The log entry of a site that proposes.
abbrev pub entry_for : (S : System) → ℕ → Site S → Entry
entry_for S own s = record { site = own; round = s.round; nc = set_of capacity s.pending; c = set_of capacity (unacknowledged S s) }

-- The buffers with what the turn of a site sends. An acknowledgment leaves that of the entry as it was.
abbrev pub sent_by : (S : System) → ℕ → Site S → (message entry : List ℕ) → Sendings
sent_by S own s message entry =
    sendings (splice message 0 (message_bytes (message_for S s))) (pick (acknowledges S s) entry (splice entry 0 (entry_bytes (entry_for S own s))))

-- What the turn makes of the site.
abbrev pub turned : (S : System) → Site S → Site S
turned S s = pick (acknowledges S s) (acknowledge S s) (propose S s)

-- The log entry of what was proposed in a round.
abbrev pub entry_of : (own round : ℕ) → Proposal → Entry
entry_of own round p = record { site = own; round = round; nc = p.nc; c = p.c }

-- The buffers with what is sent.
unfoldable pub sent : (own round : ℕ) → Turn → (message entry : List ℕ) → Sendings
sent own round (turn.Acknowledged x) message entry =
    sendings (splice message 0 (message_bytes (record { kind = Acknowledgment; round = round; set = x }))) entry
sent own round (turn.Proposed x p) message entry =
    sendings (splice message 0 (message_bytes (record { kind = Check; round = round; set = x }))) (splice entry 0 (entry_bytes (entry_of own round p)))

module _ (table book : List ℕ) where
  -- The turn of site number `own`.
  unfoldable pub turn_call : (site log : List ℕ) (own : ℕ) (message entry : List ℕ) → Outcome Buffers
  turn_call site log own message entry =
      answered
      (verdict
      (for_site_and_log table book (leb message_size (length message) && leb entry_size (length entry)) site log
      then ltb own (table_in table).sites else Range
      ⨾ for_turn (system_of table book) own (site_in table book site) (log_of log)))
      (record {
        site = with_site table book (span_in site) site (turned (system_of table book) (site_in table book site));
        sent = sent_by (system_of table book) own (site_in table book site) message entry;
      })
      (buffers site message entry)
