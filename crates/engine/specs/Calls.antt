-- The calls that change a lent site: what each asks for, in document 01's order 9, 2, 1, 3, 4, 6, 7, and what it leaves of the site's bytes.
-- Assumes nothing.
use Rattle.std.specs.Prelude.{List, ◌++◌, ℕ, Bool, true, ◌&&◌, leb, ltb, length, drop}
use Rattle.theory.specs.Sets.{only}
use Rattle.refusals.specs.declared.Refusal.TheVariants.{Range, Size}
use Rattle.sets.specs.declared.Set.{Set}
use Rattle.sets.specs.Sets.{in_set, within_of}
use Rattle.table.specs.declared.Rules.{Rules}
use Rattle.table.specs.declared.SiteTable.{SiteTable}
use Rattle.table.specs.Table.{table_in}
use Rattle.register.specs.declared.Command.{Command}
use Rattle.commands.specs.Book.{commands_of}
use Rattle.protocol.specs.System.{Demands, granted, ◌else◌⨾◌, verdict, known}
use Rattle.protocol.specs.Site.{fresh, receive, hear, read_entry, next, next_in_range, for_log_read}
use Rattle.system.specs.Dash.{dash}
use Rattle.entries.specs.Entries.{log_of}
use Rattle.layout.specs.Layout.{site_size, site_rounds, row_at, span_with, encode}
use Rattle.message.specs.declared.Kind.{Kind}
use Rattle.message.specs.declared.Kind.TheVariants.{Acknowledgment, Check}
use Rattle.message.specs.declared.Message.{Message}
use Rattle.message.specs.Messages.{is_message, message_of}
use Rattle.site.specs.Steps.{Received, Heard}
use Rattle.judging.specs.Outcomes.{Outcome, answered, ◌then◌}
use Rattle.judging.specs.Judging.{system_of, span_in, site_in, with_site, for_site, for_site_and_message, for_site_and_log}

-- A fresh site is written, the same for every site table and book. It has no rows.
unfoldable pub fresh_call : SiteTable → List Command → (site : List ℕ) → Outcome (List ℕ)
fresh_call t book site =
    answered (verdict (leb site_size (length site) else Size ⨾ granted)) (encode t book 0 (fresh (dash t book)) ++ drop (row_at 0) site) site

-- ---- what the steps of a call promise

-- A message was taken in by its kind.
abbrev pub TookMessage : Kind → (sender round : ℕ) → Set → List ℕ → List ℕ → Type 0
TookMessage Acknowledgment sender round x b b' = Heard sender round x b b'
TookMessage Check sender round x b b' = Received x b b'

-- Sender, round and set of a message are in range.
abbrev pub message_in_range : Message → ℕ → Rules → Bool
message_in_range m sender rules =
    ltb sender rules.table.sites && leb 1 m.round && leb m.round site_rounds && within_of m.set rules.commands

-- ---- the calls

module _ (table book : List ℕ) where
  -- A command reached the site.
  unfoldable pub receive_command_call : (site : List ℕ) (command : ℕ) → Outcome (List ℕ)
  receive_command_call site command =
      answered (verdict (for_site table book true site then ltb command (length (commands_of book)) else Range ⨾ granted))
      (with_site table book (span_in site) site (receive (system_of table book) (only command) (site_in table book site)))
      site

  -- What a message makes of the site: an acknowledgment is kept in a table that has its round, a check message joins what was received.
  abbrev pub with_message : (site : List ℕ) (sender : ℕ) → Kind → (round : ℕ) → Set → List ℕ
  with_message site sender Acknowledgment round x =
      with_site table book (span_with (span_in site) round) site (hear (system_of table book) sender round (in_set x) (site_in table book site))
  with_message site sender Check round x = with_site table book (span_in site) site (receive (system_of table book) (in_set x) (site_in table book site))

  -- What is asked of the sender, the round and the set of a message of either kind.
  abbrev pub for_receive : (sender round : ℕ) → Set → Demands
  for_receive sender round x =
      ltb sender (table_in table).sites else Range
      ⨾ leb 1 round else Range
      ⨾ leb round site_rounds else Range
      ⨾ known (system_of table book) (in_set x) else Range
      ⨾ granted

  -- A message reached the site.
  unfoldable pub receive_call : (site : List ℕ) (sender : ℕ) (message : List ℕ) → Outcome (List ℕ)
  receive_call site sender message =
      answered
      (verdict (for_site_and_message table book (is_message message) site then for_receive sender (message_of message).round (message_of message).set))
      (with_message site sender (message_of message).kind (message_of message).round (message_of message).set)
      site

  -- The next log entry is read.
  unfoldable pub log_read_call : (site log : List ℕ) → Outcome (List ℕ)
  log_read_call site log =
      answered
      (verdict
      (for_site_and_log table book true site log
      then next_in_range (system_of table book) (next (system_of table book) (site_in table book site) (log_of log)) else Range
      ⨾ for_log_read (system_of table book) (site_in table book site) (log_of log)))
      (with_site table book (span_in site) site (read_entry (system_of table book) (site_in table book site)))
      site
