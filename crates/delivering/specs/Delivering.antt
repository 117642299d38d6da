-- The calls that deliver: what each asks for, in document 01's order 9, 2, 1, 3, 4, 6 and at last 9 for a full record, and what it leaves of the site's bytes.
-- Assumes nothing.
use Rattle.std.specs.Prelude.{true, List, ℕ, ltb, length}
use Rattle.refusals.specs.declared.Refusal.TheVariants.{Range}
use Rattle.commands.specs.Book.{commands_of}
use Rattle.protocol.specs.System.{◌else◌⨾◌, verdict}
use Rattle.protocol.specs.Site.{for_fast_delivery, deliver_fast, for_round_end, finish, tally_or, decision}
use Rattle.entries.specs.Entries.{log_of}
use Rattle.judging.specs.Outcomes.{Outcome, answered, ◌then◌}
use Rattle.judging.specs.Judging.{system_of, span_in, site_in, with_site, for_site, for_site_and_log}

module _ (table book : List ℕ) where
  -- A command is delivered fast.
  unfoldable pub fast_delivery_call : (site : List ℕ) (command : ℕ) → Outcome (List ℕ)
  fast_delivery_call site command =
      answered
      (verdict
      (for_site table book true site
      then ltb command (length (commands_of book)) else Range
      ⨾ for_fast_delivery (system_of table book) command (site_in table book site)))
      (with_site table book (span_in site) site (deliver_fast (system_of table book) command (site_in table book site)))
      site

  -- The site's round ends.
  unfoldable pub round_end_call : (site log : List ℕ) → Outcome (List ℕ)
  round_end_call site log =
      answered
      (verdict (for_site_and_log table book true site log then for_round_end (system_of table book) (site_in table book site) (log_of log)))
      (with_site table book (span_in site) site
      (finish (system_of table book) (tally_or (decision (system_of table book) (site_in table book site) (log_of log)))
      (site_in table book site)))
      site
