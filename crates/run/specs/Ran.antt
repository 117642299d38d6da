-- What a call with a run and lent buffers answers, and what it leaves of the buffer for the print.
-- Assumes nothing.
use Rattle.std.specs.Prelude.{Bool, ◌&&◌, List, ℕ, ◌+◌, ◌*◌, leb, length}
use Rattle.theory.specs.Sets.{pick}
use Rattle.wire.specs.Wire.{splice}
use Rattle.table.specs.Table.{max_sites}
use Rattle.layout.specs.Layout.{site_size}
use Rattle.entries.specs.Entries.{entry_size}
use Rattle.sent.specs.Sent.{sent_size}
use Rattle.play.specs.Played.{lines_room, log_room}
use Rattle.report.specs.Report as report
use Rattle.runs.specs.Run.{print_of}

-- ---- the buffers

-- The bytes of the first line, at most.
abbrev pub run_line_room : ℕ
run_line_room = 33

-- The bytes of a print, at most: the first line, 30,000 lines of refused steps, 11 lines of sites. 670,890.
abbrev pub print_room : ℕ
print_room = run_line_room + lines_room + max_sites * report.line_room

-- The bytes of 11 sites: 38,896.
abbrev pub sites_bytes : ℕ
sites_bytes = max_sites * site_size

-- The bytes of 705 log entries: 12,690.
abbrev pub log_bytes : ℕ
log_bytes = log_room * entry_size

-- What a run works on: buffers for the sites, the log and what is sent.
pub record Working : Type 0 where
  pub sites : List ℕ
  pub log : List ℕ
  pub sent : List ℕ

abbrev pub working : List ℕ → List ℕ → List ℕ → Working
working sites log sent = record { sites = sites; log = log; sent = sent }

-- Whether buffers of these sizes have room for any run, and for its print.
abbrev pub has_room : ℕ → ℕ → ℕ → ℕ → Bool
has_room sites log sent out = leb sites_bytes sites && leb log_bytes log && leb sent_size sent && leb print_room out

abbrev pub is_roomy : Working → List ℕ → Bool
is_roomy w out = has_room (length w.sites) (length w.log) (length w.sent) (length out)

-- ---- the answer and the print

-- The bytes written, and the buffer for the print after the call.
pub record Ran : Type 0 where
  pub answer : ℕ
  pub out : List ℕ

abbrev pub ran : ℕ → List ℕ → Ran
ran k out = record { answer = k; out = out }

-- The print stands at the start of the buffer, and the rest is as it was. Where a buffer is too short nothing is written. What the working memory holds does not matter.
unfoldable pub run_of : List ℕ → Working → List ℕ → Ran
run_of run w out = pick (is_roomy w out) (ran (length (print_of run)) (splice out 0 (print_of run))) (ran 0 out)
