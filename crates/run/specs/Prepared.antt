-- What a run that is not refused is played on.
-- Assumes nothing.
use Rattle.std.specs.Prelude.{◌≡◌, true, List, ℕ, ◌*◌, ◌≤◌, ◌<◌, length}
use Rattle.table.specs.declared.SiteTable.{SiteTable}
use Rattle.table.specs.Table.{is_good}
use Rattle.print.specs.declared.Text.{Text}
use Rattle.print.specs.Print.{HasRoom}
use Rattle.runs.specs.Run.{max_run}
use Rattle.layout.specs.Layout.{site_size}
use Rattle.sent.specs.Sent.{sent_size}
use Rattle.run.specs.Ran.{print_room, sites_bytes, log_bytes, Working}

-- A run's site table and steps, and room for what it prints.
pub record Playable (t : SiteTable) (steps : List ℕ) (text : Text) : Type 0 where
  pub good : is_good t ≡ true
  pub short : length steps < max_run
  pub room : HasRoom text print_room

-- Working memory with room for any run.
pub record Roomy (w : Working) : Type 0 where
  pub sites : sites_bytes ≤ length w.sites
  pub log : log_bytes ≤ length w.log
  pub sent : sent_size ≤ length w.sent

-- Working memory of just the sizes that a run with a site table needs.
pub record Sized (t : SiteTable) (w : Working) : Type 0 where
  pub sites : length w.sites ≡ t.sites * site_size
  pub log : length w.log ≡ log_bytes
  pub sent : length w.sent ≡ sent_size
