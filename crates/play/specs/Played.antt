-- What playing the steps of a run promises: the lines written, and the world that the buffers hold.
-- Assumes nothing.
use Rattle.std.specs.Prelude.{◌≡◌, true, List, ℕ, ◌+◌, ◌*◌, ◌/◌, ◌≤◌, ◌<◌, length, Option}
use Rattle.steps.specs.declared.Step.{Step}
use Rattle.table.specs.declared.SiteTable.{SiteTable}
use Rattle.table.specs.declared.Rules.{Rules}
use Rattle.table.specs.Table.{max_sites, is_good}
use Rattle.register.specs.declared.Command.{Command}
use Rattle.commands.specs.declared.Book.{Book}
use Rattle.commands.specs.Book.{commands_of}
use Rattle.conflicts.specs.Conflicts.{conflict_rows}
use Rattle.protocol.specs.World.{World, start}
use Rattle.system.specs.Dash.{dash, last_round}
use Rattle.print.specs.declared.Text.{Text}
use Rattle.print.specs.Print.{HasRoom, Printed}
use Rattle.steps.specs.Steps.{steps_of}
use Rattle.runs.specs.Run.{max_run, step_lines, world_after}
use Rattle.entries.specs.Entries.{entry_size}
use Rattle.world.specs.World.{Buffers, PastRows, HoldsWorld}
use Rattle.world.specs.Parts.{lent}

-- The bytes of the line of a refused step, at most: five digits of its place, two of the refusal.
abbrev pub line_room : ℕ
line_room = 22

-- A step has 2 bytes at least, so a run has at most half as many steps as bytes.
abbrev pub lines_room : ℕ
lines_room = max_run / 2 * line_room

-- The log entries that there is room for: one more than two a site and round.
abbrev pub log_room : ℕ
log_room = max_sites * (last_round * 2) + 1

-- Buffers at the start of a run, with room for what the steps of the run write.
pub record Playable (rules : Rules) (book : Book) (rows steps : List ℕ) (text : Text) (b : Buffers) : Type 0 where
  pub good : is_good rules.table ≡ true
  pub short : length steps < max_run
  pub log : log_room * entry_size ≤ length b.log
  pub conflicts : rows ≡ conflict_rows book.bytes.now
  pub counted : book.len ≡ rules.commands
  pub room : HasRoom text lines_room
  pub world : HoldsWorld rules.table (commands_of book.bytes.now) b (start (dash rules.table (commands_of book.bytes.now)))

module _ (t : SiteTable) (book : List Command) (steps : List (Option Step)) where
  -- The world after the steps of a run.
  abbrev pub last_world : World (dash t book)
  last_world = world_after t book (start (dash t book)) steps

  -- Buffers of just their sizes hold that world: every site, as many log entries as it has, and what was sent.
  abbrev pub HoldsLast : List ℕ → List ℕ → List ℕ → Type 0
  HoldsLast sites log sent = HoldsWorld t book (lent sites log (length last_world.log) sent) last_world

-- Steps played from the start of a run: the lines of the refused ones were printed.
-- What is past the rows of the sites is as it was in `earlier`.
pub record PlayedAll (t : SiteTable) (book : List Command) (steps : List ℕ) (new old : Text) (earlier sites log sent : List ℕ) : Type 0 where
  pub lines : Printed new old (step_lines t book 1 (start (dash t book)) (steps_of steps))
  pub world : HoldsLast t book (steps_of steps) sites log sent
  pub room : new.end ≤ old.end + lines_room
  pub past : PastRows t.sites earlier sites
