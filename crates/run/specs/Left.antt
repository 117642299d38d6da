-- What a call with a run leaves of the working memory that it is lent.
-- Assumes nothing.
use Rattle.std.specs.Prelude.{◌≡◌, Bool, true, false, ◌&&◌, List, ℕ, ◌*◌, ◌<◌, take, drop, Option}
use Rattle.steps.specs.declared.Step.{Step}
use Rattle.refusals.specs.Refusals.{is_taken}
use Rattle.table.specs.declared.SiteTable.{SiteTable}
use Rattle.register.specs.declared.Command.{Command}
use Rattle.commands.specs.Book.{commands_of}
use Rattle.protocol.specs.System.{verdict}
use Rattle.steps.specs.Steps.{steps_of}
use Rattle.table.specs.Table.{marked_in}
use Rattle.runs.specs.Run.{book_of, step_bytes, for_run}
use Rattle.wire.specs.Wire.{read_le}
use Rattle.layout.specs.Layout.{site_at, site_size, span_place, row_at}
use Rattle.sent.specs.Sent.{sent_size}
use Rattle.play.specs.Played.{HoldsLast}
use Rattle.run.specs.Ran.{Working, log_bytes, is_roomy}

-- What is past the rows of each site of the table is as it was.
abbrev pub PastLeft : SiteTable → (before after : List ℕ) → Type 0
PastLeft t before after =
    (i : ℕ) → i < t.sites
    → drop (row_at (read_le 2 (site_at after i) span_place)) (site_at after i) ≡ drop (row_at (read_le 2 (site_at after i) span_place)) (site_at before i)

module _ (t : SiteTable) (book : List Command) (steps : List (Option Step)) where
  -- The first bytes of the working memory hold the last world, and what is past them and past the rows of each site is as it was.
  pub record Worked (before after : Working) : Type 0 where
    pub world : HoldsLast t book steps (take (t.sites * site_size) after.sites) (take log_bytes after.log) (take sent_size after.sent)
    pub rows : PastLeft t (take (t.sites * site_size) before.sites) (take (t.sites * site_size) after.sites)
    pub sites : drop (t.sites * site_size) after.sites ≡ drop (t.sites * site_size) before.sites
    pub log : drop log_bytes after.log ≡ drop log_bytes before.log
    pub sent : drop sent_size after.sent ≡ drop sent_size before.sent

-- A run is played where no buffer is too short and the run is not refused.
abbrev pub is_played : List ℕ → Working → List ℕ → Bool
is_played run w out = is_roomy w out && is_taken (verdict (for_run run))

-- The working memory after a call: as it was, or with the world that the run has led to.
pub record Left (run : List ℕ) (before : Working) (out : List ℕ) (after : Working) : Type 0 where
  pub kept : is_played run before out ≡ false → after ≡ before
  pub worked : is_played run before out ≡ true → Worked (marked_in run) (commands_of (book_of run)) (steps_of (step_bytes run)) before after
