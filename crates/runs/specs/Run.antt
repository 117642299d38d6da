-- A run in bytes and what it prints: document 01, "A run and its print".
-- Assumes nothing.
use Rattle.std.specs.Prelude.{List, [], ◌∷◌, ◌++◌, ℕ, zero, suc, ◌+◌, leb, length, take, drop, Err, None, Ok, Option, Some}
use Rattle.steps.specs.declared.Step.{Step}
use Rattle.refusals.specs.Refusals.{number_of, is_taken}
use Rattle.refusals.specs.declared.Refusal.TheVariants.{Book, Table, Size, Form}
use Rattle.refusals.specs.Refusals.{Verdict}
use Rattle.wire.specs.Wire.{read_le}
use Rattle.theory.specs.Sets.{pick}
use Rattle.table.specs.declared.SiteTable.{SiteTable}
use Rattle.table.specs.Table.{is_good, marked_size, marked_in, faulty_count_of}
use Rattle.register.specs.declared.Command.{Command}
use Rattle.commands.specs.Book.{judge_book, commands_of}
use Rattle.protocol.specs.System.{Demands, granted, ◌else◌⨾◌, verdict, correct}
use Rattle.protocol.specs.World.{World, start, judge, step}
use Rattle.system.specs.Dash.{dash}
use Rattle.steps.specs.Steps.{steps_of}
use Rattle.steps.specs.Meaning.{meaning}
use Rattle.lines.specs.Lines.{run_line, step_line, refused_line, site_line}

-- A run has at most 60,000 bytes.
abbrev pub max_run : ℕ
max_run = 60000

-- The site table with its mask, and the book's length in 2 bytes.
abbrev pub header_size : ℕ
header_size = marked_size + 2

abbrev pub book_size : List ℕ → ℕ
book_size run = read_le 2 run marked_size

-- The book is the part of the run that starts at byte 6.
abbrev pub book_of : List ℕ → List ℕ
book_of run = take (book_size run) (drop header_size run)

-- What follows are steps.
abbrev pub step_bytes : List ℕ → List ℕ
step_bytes run = drop (header_size + book_size run) run

-- Whether size, header and book are taken: refusals 9, 2 and 1, in this order.
abbrev pub for_run : List ℕ → Demands
for_run run =
    leb (length run) max_run else Size
    ⨾ leb header_size (length run) else Table
    ⨾ is_good (marked_in run) else Table
    ⨾ leb (header_size + book_size run) (length run) else Table
    ⨾ is_taken (judge_book (book_of run)) else Book
    ⨾ granted

-- The line of a step, none where it is taken.
abbrev pub report : ℕ → Verdict → List ℕ
report s (Ok _) = []
report s (Err r) = step_line s (number_of r)

module _ (t : SiteTable) (book : List Command) where
  -- The lines of the refused steps, the first of the steps left being the s-th. Refusal 3 ends the reading.
  abbrev pub step_lines : ℕ → World (dash t book) → List (Option Step) → List ℕ
  step_lines s w [] = []
  step_lines s w (Some u ∷ rs) =
      report s (judge (dash t book) w (meaning u)) ++ step_lines (suc s) (step (dash t book) w (meaning u)) rs
  step_lines s w (None ∷ rs) = report s (Err Form)

  -- The world after the steps.
  abbrev pub world_after : World (dash t book) → List (Option Step) → World (dash t book)
  world_after w [] = w
  world_after w (Some u ∷ rs) = world_after (step (dash t book) w (meaning u)) rs
  world_after w (None ∷ rs) = w

  -- The lines of the correct sites below n, in order.
  abbrev pub site_lines : ℕ → World (dash t book) → List ℕ
  site_lines zero w = []
  site_lines (suc n) w =
      site_lines n w ++ pick (correct (dash t book) n) (site_line n (w.site n).round (w.site n).ledger.deliveries) []

  -- What a run prints that is not refused.
  abbrev pub played : List (Option Step) → List ℕ
  played rs =
      run_line t.sites (faulty_count_of t) (length book)
      ++ step_lines 1 (start (dash t book)) rs
      ++ site_lines t.sites (world_after (start (dash t book)) rs)

-- What a run prints, by the verdict on it.
abbrev pub print_as : List ℕ → Verdict → List ℕ
print_as run (Ok _) = played (marked_in run) (commands_of (book_of run)) (steps_of (step_bytes run))
print_as run (Err r) = refused_line (number_of r)

unfoldable pub print_of : List ℕ → List ℕ
print_of run = print_as run (verdict (for_run run))
