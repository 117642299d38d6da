-- What judging a run answers, and what it notes of the book.
-- Assumes nothing.
use Rattle.std.specs.Prelude.{List, ℕ, ◌+◌, leb, length, Err, Ok, Result}
use Rattle.refusals.specs.declared.Refusal.{Refusal}
use Rattle.std.proofs.lemmas.List.Edits.{sets}
use Rattle.refusals.specs.Refusals.{is_taken}
use Rattle.refusals.specs.declared.Refusal.TheVariants.{Table, Size}
use Rattle.refusals.specs.Refusals.{Verdict}
use Rattle.theory.specs.Sets.{pick}
use Rattle.table.specs.Table.{is_good, marked_in}
use Rattle.commands.specs.Book.{commands_of, noted_places}
use Rattle.protocol.specs.System.{Demands, granted, ◌else◌⨾◌, verdict}
use Rattle.runs.specs.Run.{max_run, header_size, book_size, book_of, for_run}
use Rattle.header.specs.declared.Run.{Run}

-- The first of the demands on a run: those on its size and its header, refusals 9 and 2.
abbrev pub for_header : List ℕ → Demands
for_header run =
    leb (length run) max_run else Size
    ⨾ leb header_size (length run) else Table
    ⨾ is_good (marked_in run) else Table
    ⨾ leb (header_size + book_size run) (length run) else Table
    ⨾ granted

-- What the header and the book of a run say.
abbrev pub said_by : List ℕ → Run
said_by run = record { rules = record { table = marked_in run; commands = length (commands_of (book_of run)) }; steps = header_size + book_size run }

-- What a run says where a verdict is taken, else the refusal.
abbrev pub opened_as : Verdict → Run → Result Run Refusal
opened_as (Ok _) r = Ok r
opened_as (Err x) r = Err x

-- What judging a run answers.
unfoldable pub judge_run : List ℕ → Result Run Refusal
judge_run run = opened_as (verdict (for_run run)) (said_by run)

-- The places after judging a run: the book is walked where size and header are taken.
unfoldable pub places_after : List ℕ → List ℕ → List ℕ
places_after run p = pick (is_taken (verdict (for_header run))) (sets p 0 (noted_places (book_of run))) p
