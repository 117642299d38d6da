-- What a run prints are the deliveries and answers of the sites that demand 3 speaks of.
-- Rests on Demand3 and the definition of the print.
use Rattle.std.specs.Prelude.{◌≡◌, refl, true, false, List, [], ◌∷◌, ◌++◌, ℕ, length, Err, None, Ok, Option, Some}
use Rattle.std.proofs.Common.{◌∙◌, ap}
use Rattle.refusals.specs.Refusals.{is_taken, accepted}
use Rattle.refusals.specs.Refusals.{Verdict}
use Rattle.theory.specs.Counting.{never}
use Rattle.table.specs.declared.SiteTable.{SiteTable}
use Rattle.table.specs.Table.{faulty_count_of, marked_in}
use Rattle.register.specs.declared.Command.{Command}
use Rattle.commands.specs.Book.{judge_book, commands_of}
use Rattle.protocol.specs.System.{verdict}
use Rattle.protocol.specs.World.{World, Step, start, step, play}
use Rattle.protocol.specs.Steps.{met}
use Rattle.protocol.specs.CommonSequence.{CommonSequence}
use Rattle.system.specs.Dash.{dash}
use Rattle.steps.specs.declared.Step as steps
use Rattle.steps.specs.Steps.{steps_of}
use Rattle.steps.specs.Meaning.{meaning}
use Rattle.lines.specs.Lines.{run_line}
use Rattle.runs.specs.Run.{book_of, step_bytes, for_run, step_lines, world_after, site_lines, print_as, print_of}
use Rattle.theorem.specs.Demand3.{demand3}

-- The steps of a run, up to one that cannot be read.
abbrev pub read_steps : List (Option steps.Step) → List Step
read_steps [] = []
read_steps (Some u ∷ rs) = meaning u ∷ read_steps rs
read_steps (None ∷ rs) = []

-- The world that is printed is the one that these steps lead to.
pub printed_world : (t : SiteTable) (book : List Command) (w : World (dash t book)) (rs : List (Option steps.Step)) → world_after t book w rs ≡ play (dash t book) w (read_steps rs)
printed_world t book w [] = refl
printed_world t book w (Some u ∷ rs) = printed_world t book (step (dash t book) w (meaning u)) rs
printed_world t book w (None ∷ rs) = refl

judged : (v : Verdict) → is_taken v ≡ true → v ≡ accepted
judged (Ok _) h = refl
judged (Err r) h = absurd (never false h refl)

-- A run that is not refused: what it prints, and that its correct sites have a common sequence.
pub record Explained (run : List ℕ) : Type 0 where
  pub text :
      print_of run
      ≡ run_line (marked_in run).sites (faulty_count_of (marked_in run)) (length (commands_of (book_of run)))
      ++ step_lines (marked_in run) (commands_of (book_of run)) 1 (start (dash (marked_in run) (commands_of (book_of run)))) (steps_of (step_bytes run))
      ++ site_lines (marked_in run) (commands_of (book_of run)) (marked_in run).sites
      (play (dash (marked_in run) (commands_of (book_of run))) (start (dash (marked_in run) (commands_of (book_of run)))) (read_steps (steps_of (step_bytes run))))
  pub sequence : CommonSequence (dash (marked_in run) (commands_of (book_of run))) (read_steps (steps_of (step_bytes run)))

pub printed : (run : List ℕ) → verdict (for_run run) ≡ accepted → Explained run
unfolding print_of
printed run h =
    let m = met (for_run run) h in
    record {
      text =
          ap (print_as run) h
          ∙ ap
          (λ (w : World (dash (marked_in run) (commands_of (book_of run)))).
          run_line (marked_in run).sites (faulty_count_of (marked_in run)) (length (commands_of (book_of run)))
          ++ step_lines (marked_in run) (commands_of (book_of run)) 1 (start (dash (marked_in run) (commands_of (book_of run)))) (steps_of (step_bytes run))
          ++ site_lines (marked_in run) (commands_of (book_of run)) (marked_in run).sites w)
          (printed_world (marked_in run) (commands_of (book_of run)) (start (dash (marked_in run) (commands_of (book_of run)))) (steps_of (step_bytes run)));
      sequence = demand3 (marked_in run) (book_of run) m.1.1.0 (judged (judge_book (book_of run)) m.1.1.1.1.0) (read_steps (steps_of (step_bytes run)));
    }
