-- Document 01's whole case, from its bytes to its print, and refusals of the header, the book and the steps, by computation.
-- Assumes nothing.
use Rattle.std.specs.Prelude.{◌≡◌, refl, List, [], ◌∷◌, ℕ}
use Rattle.wire.specs.Wire.{read_le, value}
use Rattle.theory.specs.Sets.{all, any, count, members}
use Rattle.sets.specs.Sets.{has, read_set}
use Rattle.table.specs.Table.{good_table}
use Rattle.commands.specs.Book.{judge_book, commands_of, read_command, read_kind}
use Rattle.protocol.specs.Recovery.{entries, decide_from}
use Rattle.steps.specs.Steps.{uncut, read_as, read_step, steps_of}
use Rattle.print.specs.Ascii.{ascii}
use Rattle.print.specs.Print.{digits, width_to, width, decimal, signed_decimal}
use Rattle.lines.specs.Lines.{run_line, step_line, refused_line, site_head, delivery_text, site_line}
use Rattle.runs.specs.Run.{print_of}

-- One site, FIT and READ of bike 5, five steps.
abbrev whole_case : List ℕ
whole_case =
    1 ∷ 0 ∷ 0 ∷ 0 ∷ 12 ∷ 0 ∷ 2 ∷ 5 ∷ 7 ∷ 0 ∷ 0 ∷ 0 ∷ 176 ∷ 54 ∷ 0 ∷ 0 ∷ 3 ∷ 5
    ∷ 1 ∷ 0 ∷ 0 ∷ 1 ∷ 0 ∷ 1 ∷ 7 ∷ 0 ∷ 9 ∷ 0 ∷ 10 ∷ 0 ∷ []

whole_case_lem : print_of whole_case ≡ ascii "run 1 sites 0 liars 2 commands\nsite 00 round 02 delivered 00=0 01=14000\n"
unfolding print_of good_table read_le value has read_set all any count members entries decide_from judge_book commands_of read_command read_kind steps_of read_step read_as uncut run_line step_line site_line site_head delivery_text signed_decimal decimal width width_to digits
whole_case_lem = refl

-- The empty input is a cut header.
empty_input : print_of [] ≡ ascii "refused 2\n"
unfolding print_of refused_line decimal width width_to digits
empty_input = refl

-- A faulty site, a step that is not enabled, and a code that is unknown.
turned_down : print_of (6 ∷ 1 ∷ 32 ∷ 0 ∷ 2 ∷ 0 ∷ 3 ∷ 5 ∷ 7 ∷ 5 ∷ 7 ∷ 4 ∷ 11 ∷ 0 ∷ 7 ∷ 0 ∷ [])
    ≡ ascii "run 6 sites 1 liars 1 commands\nstep 1 refused 5\nstep 2 refused 6\nstep 3 refused 3\nsite 00 round 01 delivered\nsite 01 round 01 delivered\nsite 02 round 01 delivered\nsite 03 round 01 delivered\nsite 04 round 01 delivered\n"
unfolding print_of good_table read_le value has read_set all any count members entries decide_from judge_book commands_of read_command read_kind steps_of read_step read_as uncut run_line step_line site_line site_head delivery_text signed_decimal decimal width width_to digits
turned_down = refl
