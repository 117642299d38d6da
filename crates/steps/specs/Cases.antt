-- The steps of document 01's whole case, and bytes that cannot be read.
-- Assumes nothing.
use Rattle.std.specs.Prelude.{◌≡◌, refl, [], ◌∷◌, None, Some}
use Rattle.steps.specs.declared.Step.TheVariants.{Command, Turn, LogRead, RoundEnd}
use Rattle.steps.specs.Steps.{uncut, read_as, read_step, steps_of}

whole_case_lem : steps_of (1 ∷ 0 ∷ 0 ∷ 1 ∷ 0 ∷ 1 ∷ 7 ∷ 0 ∷ 9 ∷ 0 ∷ 10 ∷ 0 ∷ [])
    ≡ Some (Command 0 0) ∷ Some (Command 0 1) ∷ Some (Turn 0) ∷ Some (LogRead 0) ∷ Some (RoundEnd 0) ∷ []
unfolding steps_of read_step read_as uncut
whole_case_lem = refl

-- Nothing is read after a code that is unknown.
unknown_code : steps_of (7 ∷ 0 ∷ 11 ∷ 0 ∷ 7 ∷ 0 ∷ []) ≡ Some (Turn 0) ∷ None ∷ []
unfolding steps_of read_step read_as uncut
unknown_code = refl

cut_operands : steps_of (7 ∷ 0 ∷ 1 ∷ 0 ∷ []) ≡ Some (Turn 0) ∷ None ∷ []
unfolding steps_of read_step read_as uncut
cut_operands = refl
