-- The numbers of the refusals: document 01, "When a sheet or step is turned down".
-- Assumes nothing.
use Rattle.std.specs.Prelude.{Bool, true, false, ℕ, Result, Ok, Err, ⊤}
use Rattle.refusals.specs.declared.Refusal.{Refusal}
use Rattle.refusals.specs.declared.Refusal.TheVariants.{Book, Table, Form, Range, Role, Disabled, ThirdEntry, LastRound, Size, Full}

-- The number of each cause, as in the table.
abbrev pub number_of : Refusal → ℕ
number_of Book = 1
number_of Table = 2
number_of Form = 3
number_of Range = 4
number_of Role = 5
number_of Disabled = 6
number_of ThirdEntry = 7
number_of LastRound = 8
number_of Size = 9
number_of Full = 9

-- What a judge says: a step is taken, or refused.
abbrev pub Verdict : Type 0
Verdict = Result ⊤ Refusal

abbrev pub accepted : Verdict
accepted = Ok tt

abbrev pub is_taken : Verdict → Bool
is_taken (Ok _) = true
is_taken (Err r) = false

-- The new state where a step is taken, else the old.
abbrev pub settled : {A : Type 0} → Verdict → A → A → A
settled (Ok _) new old = new
settled (Err r) new old = old

-- A call that answers one number answers 0 where the input was taken.
abbrev pub code_of : Verdict → ℕ
code_of (Ok _) = 0
code_of (Err r) = number_of r

-- The rank of each cause in the order 9, 2, 1, 3, 4, 5, 6, 7, 8: of several causes the one with the lowest rank refuses.
-- A full record of deliveries is a cause only where a step would else be carried out: it comes last.
abbrev pub rank : Refusal → ℕ
rank Size = 0
rank Table = 1
rank Book = 2
rank Form = 3
rank Range = 4
rank Role = 5
rank Disabled = 6
rank ThirdEntry = 7
rank LastRound = 8
rank Full = 9
