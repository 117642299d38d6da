-- Which commands of a book conflict (document 01: clash), as one set a command.
-- Assumes nothing.
use Rattle.std.specs.Prelude.{◌≡◌, Bool, true, ◌&&◌, List, [], ◌∷◌, ℕ, zero, suc, ◌<◌, eqb, ltb, length, get_or, set, drop}
use Rattle.theory.specs.Sets.{pick}
use Rattle.sets.specs.declared.Set.{Set}
use Rattle.sets.specs.Sets.{capacity, set_of, empty_of, with_of, without_of}
use Rattle.register.specs.declared.Command.{Command}
use Rattle.register.specs.declared.Command.TheVariants.{Add, Fit, Read, Trim}
use Rattle.register.specs.Register.{bikes, bike_of, is_add, is_read, conflict_at}
use Rattle.commands.specs.Book.{max_commands, commands_of, command_of, Placed}
use Rattle.conflicts.specs.declared.BikeSets.{BikeSets}

-- The commands at two places conflict: both are in the book, the places differ, and the commands conflict.
unfoldable pub conflict_in : List ℕ → ℕ → ℕ → Bool
conflict_in s m k = ltb m (length (commands_of s)) && (ltb k (length (commands_of s)) && conflict_at (command_of s) m k)

-- The commands that conflict with the m-th.
unfoldable pub conflict_row : List ℕ → ℕ → Set
conflict_row s m = set_of capacity (conflict_in s m)

-- The words of n rows from the m-th on.
unfoldable pub rows_from : List ℕ → ℕ → ℕ → List ℕ
rows_from s zero m = []
rows_from s (suc n) m = (conflict_row s m).bits ∷ rows_from s n (suc m)

-- The words of all 64 rows.
unfoldable pub conflict_rows : List ℕ → List ℕ
conflict_rows s = rows_from s max_commands 0

-- The rows in the words noted of a book: they come after 64 words for the places of its commands.
abbrev pub rows_in : List ℕ → List ℕ
rows_in noted = drop max_commands noted

-- The places of a book's commands and the rows of conflicts are noted.
pub record Noted (book noted : List ℕ) : Type 0 where
  pub places : Placed book noted
  pub rows : rows_in noted ≡ conflict_rows book

-- ---- how they are found: commands gathered by bike

-- The sets of a bike that has no command yet.
abbrev pub no_sets : BikeSets
no_sets = record { all = empty_of; adds = empty_of; reads = empty_of }

-- The sets of a bike.
abbrev pub sets_at : List BikeSets → ℕ → BikeSets
sets_at ws b = get_or ws b no_sets

-- The sets of a bike with one command of it, k, more in those that are for its kind.
abbrev pub with_command : Command → ℕ → BikeSets → BikeSets
with_command c k x =
    record { all = with_of x.all k; adds = pick (is_add c) (with_of x.adds k) x.adds; reads = pick (is_read c) (with_of x.reads k) x.reads }

-- The sets of all bikes with command k more in those of its bike that are for its kind, and in no others.
abbrev pub joined_of : Command → ℕ → List BikeSets → List BikeSets
joined_of c k ws = set ws (bike_of c) (with_command c k (sets_at ws (bike_of c)))

-- Command j of the book is on a bike and of a kind.
abbrev pub is_on : (Command → Bool) → List ℕ → ℕ → ℕ → Bool
is_on kind s b j = eqb (bike_of (command_of s j)) b && kind (command_of s j)

-- The sets of a bike where the first n commands are gathered: those that are on it, by kind.
abbrev pub gathered_of : List ℕ → ℕ → ℕ → BikeSets
gathered_of s n b = record { all = set_of n (is_on (λ c. true) s b); adds = set_of n (is_on is_add s b); reads = set_of n (is_on is_read s b) }

-- The sets of all bikes have the first n commands.
pub record Gathered (s : List ℕ) (n : ℕ) (ws : List BikeSets) : Type 0 where
  pub size : length ws ≡ bikes
  pub at : (b : ℕ) → b < bikes → sets_at ws b ≡ gathered_of s n b

-- The commands of its bike that a command is opposed to.
abbrev pub opposed_of : List BikeSets → Command → Set
opposed_of ws (Add b km) = without_of (sets_at ws b).all (sets_at ws b).adds
opposed_of ws (Fit b dash start) = (sets_at ws b).all
opposed_of ws (Read b) = without_of (sets_at ws b).all (sets_at ws b).reads
opposed_of ws (Trim b km) = (sets_at ws b).all
