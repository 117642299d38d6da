-- Document 01's proved cases (its rows marked P) as one table: a row is an input and its result, and one proposition holds of every row.
-- Rests on the definitions alone.
use Rattle.std.specs.Prelude.{◌≡◌, refl, Bool, true, false, List, [], ◌∷◌, ◌++◌, map, ℕ, zero, suc, ℤ, pos, negsuc, Err, None, Ok, Option, Result as Judged, Some}
use Rattle.refusals.specs.declared.Refusal.{Refusal}
use Rattle.wire.specs.Wire.{read_le, value}
use Rattle.refusals.specs.Refusals.{code_of}
use Rattle.theory.specs.Sets.{all, any, count, members}
use Rattle.theory.specs.Lists.{contents}
use Rattle.theory.specs.Machine.{Delivery}
use Rattle.sets.specs.Sets.{has}
use Rattle.table.specs.declared.SiteTable.{SiteTable}
use Rattle.table.specs.Table.{read_marked, good_table}
use Rattle.register.specs.declared.Command.{Command}
use Rattle.register.specs.declared.Command.TheVariants.{Add, Read, Trim}
use Rattle.register.specs.Register.{bike, change, reply, conflict}
use Rattle.commands.specs.Book.{judge_book, commands_of, read_command, read_kind}
use Rattle.protocol.specs.System.{System}
use Rattle.protocol.specs.Recovery.{Log, Tally, entries, decide, decide_from, nc_set, c_set}
use Rattle.protocol.specs.World.{World, Step, command, acknowledgment, turn, fast_delivery, log_read, round_end, start, judge, step, play}
use Rattle.system.specs.Dash.{dash}

-- What is asked.
pub data Input : Type 0 where
  -- a site table in bytes: n, f and mask
  table : List ℕ → Input
  -- a book's bytes
  book : List ℕ → Input
  -- a command on a bike with a reading
  executes : (reading : ℕ) → Command → Input
  -- two commands at different places
  pair : Command → Command → Input
  -- six sites, f 1, command 0 acknowledged to site 0 by so many senders, then a fast delivery of it there
  fast : (senders : ℕ) → Input
  -- six sites, f 1: the NC and C sets of the entries of sites 0, 1, .. in round 1
  round : List (List ℕ) → List (List ℕ) → Input
  -- one site, a book's bytes and steps
  run : List ℕ → List Step → Input

-- What comes out.
pub data Result : Type 0 where
  -- 0 for taken, else the refusal's number
  code : ℕ → Result
  -- the reading afterwards and the answer
  answers : ℕ → ℤ → Result
  conflicts : Bool → Result
  -- the refusal's number, 0 for taken, and the commands delivered
  stepped : ℕ → List ℕ → Result
  -- NCSet and CSet
  decided : List ℕ → List ℕ → Result
  undecided : Result
  -- the commands delivered with their answers
  delivered : List (Delivery ℤ) → Result

abbrev table_code : Judged SiteTable Refusal → ℕ
table_code (Ok t) = 0
table_code (Err r) = code_of (Err r)

-- Six sites of which one may be faulty; none is.
abbrev six : SiteTable
six = record { sites = 6; faults = 1; mask = 0 }

abbrev alone : SiteTable
alone = record { sites = 1; faults = 0; mask = 0 }

-- A book of two commands on bike 5: FIT with dash 7 and start 14,000, then READ.
abbrev pub fit_and_read : List ℕ
fit_and_read = 2 ∷ 5 ∷ 7 ∷ 0 ∷ 0 ∷ 0 ∷ 176 ∷ 54 ∷ 0 ∷ 0 ∷ 3 ∷ 5 ∷ []

abbrev six_system : System
six_system = dash six (commands_of fit_and_read)

-- Site 0 acknowledges command 0; the sites below k do so too, and their acknowledgments reach site 0.
abbrev acknowledged_by : ℕ → List Step
acknowledged_by zero = command 0 0 ∷ turn 0 ∷ []
acknowledged_by (suc k) = acknowledged_by k ++ (command k 0 ∷ turn k ∷ acknowledgment 0 k 1 1 ∷ [])

abbrev commands_at : (S : System) → World S → List ℕ
commands_at S w = map (λ d. d.command) (w.site 0).ledger.deliveries

abbrev entries_of : ℕ → List (List ℕ) → List (List ℕ) → Log
entries_of j [] cs = []
entries_of j (nc ∷ ncs) [] = []
entries_of j (nc ∷ ncs) (c ∷ cs) = record { site = j; round = 1; nc = contents nc; c = contents c } ∷ entries_of (suc j) ncs cs

abbrev decision : Option Tally → Result
decision None = undecided
decision (Some t) = decided (members 2 (nc_set six_system t)) (members 2 (c_set six_system t))

abbrev pub result : Input → Result
result (table b) = code (table_code (read_marked b))
result (book b) = code (code_of (judge_book b))
result (executes reading c) = answers (change c (bike reading 0)).reading (reply c (bike reading 0))
result (pair c d) = conflicts (conflict c d)
result (fast k) =
    stepped
    (code_of (judge six_system (play six_system (start six_system) (acknowledged_by k)) (fast_delivery 0 0)))
    (commands_at six_system (step six_system (play six_system (start six_system) (acknowledged_by k)) (fast_delivery 0 0)))
result (round ncs cs) = decision (decide six_system 1 (entries_of 0 ncs cs))
result (run b steps) = delivered ((play (dash alone (commands_of b)) (start (dash alone (commands_of b))) steps).site 0).ledger.deliveries

pub record Row : Type 0 where
  pub input : Input
  pub expected : Result

abbrev pub row : Input → Result → Row
row i r = record { input = i; expected = r }

-- The proposition: every row's result follows from the definitions.
abbrev pub Hold : List Row → Type 0
Hold [] = Unit {0}
Hold (r ∷ rows) = (result r.input ≡ r.expected) × Hold rows

-- Document 01's rows, in its order.
abbrev pub cases : List Row
cases =
    row (table (6 ∷ 1 ∷ 0 ∷ 0 ∷ [])) (code 0)
    ∷ row (table (5 ∷ 1 ∷ 0 ∷ 0 ∷ [])) (code 2)
    ∷ row (book []) (code 0)
    ∷ row (book (2 ∷ 5 ∷ 7 ∷ 0 ∷ 0 ∷ 0 ∷ 63 ∷ 66 ∷ 15 ∷ 0 ∷ [])) (code 0)
    ∷ row (book (2 ∷ 5 ∷ 7 ∷ 0 ∷ 0 ∷ 0 ∷ 64 ∷ 66 ∷ 15 ∷ 0 ∷ [])) (code 1)
    ∷ row (executes 999990 (Add 5 20)) (answers 999999 (pos 0))
    ∷ row (executes 5 (Trim 5 (negsuc 8))) (answers 0 (negsuc 4))
    ∷ row (executes 5 (Trim 5 (pos 0))) (answers 5 (pos 0))
    ∷ row (pair (Add 5 1) (Add 5 1)) (conflicts false)
    ∷ row (pair (Add 5 1) (Read 5)) (conflicts true)
    ∷ row (fast 4) (stepped 6 [])
    ∷ row (fast 5) (stepped 0 (0 ∷ []))
    ∷ row (round ((0 ∷ []) ∷ (0 ∷ []) ∷ (0 ∷ []) ∷ [] ∷ [] ∷ []) ((1 ∷ []) ∷ (1 ∷ []) ∷ (1 ∷ []) ∷ (1 ∷ []) ∷ (1 ∷ []) ∷ [])) (decided (0 ∷ []) (1 ∷ []))
    ∷ row
    (round ((0 ∷ []) ∷ (0 ∷ []) ∷ [] ∷ [] ∷ [] ∷ []) ((1 ∷ []) ∷ (1 ∷ []) ∷ (0 ∷ 1 ∷ []) ∷ (0 ∷ 1 ∷ []) ∷ (0 ∷ 1 ∷ []) ∷ []))
    (decided [] (0 ∷ 1 ∷ []))
    ∷ row
    (run fit_and_read (command 0 0 ∷ command 0 1 ∷ turn 0 ∷ log_read 0 ∷ round_end 0 ∷ []))
    (delivered (record { command = 0; answer = pos 0 } ∷ record { command = 1; answer = pos 14000 } ∷ []))
    ∷ []

pub cases_hold : Hold cases
unfolding good_table has all any count members entries decide_from read_le value read_command read_kind commands_of judge_book
cases_hold =
    (refl, (refl, (refl, (refl, (refl, (refl, (refl, (refl, (refl, (refl, (refl, (refl, (refl, (refl, (refl, tt)))))))))))))))
