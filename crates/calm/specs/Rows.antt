-- Conflicts read off rows, one set of commands a command: which sets are free of them, and the system that goes by them.
-- Assumes nothing.
use Rattle.std.specs.Prelude.{Bool, ◌&&◌, not, List, ℕ}
use Rattle.theory.specs.Sets.{Set, all}
use Rattle.theory.specs.Machine.{Machine}
use Rattle.sets.specs.Sets.{capacity, in_set, load_set}
use Rattle.table.specs.declared.SiteTable.{SiteTable}
use Rattle.table.specs.Table.{n_ack_of, n_chk_of, majority_of, faulty_of}
use Rattle.protocol.specs.System.{System}
use Rattle.system.specs.Dash.{last_round}

-- Command b is in the row of a.
abbrev pub conflict_by : List ℕ → ℕ → ℕ → Bool
conflict_by rows a b = in_set (load_set rows a) b

-- No command of one set conflicts with one of another.
abbrev pub free_between : List ℕ → Set → Set → Bool
free_between rows x y = all capacity (λ a. all capacity (λ b. not (x a && (y b && conflict_by rows a b))))

-- No two commands of a set conflict.
abbrev pub free_by : List ℕ → Set → Bool
free_by rows x = free_between rows x x

-- A machine that says which commands conflict and does nothing else: deciding a round asks for no more.
abbrev pub rows_machine : List ℕ → Machine
rows_machine rows =
    record {
      State = Unit {0};
      Answer = Unit {0};
      initial = tt;
      execute = λ s m. s;
      answer = λ s m. tt;
      conflict = conflict_by rows;
    }

-- The system of a site table and rows of conflicts.
abbrev pub rows_system : SiteTable → List ℕ → System
rows_system t rows =
    record {
      machine = rows_machine rows;
      commands = capacity;
      capacity = capacity;
      sites = t.sites;
      faulty = faulty_of t;
      n_ack = n_ack_of t;
      n_chk = n_chk_of t;
      majority = majority_of t;
      rounds = last_round;
    }
