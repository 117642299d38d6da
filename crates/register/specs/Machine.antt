-- The dash register as a machine over the commands of a book. That it obeys the law of exchange is proved in proofs/Machine.antt.
-- Assumes nothing.
use Rattle.std.specs.Prelude.{ℕ, ℤ}
use Rattle.theory.specs.Machine.{Machine}
use Rattle.register.specs.declared.Command.{Command}
use Rattle.register.specs.Register.{Register, execute, answer, initial, conflict_at}

-- Command m is the one at place m of the book.
abbrev pub machine : (ℕ → Command) → Machine
machine book =
    record {
      State = Register;
      Answer = ℤ;
      initial = initial;
      execute = λ r m. execute (book m) r;
      answer = λ r m. answer (book m) r;
      conflict = conflict_at book;
    }
