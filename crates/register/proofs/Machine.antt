-- The dash register obeys the law of exchange.
-- Rests on Exchange.
use Rattle.std.specs.Prelude.{ℕ}
use Rattle.theory.specs.Machine.{Exchange}
use Rattle.register.specs.declared.Command.{Command}
use Rattle.register.specs.Exchange.{conflict_at-sym, conflict_at_same}
use Rattle.register.specs.Machine.{machine}
use Rattle.register.proofs.Exchange.{exchange_at}

pub machine_exchange : (book : ℕ → Command) → Exchange (machine book)
machine_exchange book =
    record {
      symmetric = conflict_at-sym book;
      irreflexive = conflict_at_same book;
      state = λ r a b n h. (exchange_at book a b n h r).register;
      answers = λ r a b n h. (exchange_at book a b n h r).second;
    }
