-- The protocol at the dash register: the machine of a book, document 01's site table and thresholds.
-- Assumes nothing.
use Rattle.std.specs.Prelude.{List, ℕ, length, get_or}
use Rattle.sets.specs.Sets.{capacity}
use Rattle.table.specs.declared.SiteTable.{SiteTable}
use Rattle.table.specs.Table.{n_ack_of, n_chk_of, majority_of, faulty_of}
use Rattle.register.specs.declared.Command.{Command}
use Rattle.register.specs.declared.Command.TheVariants.{Read}
use Rattle.register.specs.Machine.{machine}
use Rattle.protocol.specs.System.{System}

-- Log entries are of rounds 1 to 32; a site's round is at most 33.
abbrev pub last_round : ℕ
last_round = 32

-- The command at a place of the book. There is none beyond its end, and nothing looks there.
abbrev pub command_at : List Command → ℕ → Command
command_at book m = get_or book m (Read 0)

-- The system of a site table and the commands of a book.
abbrev pub dash : SiteTable → List Command → System
dash t book =
    record {
      machine = machine (command_at book);
      commands = length book;
      capacity = capacity;
      sites = t.sites;
      faulty = faulty_of t;
      n_ack = n_ack_of t;
      n_chk = n_chk_of t;
      majority = majority_of t;
      rounds = last_round;
    }
