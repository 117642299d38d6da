-- Demand 3 at the dash register and document 01's thresholds: the theorem over parameters, instantiated.
-- Rests on agreement's Theorem and NeverRefused, the register's exchange law and the table's quorum inequalities.
use Rattle.std.specs.Prelude.{◌≡◌, true, List, ℕ, suc, ◌≤◌}
use Rattle.refusals.specs.Refusals.{accepted}
use Rattle.std.proofs.Common.{arith}
use Rattle.table.specs.declared.SiteTable.{SiteTable}
use Rattle.table.specs.Table.{is_good}
use Rattle.table.proofs.Laws.{good_quorums, good_few}
use Rattle.register.specs.declared.Command.{Command}
use Rattle.register.proofs.Machine.{machine_exchange}
use Rattle.commands.specs.Book.{judge_book, commands_of}
use Rattle.commands.proofs.Walk.{few_commands}
use Rattle.protocol.specs.World.{Step, start, play}
use Rattle.protocol.specs.CommonSequence.{CommonSequence}
use Rattle.agreement.specs.Acked.{Sizes}
use Rattle.agreement.specs.Bound.{Limits}
use Rattle.agreement.proofs.Bound.{round_bound}
use Rattle.agreement.specs.NeverRefused.{NeverRefused}
use Rattle.agreement.proofs.NeverRefused.{never_refused}
use Rattle.agreement.proofs.Theorem.{common_sequence}
use Rattle.system.specs.Dash.{dash, command_at, last_round}

-- For every site table within its limits, with at most f faulty sites in its mask, every book that is not refused,
-- and every list of steps, refused ones included, from the start of a run: the correct sites have a common sequence
-- that explains all that they delivered, answered and hold.
abbrev pub Demand3 : Type 0
Demand3 =
    (table : SiteTable) (book : List ℕ)
    → is_good table ≡ true
    → judge_book book ≡ accepted
    → (steps : List Step)
    → CommonSequence (dash table (commands_of book)) steps

sizes : (table : SiteTable) (book : List Command) → is_good table ≡ true → Sizes (dash table book) table.faults
sizes table book good = record { few = good_few table good; quorums = good_quorums table good }

limits : (table : SiteTable) (book : List ℕ) → Limits (dash table (commands_of book))
limits table book = record { fits = few_commands book; enough = omega arith }

pub demand3 : Demand3
demand3 table book good judged =
    common_sequence (dash table (commands_of book)) table.faults (sizes table (commands_of book) good) (machine_exchange (command_at (commands_of book)))

-- A site's round is at most 33.
pub rounds : (table : SiteTable) (book : List ℕ) → is_good table ≡ true → (steps : List Step) (i : ℕ)
    → ((play (dash table (commands_of book)) (start (dash table (commands_of book))) steps).site i).round ≤ suc last_round
rounds table book good =
    round_bound (dash table (commands_of book)) table.faults (sizes table (commands_of book) good) (machine_exchange (command_at (commands_of book)))
    (limits table book)

-- No run meets refusal 8 or 9, and no correct site's append is a third entry.
pub refusals_unmet : (table : SiteTable) (book : List ℕ) → is_good table ≡ true → (steps : List Step) → NeverRefused (dash table (commands_of book)) steps
refusals_unmet table book good =
    never_refused (dash table (commands_of book)) table.faults (sizes table (commands_of book) good) (machine_exchange (command_at (commands_of book)))
    (limits table book)
