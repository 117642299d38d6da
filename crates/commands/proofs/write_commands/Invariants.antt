use Prim.Native.Nat.{◌+◌, ◌≤◌}
use mathlib.Core.Path.{◌≡◌}
use lib.ListN.{length}
use Rattle.wire.specs.Wire.{splice}
use Rattle.commands.specs.Book.{commands_of, encode_book}
use Rattle.commands.proofs.Walk.{rest}
use Rattle.commands.proofs.write_commands.Given as goal

abbrev pub invariant-loop : goal.invariant-loop
invariant-loop l = (l.counter + length (rest l.book l.counter l.from) ≡ l.n) × (l.from ≤ length l.book) × (length l.out ≡ length l.initial.out) × (l.to + length (encode_book (rest l.book l.counter l.from)) ≡ l.at + length (encode_book (commands_of l.book))) × (splice l.out l.to (encode_book (rest l.book l.counter l.from)) ≡ splice l.initial.out l.at (encode_book (commands_of l.book)))
