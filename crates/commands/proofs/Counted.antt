-- What a book that was read says of its commands.
-- Assumes nothing.
use Rattle.std.proofs.Common.{ℕ, ◌<◌, length, arith}
use Rattle.commands.specs.declared.Book.{Book}
use Rattle.commands.specs.Book.{commands_of}

pub below : (b : Book) {m : ℕ} → m < b.len → m < length (commands_of b.bytes.now)
below b h = omega (arith, h, b.counted)
