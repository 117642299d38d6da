-- `commands::Book::command`: the command at the noted place.
-- Assumes nothing.
use Rattle.commands.proofs.Counted.{below}
use Rattle.commands.proofs.Book.command.Goals as goal

pub indexed-requires : goal.indexed-requires
indexed-requires c = let b = c.args.self.now in (below b c.requires, b.placed)
