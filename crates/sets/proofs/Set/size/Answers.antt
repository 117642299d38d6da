-- `Set::size` meets its contract: the digits that are set are as many as the members.
-- Assumes nothing.
use borrow.Author.Rules.{rules}
use Rattle.sets.proofs.Laws.{size_word}
use Rattle.sets.proofs.Set.size.Goals as goal

pub returns : goal.returns
returns c = size_word c.args.self (search rules)
