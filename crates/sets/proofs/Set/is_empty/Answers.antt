-- `Set::is_empty` meets its contract: only the word 0 has no member.
-- Assumes nothing.
use borrow.Author.Rules.{rules}
use Rattle.sets.proofs.Laws.{empty_word}
use Rattle.sets.proofs.Set.is_empty.Goals as goal

pub returns : goal.returns
returns c = empty_word c.args.self (search rules)
