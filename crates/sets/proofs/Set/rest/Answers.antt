-- `Set::rest` meets its contract: only the least command is not in the word before.
-- Assumes nothing.
use borrow.Author.Rules.{rules}
use Rattle.sets.proofs.Rest.{some_word, rest-word}
use Rattle.sets.proofs.Set.rest.Goals as goal

pub returns : goal.returns
returns c = rest-word c.args.self (search rules) c.requires

pub overflow_sub-result : goal.overflow_sub-result
overflow_sub-result c = some_word c.args.self (search rules) c.requires
