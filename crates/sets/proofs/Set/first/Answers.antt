-- `Set::first` meets its contract: the zeros below the lowest digit that is set are as many as the least member.
-- Assumes nothing.
use Rattle.sets.proofs.Laws.{first_word}
use Rattle.sets.proofs.Set.first.Goals as goal

pub returns : goal.returns
returns c = first_word c.args.self
