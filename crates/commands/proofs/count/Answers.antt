-- `commands::count`: by the walk that notes places.
-- Rests on Walk.
use Rattle.commands.proofs.Walk.{count_is}
use Rattle.commands.proofs.count.Goals as goal

pub returns : goal.returns
returns c = count_is _ c.note.ensures.0 c.unwrap_or.ensures
