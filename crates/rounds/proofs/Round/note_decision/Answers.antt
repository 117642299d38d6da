-- `Round::note_decision` meets its contract: the sets are gathered from the first entry of the round on.
-- Assumes nothing.
use Rattle.rounds.proofs.Sites.{some_first}
use Rattle.rounds.proofs.Round.note_decision.Goals as goal

pub unwrap-from-requires : goal.unwrap-from-requires
unwrap-from-requires c = let a = c.args in some_first a.log.now a.k a.round a.self.now c.requires.2 c.requires.3
