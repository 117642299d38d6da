-- `Message::write`: part by part.
-- Assumes nothing.
use Rattle.message.proofs.Laws.{message_written}
use Rattle.message.proofs.Message.write.Goals as goal

pub returns : goal.returns
returns c = let a = c.args in message_written a.out.now a.self.kind a.self.round a.self.set c.requires c.from.ensures c.put.ensures c.put-2.ensures c.write.ensures
