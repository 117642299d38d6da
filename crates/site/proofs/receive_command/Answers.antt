-- `site::receive_command`: the set of one command is received.
-- Assumes nothing.
use Rattle.site.proofs.Receiving.{command_holds}
use Rattle.site.proofs.receive_command.Goals as goal

pub returns : goal.returns
returns c = command_holds _ c.empty.ensures c.with.ensures c.receive.ensures
