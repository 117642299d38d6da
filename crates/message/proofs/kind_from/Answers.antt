-- `message::kind_from`: the first kind, or the other.
-- Assumes nothing.
use Rattle.message.proofs.Laws.{is_first, is_other}
use Rattle.message.proofs.kind_from.Goals as goal

pub returns-then-number-eq-ACKNOWLEDGMENT : goal.returns-then-number-eq-ACKNOWLEDGMENT
returns-then-number-eq-ACKNOWLEDGMENT c = is_first c.args.number c.if-number-eq-ACKNOWLEDGMENT.true

pub returns-else-number-eq-ACKNOWLEDGMENT : goal.returns-else-number-eq-ACKNOWLEDGMENT
returns-else-number-eq-ACKNOWLEDGMENT c = is_other c.args.number c.if-number-eq-ACKNOWLEDGMENT.false
