-- `Message::is_message`: by the length, and then by the kind.
-- Assumes nothing.
use Rattle.message.proofs.Laws.{other_length, by_kind}
use Rattle.message.proofs.Message.is_message.Goals as goal

pub returns-then-bytes-ne-BYTES : goal.returns-then-bytes-ne-BYTES
returns-then-bytes-ne-BYTES c = other_length c.args.bytes.now c.if-bytes-ne-BYTES.true

pub returns : goal.returns
returns c = by_kind c.args.bytes.now c.if-bytes-ne-BYTES.false c.get-number.ensures
