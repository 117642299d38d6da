-- `Message::read`: part by part.
-- Assumes nothing.
use native.Mathlib.Omega.{arith}
use mathlib.Core.Path.{ap, ◌∙◌}
use Rattle.message.specs.Messages.{kind_from}
use Rattle.message.proofs.Laws.{message_length}
use Rattle.message.proofs.Message.read.Goals as goal

pub get-number-requires : goal.get-number-requires
get-number-requires c = let h = message_length c.args.bytes.now c.requires in omega arith

pub get-round-requires : goal.get-round-requires
get-round-requires c = let h = message_length c.args.bytes.now c.requires in omega arith

pub read-set-requires : goal.read-set-requires
read-set-requires c = let h = message_length c.args.bytes.now c.requires in omega arith

pub returns : goal.returns
returns c = λ i. record { kind = (c.kind_from-kind.ensures ∙ ap kind_from c.get-number.ensures) i; round = c.get-round.ensures i; set = c.read-set.ensures i }
