-- What a step in bytes means: a step of the protocol, and the verdict on what cannot be read.
-- Assumes nothing.
use Rattle.refusals.specs.Refusals.{Verdict, accepted}
use Rattle.std.specs.Prelude.{Err, None, Option, Some}
use Rattle.refusals.specs.declared.Refusal.TheVariants.{Form}
use Rattle.sets.specs.Sets.{in_set}
use Rattle.protocol.specs.World as protocol
use Rattle.steps.specs.declared.Step.{Step}
use Rattle.steps.specs.declared.Step.TheVariants.{Command, Acknowledgment, Check, FalseAcknowledgment, FalseCheck, FalseEntry, Turn, FastDelivery, LogRead, RoundEnd}

-- The protocol's step: a set of command numbers is the test of membership.
abbrev pub meaning : Step → protocol.Step
meaning (Command i m) = protocol.command i m
meaning (Acknowledgment i j r a) = protocol.acknowledgment i j r a
meaning (Check i j r) = protocol.check i j r
meaning (FalseAcknowledgment i j r x) = protocol.false_acknowledgment i j r (in_set x)
meaning (FalseCheck i j r x) = protocol.false_check i j r (in_set x)
meaning (FalseEntry j r nc c) = protocol.false_entry j r (in_set nc) (in_set c)
meaning (Turn i) = protocol.turn i
meaning (FastDelivery i m) = protocol.fast_delivery i m
meaning (LogRead i) = protocol.log_read i
meaning (RoundEnd i) = protocol.round_end i

-- An unknown code or cut operands are refusal 3.
abbrev pub form_of : Option Step → Verdict
form_of (Some t) = accepted
form_of None = Err Form
