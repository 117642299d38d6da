-- The kinds of steps by which a command or a message reaches a site: 01 to 05.
-- Assumes nothing.
use Rattle.std.specs.Prelude.{Bool, true, false}
use Rattle.steps.specs.declared.Step.{Step}
use Rattle.steps.specs.declared.Step.TheVariants.{Command, Acknowledgment, Check, FalseAcknowledgment, FalseCheck, FalseEntry, Turn, FastDelivery, LogRead, RoundEnd}

abbrev pub arrives : Step → Bool
arrives (Command i m) = true
arrives (Acknowledgment i j r a) = true
arrives (Check i j r) = true
arrives (FalseAcknowledgment i j r x) = true
arrives (FalseCheck i j r x) = true
arrives (FalseEntry j r nc c) = false
arrives (Turn i) = false
arrives (FastDelivery i m) = false
arrives (LogRead i) = false
arrives (RoundEnd i) = false
