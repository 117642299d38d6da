-- `steps::write_step`: each kind by its bytes and its sets.
-- Assumes nothing.
use native.Mathlib.Omega.{arith}
use mathlib.Core.Path.{ap}
use Rattle.steps.specs.Steps.{size_of}
use Rattle.steps.proofs.Laws.{wrote, wrote_entry}
use Rattle.steps.proofs.write_step.Goals as goal

pub put_text-requires : goal.put_text-requires
put_text-requires c = omega (arith, ap size_of c.in-Command.is)

pub put_text-requires-in-Acknowledgment : goal.put_text-requires-in-Acknowledgment
put_text-requires-in-Acknowledgment c = omega (arith, ap size_of c.in-Acknowledgment.is)

pub put_text-requires-in-Check : goal.put_text-requires-in-Check
put_text-requires-in-Check c = omega (arith, ap size_of c.in-Check.is)

pub put_with_set-requires : goal.put_with_set-requires
put_with_set-requires c = omega (arith, ap size_of c.in-FalseAcknowledgment.is)

pub put_with_set-requires-in-FalseCheck : goal.put_with_set-requires-in-FalseCheck
put_with_set-requires-in-FalseCheck c = omega (arith, ap size_of c.in-FalseCheck.is)

pub put_with_set-middle-requires : goal.put_with_set-middle-requires
put_with_set-middle-requires c = omega (arith, ap size_of c.in-FalseEntry.is)

pub put_set-requires : goal.put_set-requires
put_set-requires c = omega (arith, ap size_of c.in-FalseEntry.is, c.put_with_set-middle.ensures.0)

pub put_text-requires-in-Turn : goal.put_text-requires-in-Turn
put_text-requires-in-Turn c = omega (arith, ap size_of c.in-Turn.is)

pub put_text-requires-in-FastDelivery : goal.put_text-requires-in-FastDelivery
put_text-requires-in-FastDelivery c = omega (arith, ap size_of c.in-FastDelivery.is)

pub put_text-requires-in-LogRead : goal.put_text-requires-in-LogRead
put_text-requires-in-LogRead c = omega (arith, ap size_of c.in-LogRead.is)

pub put_text-requires-in-RoundEnd : goal.put_text-requires-in-RoundEnd
put_text-requires-in-RoundEnd c = omega (arith, ap size_of c.in-RoundEnd.is)

pub returns-in-Command : goal.returns-in-Command
returns-in-Command c = wrote _ _ c.in-Command.is (c.put_text.ensures.end, c.put_text.ensures.bytes)

pub returns-in-Acknowledgment : goal.returns-in-Acknowledgment
returns-in-Acknowledgment c = wrote _ _ c.in-Acknowledgment.is (c.put_text-in-Acknowledgment.ensures.end, c.put_text-in-Acknowledgment.ensures.bytes)

pub returns-in-Check : goal.returns-in-Check
returns-in-Check c = wrote _ _ c.in-Check.is (c.put_text-in-Check.ensures.end, c.put_text-in-Check.ensures.bytes)

pub returns-in-FalseAcknowledgment : goal.returns-in-FalseAcknowledgment
returns-in-FalseAcknowledgment c = wrote _ _ c.in-FalseAcknowledgment.is c.put_with_set.ensures

pub returns-in-FalseCheck : goal.returns-in-FalseCheck
returns-in-FalseCheck c = wrote _ _ c.in-FalseCheck.is c.put_with_set-in-FalseCheck.ensures

pub returns-in-FalseEntry : goal.returns-in-FalseEntry
returns-in-FalseEntry c = wrote _ _ c.in-FalseEntry.is (wrote_entry c.args.out.now c.args.at _ _ _ _ (omega (arith, c.requires)) c.put_with_set-middle.ensures c.put_set.ensures)

pub returns-in-Turn : goal.returns-in-Turn
returns-in-Turn c = wrote _ _ c.in-Turn.is (c.put_text-in-Turn.ensures.end, c.put_text-in-Turn.ensures.bytes)

pub returns-in-FastDelivery : goal.returns-in-FastDelivery
returns-in-FastDelivery c = wrote _ _ c.in-FastDelivery.is (c.put_text-in-FastDelivery.ensures.end, c.put_text-in-FastDelivery.ensures.bytes)

pub returns-in-LogRead : goal.returns-in-LogRead
returns-in-LogRead c = wrote _ _ c.in-LogRead.is (c.put_text-in-LogRead.ensures.end, c.put_text-in-LogRead.ensures.bytes)

pub returns-in-RoundEnd : goal.returns-in-RoundEnd
returns-in-RoundEnd c = wrote _ _ c.in-RoundEnd.is (c.put_text-in-RoundEnd.ensures.end, c.put_text-in-RoundEnd.ensures.bytes)
