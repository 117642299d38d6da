-- `layout::record_delivery`: the command and the answer are written side by side.
-- Assumes nothing.
use native.Mathlib.Omega.{arith}
use Rattle.layout.proofs.Deliveries.{delivery_written}
use Rattle.layout.proofs.record_delivery.Goals as goal

pub returns : goal.returns
returns c = delivery_written _ _ _ c.args.answer (omega (arith, c.requires)) c.ranges.answer c.put.ensures c.put-2.ensures
