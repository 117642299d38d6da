-- `SiteTable::n_ack` meets its contract: a good table has more sites than faults.
-- Assumes nothing.
use native.Mathlib.Omega.{arith}
use Rattle.table.proofs.Laws.{good_limits}
use Rattle.table.proofs.SiteTable.n_ack.Goals as goal

pub overflow_sub-result : goal.overflow_sub-result
overflow_sub-result c = omega (arith, good_limits _ c.requires)
