-- `SiteTable::read_with`: two bytes, and whether they are within the limits.
-- Assumes nothing.
use mathlib.Core.Path.{sym, ◌∙◌}
use Rattle.table.proofs.Laws.{within_good, within_bad}
use Rattle.table.proofs.SiteTable.read_with.Goals as goal

pub returns-then-is_within_limits : goal.returns-then-is_within_limits
returns-then-is_within_limits c = let a = c.args in within_good a.bytes.now a.mask c.get-sites.ensures c.get-faults.ensures (sym c.is_within_limits.ensures ∙ c.if-is_within_limits.true)

pub returns-else-is_within_limits : goal.returns-else-is_within_limits
returns-else-is_within_limits c = let a = c.args in within_bad a.bytes.now a.mask c.get-sites.ensures c.get-faults.ensures (sym c.is_within_limits.ensures ∙ c.if-is_within_limits.false)
