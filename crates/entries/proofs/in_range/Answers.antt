-- `in_range` meets its contract, test by test.
-- Assumes nothing.
use mathlib.Core.Bool.{◌&&◌}
use lib.Dec.{leb, ltb}
use Rattle.entries.proofs.in_range.Goals as goal

pub returns : goal.returns
returns c = let e = c.args.entry in λ i. ltb e.site c.args.sites && leb 1 e.round && leb e.round 32 && c.within.ensures i && c.within-2.ensures i
