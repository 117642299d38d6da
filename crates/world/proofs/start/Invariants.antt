-- `world::start`: the sites so far are fresh.
-- Assumes nothing.
use mathlib.Core.Path.{◌≡◌}
use lib.ListN.{length}
use Rattle.world.proofs.AllFresh.{FreshTo}
use Rattle.world.proofs.start.Given as goal

abbrev pub invariant-loop-i : goal.invariant-loop-i
invariant-loop-i l = (length l.sites ≡ length l.initial.sites) × FreshTo l.i l.initial.sites l.sites
