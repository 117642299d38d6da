-- `levels_after` meets its contract, one law for each answer.
-- Assumes nothing.
use Rattle.entries.specs.Entries.{entry_of}
use Rattle.recovery.proofs.Counts.{other_round, other_source, valid_source}
use mathlib.Core.Path.{ap}
use mathlib.Core.Bool.{not}
use Rattle.recovery.proofs.levels_after.Goals as goal

pub returns-then-round_of-round : goal.returns-then-round_of-round
returns-then-round_of-round c = let a = c.args in other_round a.round a.valid (entry_of a.log.now a.k) a.levels c.round_of.ensures c.if-round_of-round.true

pub returns-then-not-has : goal.returns-then-not-has
returns-then-not-has c = let a = c.args in other_source a.round a.valid (entry_of a.log.now a.k) a.levels c.round_of.ensures c.if-round_of-round.false c.site_of-site.ensures c.has.ensures (ap not c.if-not-has.true)

pub returns : goal.returns
returns c = let a = c.args in valid_source a.round a.valid (entry_of a.log.now a.k) a.levels c.round_of.ensures c.if-round_of-round.false c.site_of-site.ensures c.has.ensures (ap not c.if-not-has.false) c.nc_of-nc.ensures c.c_of-c.ensures c.levels_with.ensures
