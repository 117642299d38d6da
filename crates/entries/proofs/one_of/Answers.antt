-- `one_of` meets its contract, one law for each answer.
-- Assumes nothing.
use Rattle.entries.proofs.Judging.{one_no_round, one_no_site, one_yes}
use Rattle.entries.proofs.one_of.Goals as goal

pub returns-then-round_of-round : goal.returns-then-round_of-round
returns-then-round_of-round c = let a = c.args in one_no_round a.log.now a.site a.round a.k c.round_of.ensures c.if-round_of-round.true

pub returns-then-site_of-site : goal.returns-then-site_of-site
returns-then-site_of-site c = let a = c.args in one_no_site a.log.now a.site a.round a.k c.site_of.ensures c.if-site_of-site.true

pub returns : goal.returns
returns c = let a = c.args in one_yes a.log.now a.site a.round a.k c.round_of.ensures c.site_of.ensures c.if-round_of-round.false c.if-site_of-site.false
