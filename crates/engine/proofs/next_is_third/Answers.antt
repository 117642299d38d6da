-- `engine::next_is_third`: a law for each answer.
-- Assumes nothing.
use native.Mathlib.Omega.{arith}
use Rattle.engine.proofs.Reading.{third_none, third_some}
use Rattle.engine.proofs.next_is_third.Goals as goal

pub returns-then-position-log : goal.returns-then-position-log
returns-then-position-log c = let a = c.args in third_none a.log.now a.position c.if-position-log.true

pub site_of-site-requires : goal.site_of-site-requires
site_of-site-requires c = omega (arith, c.if-position-log.false)

pub round_of-round-requires : goal.round_of-round-requires
round_of-round-requires c = omega (arith, c.if-position-log.false)

pub entries_of-requires : goal.entries_of-requires
entries_of-requires c = omega (arith, c.if-position-log.false)

pub returns : goal.returns
returns c = let a = c.args in third_some a.log.now a.position c.if-position-log.false c.site_of-site.ensures c.round_of-round.ensures c.entries_of.ensures
