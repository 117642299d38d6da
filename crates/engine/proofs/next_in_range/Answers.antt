-- `engine::next_in_range`: a law for each answer.
-- Assumes nothing.
use native.Mathlib.Omega.{arith}
use Rattle.engine.proofs.Reading.{next-none, next-some}
use Rattle.engine.proofs.next_in_range.Goals as goal

pub returns-then-position-log : goal.returns-then-position-log
returns-then-position-log c = let a = c.args in next-none a.log.now a.position a.sites a.commands c.if-position-log.true

pub read_entry-entry-requires : goal.read_entry-entry-requires
read_entry-entry-requires c = omega (arith, c.if-position-log.false)

pub returns : goal.returns
returns c = let a = c.args in next-some a.log.now a.position a.sites a.commands c.if-position-log.false c.read_entry-entry.ensures c.in_range.ensures
