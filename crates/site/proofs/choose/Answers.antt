-- `site::choose`: each test of the code is one of the definition, in its order.
-- Assumes nothing.
use Rattle.site.proofs.Turning.{choose_waiting, choose_nothing, choose_free, choose_third, choose_last, choose_propose}
use Rattle.site.proofs.choose.Goals as goal

pub returns-then-is_empty : goal.returns-then-is_empty
returns-then-is_empty c = choose_nothing c.args.header _ _ c.in-Acknowledging.is c.undelivered-check.ensures c.without-new.ensures c.is_empty.ensures c.if-is_empty.true

pub returns-then-free : goal.returns-then-free
returns-then-free c = choose_free c.args.header _ _ c.in-Acknowledging.is c.undelivered-check.ensures c.without-new.ensures c.is_empty.ensures c.if-is_empty.false c.if-free.true

pub returns-then-third : goal.returns-then-third
returns-then-third c = choose_third c.args.header _ _ c.in-Acknowledging.is c.undelivered-check.ensures c.without-new.ensures c.is_empty.ensures c.if-is_empty.false c.if-free.false c.if-third.true

pub returns-then-header-gt-LAST_ROUND : goal.returns-then-header-gt-LAST_ROUND
returns-then-header-gt-LAST_ROUND c = choose_last c.args.header _ _ c.in-Acknowledging.is c.undelivered-check.ensures c.without-new.ensures c.is_empty.ensures c.if-is_empty.false c.if-free.false c.if-third.false c.if-header-gt-LAST_ROUND.true

pub returns-in-Waiting : goal.returns-in-Waiting
returns-in-Waiting c = choose_waiting c.args.header _ _ _ c.in-Waiting.is

pub returns-else-header-gt-LAST_ROUND : goal.returns-else-header-gt-LAST_ROUND
returns-else-header-gt-LAST_ROUND c = choose_propose c.args.header _ _ c.in-Acknowledging.is c.undelivered-check.ensures c.without-new.ensures c.is_empty.ensures c.if-is_empty.false c.if-free.false c.if-third.false c.if-header-gt-LAST_ROUND.false
