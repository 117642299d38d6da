-- `deliver::deliver_all`: the invariant is that what the rest leads to is what the whole set leads to.
-- Rests on Ledger.
use Rattle.deliver.proofs.Ledger.{underway_none, underway_next, underway_turn, underway_done}
use Rattle.deliver.proofs.deliver_all.Goals as goal

pub loop-m-init : goal.loop-m-init
loop-m-init c = underway_none _ c.args.k c.args.set c.requires.0 c.requires.1 c.requires.3 c.into_iter-m-iterator.ensures.into_iter_gives

pub deliver-requires : goal.deliver-requires
deliver-requires c =
    let u = c.loop-m.invariant in
    let w = underway_next _ c.args.k u c.in-Some.ensures.steps c.requires.4 in
    (u.size, u.readings, c.requires.2, w.1, w.0)

pub loop-m-preserved : goal.loop-m-preserved
loop-m-preserved c = underway_turn _ c.args.k c.loop-m.invariant c.in-Some.ensures.steps c.deliver.ensures

pub returns : goal.returns
returns c = underway_done _ c.args.k c.loop-m.invariant c.in-None.ensures.steps.0
