-- `site::read_entry`: the position is raised where neither test refuses.
-- Assumes nothing.
use Prim.Native.Nat.{◌+◌}
use Rattle.site.proofs.Reading.{nothing_left, third_left, entry_read, position_fits}
use Rattle.site.proofs.read_entry.Goals as goal

pub returns-then-not-left : goal.returns-then-not-left
returns-then-not-left c = nothing_left _ (λ i. (c.type_inv.site i).fits) _ c.args.third c.if-not-left.true

pub returns-then-third : goal.returns-then-third
returns-then-third c = third_left _ (λ i. (c.type_inv.site i).fits) _ _ c.if-not-left.false c.if-third.true

pub returns : goal.returns
returns c =
    let e = c.read-header.ensures in
    let left = c.if-not-left.false in
    entry_read _ (λ i. (c.slice_known-1.given i).fits) _ _ left c.if-third.false
    (λ i. (e i).position + 1) (position_fits _ e (c.requires.1 left)) c.put.ensures (λ i. (c.type_inv.site i).fits)
