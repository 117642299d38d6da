-- `site::receive`: what was received is written with more.
-- Assumes nothing.
use Rattle.site.proofs.Receiving.{receive_holds}
use Rattle.site.proofs.receive.Goals as goal

pub returns : goal.returns
returns c =
    let s = c in
    receive_holds _ (λ i. (c.slice_known-1.given i).fits) s.requires s.args.set s.well_formed.1.0.1.1.0.1
    (λ i. (c.read-header.ensures i).received) c.union.ensures c.write.ensures
    (λ i. (c.type_inv.site i).fits)
