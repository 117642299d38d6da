-- `site::hear`: the acknowledgment is kept in the table, then what was received is written.
-- Assumes nothing.
use Rattle.site.proofs.Receiving.{hear_holds}
use Rattle.site.proofs.hear.Goals as goal

pub returns : goal.returns
returns c =
    let s = c in
    hear_holds _ (λ i. (c.slice_known-1.given i).fits) s.requires.0 s.args.set
    s.well_formed.1.1.1.0.1.1.0.1 s.args.sender s.args.round s.requires.1 s.requires.2 s.requires.3
    (λ i. (c.read-header.ensures i).received) c.hear.ensures
    c.union.ensures c.write.ensures (λ i. (c.type_inv.site i).fits)
