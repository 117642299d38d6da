-- `lent::fresh`: bytes that are 0 up to the table of sets heard with the first round are a fresh site.
-- Rests on Blank.
use native.Mathlib.Omega.{arith}
use lib.ListN.{length-take}
use Rattle.layout.specs.Layout.{heard_place}
use Rattle.lent.proofs.Blank.{fresh_holds}
use Rattle.lent.proofs.fresh.Goals as goal

pub returns : goal.returns
returns c =
    λ t book.
    let o = c in
    fresh_holds o.args.site.now o.requires t book c.clear.ensures c.put.ensures (λ i. (c.slice_known-3-1.given i).fits)

pub slice_bounds-clear-end-2 : goal.slice_bounds-clear-end-2
slice_bounds-clear-end-2 c = let q = length-take heard_place c.args.site.now in omega arith
