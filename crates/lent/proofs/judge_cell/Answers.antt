-- `lent::judge_cell`: the set that stands there is looked at.
-- Rests on Judged.
use Rattle.lent.proofs.Judged.{cell_judged}
use native.Mathlib.Omega.{arith}
use Rattle.lent.proofs.judge_cell.Goals as goal

pub returns : goal.returns
returns c =
    let a = c.args in
    let p = c.requires in
    cell_judged a.site.now a.sites a.commands a.sender a.round (λ i. (c.shared_slice_known-1.given i).fits) (omega (arith, p.0, p.1, p.2, p.3)) c.heard-set.ensures c.within.ensures c.is_empty.ensures
