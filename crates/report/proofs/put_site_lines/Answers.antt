-- `report::put_site_lines`: what was written are the lines of the sites passed.
-- Assumes nothing.
use native.Mathlib.Omega.{arith}
use Rattle.print.proofs.Laws.{nothing}
use Rattle.report.proofs.Laws.{sites_more}
use Rattle.report.proofs.put_site_lines.Goals as goal

pub loop-i-init : goal.loop-i-init
loop-i-init c = (omega arith, nothing _ (omega arith))

pub loop-i-preserved : goal.loop-i-preserved
loop-i-preserved c =
    let a = c.args in
    let l = c.loop-i in
    let w = c.put_line_at.ensures in
    (omega (arith, w.1, l.invariant.0), sites_more a.table a.sites.now l.i l.invariant.1 w.0)
