-- `report::put_site_line`: the head, the deliveries, the end of the line.
-- Assumes nothing.
use native.Mathlib.Omega.{arith}
use mathlib.Core.Path.{ap}
use Prim.Native.Nat.{◌≤◌}
use Rattle.sets.specs.Sets.{capacity}
use Rattle.lines.proofs.Laws.{head-length}
use Rattle.layout.specs.declared.Site.{Site}
use Rattle.report.proofs.Laws.{line_printed}
use Rattle.report.proofs.put_site_line.Goals as goal

pub put_site_head-requires : goal.put_site_head-requires
put_site_head-requires c = simp head-length (omega arith)

pub put_deliveries-requires : goal.put_deliveries-requires
put_deliveries-requires c =
    let few : c.read-header.result.deliveries ≤ capacity = rw c.read-header.ensures c.requires.0.few in
    let head = c.put_site_head.ensures in
    let e = simp head-length at head.wrote.end in
    (c.requires.0.size, few, omega (arith, head.size))

pub put_line_end-requires : goal.put_line_end-requires
put_line_end-requires c =
    let few : c.read-header.result.deliveries ≤ capacity = rw c.read-header.ensures c.requires.0.few in
    let head = c.put_site_head.ensures in
    let body = c.put_deliveries.ensures in
    let e = simp head-length at head.wrote.end in
    omega (arith, body.1, body.0.size, head.size)

pub returns : goal.returns
returns c =
    let few : c.read-header.result.deliveries ≤ capacity = rw c.read-header.ensures c.requires.0.few in
    let a = c.args in
    let head = c.put_site_head.ensures in
    let body = c.put_deliveries.ensures in
    let end = c.put_line_end.ensures in (
      line_printed a.number a.site.now (ap (λ (x : Site). x.round) c.read-header.ensures) (ap (λ (x : Site). x.deliveries) c.read-header.ensures) head body.0 end,
      omega (arith, simp head-length at head.wrote.end, body.1, end.wrote.end),
    )
