-- `sent::add_acknowledgment`: the set is written after those that are there, and the count is raised.
-- Rests on Writes.
use mathlib.Core.Path.{ap, ◌∙◌}
use Rattle.wire.specs.Wire.{read_le}
use Rattle.sent.specs.Sent.{cell_of, count_place, set_place}
use Rattle.sent.proofs.Laws.{in_table_lem, length_acks}
use Rattle.sent.proofs.Writes.{acknowledged, acknowledged_bytes}
use native.Mathlib.Omega.{arith}
use Rattle.sent.proofs.add_acknowledgment.Goals as goal

pub set_at-at-requires : goal.set_at-at-requires
set_at-at-requires c =
    let a = c.args in
    let e = c.get-count.ensures ∙ ap (read_le 1 a.sent.now) (c.count_at-counted.ensures ∙ ap count_place c.cell_of-cell.ensures.0) in
    let l = length_acks a.sent.now a.j a.r (in_table_lem a.j a.r c.requires.1 c.requires.2 c.requires.3) in
    (c.cell_of-cell.ensures.1, omega (arith, c.requires))

pub returns : goal.returns
returns c =
    let a = c.args in
    let e = c.cell_of-cell.ensures.0 in
    acknowledged a.sent.now a.j a.r a.set c.requires.0 (in_table_lem a.j a.r c.requires.1 c.requires.2 c.requires.3) c.well_formed.1.1.1.0.1.1.0.1 c.requires.4
    (acknowledged_bytes a.sent.now (cell_of a.j a.r) a.set (c.count_at-counted.ensures ∙ ap count_place e) c.get-count.ensures (c.set_at-at.ensures ∙ (λ i. set_place (e i) c.get-count.result)) c.write.ensures c.put.ensures)
