-- `sent::put_check`: the set is written, and the flag.
-- Rests on Writes.
use mathlib.Core.Path.{ap, ◌∙◌}
use Rattle.sent.specs.Sent.{cell_of, flag_place, check_place}
use Rattle.sent.proofs.Laws.{in_table_lem}
use Rattle.sent.proofs.Writes.{check_sent, checked-bytes}
use Rattle.sent.proofs.put_check.Goals as goal

pub returns : goal.returns
returns c =
    let a = c.args in
    let e = c.cell_of-cell.ensures.0 in
    check_sent a.sent.now a.j a.r a.set c.requires.0 (in_table_lem a.j a.r c.requires.1 c.requires.2 c.requires.3) c.well_formed.1.1.1.0.1.1.0.1
    (checked-bytes a.sent.now (cell_of a.j a.r) a.set (c.flag_at.ensures ∙ ap flag_place e) (c.check_at.ensures ∙ ap check_place e) c.write.ensures c.put.ensures)
