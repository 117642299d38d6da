-- A `u16` is the number of the two bytes at a position.
-- Assumes nothing.
use mathlib.Core.Path.{◌∙◌}
use Rattle.wire.proofs.Laws.{part_read}
use Rattle.wire.proofs.U16Number.get.Goals as goal

pub returns : goal.returns
returns c =
    let a = c.args in
    let whole = rw c.unwrap.ensures at c.try_into.ensures.1 in
    c.from_le_bytes.ensures ∙ part_read 1 a.s.now a.at c.requires whole.same
