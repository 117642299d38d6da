-- A `u32` is the number of the four bytes at a position.
-- Assumes nothing.
use mathlib.Core.Path.{◌∙◌}
use Rattle.wire.proofs.Laws.{part_read}
use Rattle.wire.proofs.U32Number.get.Goals as goal

pub returns : goal.returns
returns c =
    let a = c.args in
    let whole = rw c.unwrap.ensures at c.try_into.ensures.1 in
    c.from_le_bytes.ensures ∙ part_read 3 a.s.now a.at c.requires whole.same
