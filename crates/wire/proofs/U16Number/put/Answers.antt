-- A `u16` is written as its two bytes.
-- Assumes nothing.
use mathlib.Core.Path.{◌∙◌}
use Rattle.wire.proofs.Laws.{part_written}
use Rattle.wire.proofs.U16Number.put.Goals as goal

pub returns : goal.returns
returns c = let a = c.args in part_written 2 a.self a.s.now a.at (c.copy_from_slice.ensures.after ∙ c.to_le_bytes.ensures)
