-- A `u64` is written as its eight bytes.
-- Assumes nothing.
use mathlib.Core.Path.{◌∙◌}
use Rattle.wire.proofs.Laws.{part_written}
use Rattle.wire.proofs.U64Number.put.Goals as goal

pub returns : goal.returns
returns c = let a = c.args in part_written 8 a.self a.s.now a.at (c.copy_from_slice.ensures.after ∙ c.to_le_bytes.ensures)
