-- `SiteTable::read`: cut, or by the limits.
-- Assumes nothing.
use mathlib.Core.Path.{◌∙◌}
use Rattle.table.specs.Table.{table_size, table_in}
use Rattle.table.proofs.Laws.{table_cut, table_whole}
use Rattle.table.proofs.SiteTable.read.Goals as goal

pub returns-then-bytes-lt-BYTES : goal.returns-then-bytes-lt-BYTES
returns-then-bytes-lt-BYTES c = let b = c.args.bytes.now in table_cut table_size b (table_in b) c.if-bytes-lt-BYTES.true

pub returns : goal.returns
returns c = let b = c.args.bytes.now in c.read_with.ensures ∙ table_whole table_size b (table_in b) c.if-bytes-lt-BYTES.false
