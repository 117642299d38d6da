-- `layout::reach`: nothing where the round has a row, else the new rows are emptied and the span is written.
-- Rests on Rows.
use Rattle.layout.proofs.Rows.{row_there, rows_new}
use Rattle.layout.proofs.reach.Goals as goal

pub returns-then-round-rows : goal.returns-then-round-rows
returns-then-round-rows c = let a = c.args in row_there a.site.now a.round c.get-rows.ensures c.if-round-rows.true

pub returns : goal.returns
returns c = let a = c.args in rows_new a.site.now a.round c.get-rows.ensures c.if-round-rows.false c.clear_rows.ensures c.put.ensures
