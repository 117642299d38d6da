-- `SiteTable::read_marked`: cut, or by the limits with the mask that follows.
-- Assumes nothing.
use mathlib.Core.Path.{ap, ◌∙◌}
use Prim.Native.Nat.{ℕ}
use native.Mathlib.Omega.{arith}
use Rattle.table.specs.Table.{is_good, marked_size, table_with, marked_in, table_as}
use Rattle.table.proofs.Laws.{table_cut, table_whole}
use Rattle.table.proofs.SiteTable.read_marked.Goals as goal

pub returns-then-bytes-lt-MARKED_BYTES : goal.returns-then-bytes-lt-MARKED_BYTES
returns-then-bytes-lt-MARKED_BYTES c = let b = c.args.bytes.now in table_cut marked_size b (marked_in b) c.if-bytes-lt-MARKED_BYTES.true

pub read_with-requires : goal.read_with-requires
read_with-requires c = let h = c.if-bytes-lt-MARKED_BYTES.false in omega arith

pub returns : goal.returns
returns c =
    let b = c.args.bytes.now in
    c.read_with.ensures ∙ ap (λ (mask : ℕ). table_as (is_good (table_with b mask)) (table_with b mask)) c.get-mask.ensures ∙ table_whole marked_size b (marked_in b) c.if-bytes-lt-MARKED_BYTES.false
