-- What delivering leaves of a lent site's bytes: its header as it was, and more in its ledger.
-- Assumes nothing.
use Rattle.std.specs.Prelude.{◌≡◌, ℕ, ◌+◌, length, take, drop}
use mathlib.Core.List.{List, foldl}
use Rattle.theory.specs.Sets.{members}
use Rattle.sets.specs.declared.Set.{Set}
use Rattle.sets.specs.Sets.{capacity, in_set}
use Rattle.table.specs.declared.SiteTable.{SiteTable}
use Rattle.register.specs.declared.Command.{Command}
use Rattle.register.specs.Register.{Within}
use Rattle.register.specs.Lent.{register_of}
use Rattle.protocol.specs.Site as protocol
use Rattle.system.specs.Dash.{dash}
use Rattle.layout.specs.Layout.{site_size, heard_place, register_place, ledger_of}
use Rattle.layout.specs.Good.{GoodTables}

-- The commands l were delivered in their order, after k others.
pub record Delivered (book : List Command) (k : ℕ) (l : List ℕ) (b b' : List ℕ) : Type 0 where
  pub ledger : (t : SiteTable) → ledger_of t book (k + length l) b' ≡ foldl (protocol.deliver (dash t book)) (ledger_of t book k b) l
  pub tables : (sites rows : ℕ) → GoodTables sites (length book) k rows b → GoodTables sites (length book) (k + length l) rows b'
  pub size : length b' ≡ site_size
  pub header : take register_place b' ≡ take register_place b
  -- from the table of sets heard on nothing changes
  pub rest : drop heard_place b' ≡ drop heard_place b
  pub readings : Within (register_of b' register_place)

-- The commands of a set in number order.
abbrev pub in_order : Set → List ℕ
in_order x = members capacity (in_set x)
