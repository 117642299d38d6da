-- The site lines of a print, from sites in lent bytes.
-- Assumes nothing.
use Rattle.std.specs.Prelude.{false, not, List, [], ◌++◌, ◌≡◌, ℕ, zero, suc, ◌*◌, ◌≤◌, ◌<◌, length}
use Rattle.theory.specs.Sets.{pick}
use Rattle.wire.specs.Wire.{read_le}
use Rattle.sets.specs.Sets.{capacity}
use Rattle.table.specs.declared.SiteTable.{SiteTable}
use Rattle.table.specs.Table.{faulty_of}
use Rattle.lines.specs.Lines.{site_line}
use Rattle.layout.specs.Layout.{site_size, site_at, count_place, head_of, deliveries_of}

-- The most bytes of a delivery in a line, and of a line with 64 deliveries.
abbrev pub delivery_room : ℕ
delivery_room = 15

abbrev pub line_room : ℕ
line_room = 987

-- Lent bytes of a site's size that record at most 64 deliveries.
pub record Printable (b : List ℕ) : Type 0 where
  pub size : length b ≡ site_size
  pub few : (head_of b).deliveries ≤ capacity

-- The line of the site that lent bytes are seen as, under a number.
abbrev pub line_of : ℕ → List ℕ → List ℕ
line_of number b = site_line number (head_of b).round (deliveries_of (read_le 2 b count_place) b)

-- The line of site i, none where it is faulty.
abbrev pub line_at : SiteTable → List ℕ → ℕ → List ℕ
line_at t sites i = pick (not (faulty_of t i)) (line_of i (site_at sites i)) []

-- The lines of the correct sites below n, in order.
abbrev pub lines_below : SiteTable → List ℕ → ℕ → List ℕ
lines_below t sites zero = []
lines_below t sites (suc n) = lines_below t sites n ++ line_at t sites n

-- What is asked of sites end to end: as many as the table says, and the correct ones can be printed.
pub record AllPrintable (t : SiteTable) (sites : List ℕ) : Type 0 where
  pub size : t.sites * site_size ≤ length sites
  pub each : (i : ℕ) → i < t.sites → faulty_of t i ≡ false → Printable (site_at sites i)
