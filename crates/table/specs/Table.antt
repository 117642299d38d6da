-- The site table: its limits, what it is refused for, and the thresholds that follow from it (document 01, "Site table and thresholds").
-- Assumes nothing.
use Rattle.std.specs.Prelude.{Bool, cond, ◌&&◌, List, ℕ, ◌+◌, ◌-◌, ◌*◌, ◌/◌, ◌^◌, leb, ltb, length, Err, Ok, Result}
use Rattle.refusals.specs.declared.Refusal.{Refusal}
use Rattle.wire.specs.Wire.{read_le}
use Rattle.theory.specs.Sets.{count}
use Rattle.sets.specs.Sets.{has}
use Rattle.refusals.specs.declared.Refusal.TheVariants.{Table}
use Rattle.table.specs.declared.SiteTable.{SiteTable}

-- The greatest number of sites.
abbrev pub max_sites : ℕ
max_sites = 11

-- The greatest number of faults.
abbrev pub max_faults : ℕ
max_faults = 2

-- The limits for n sites, f faults and a mask of the faulty sites (document 01: lying sites):
-- 1 to 11 sites, at most 2 faults, n at least 5 f + 1, no bit from n on, at most f bits.
unfoldable pub good_table : ℕ → ℕ → ℕ → Bool
good_table n f mask =
    leb 1 n && leb n max_sites && leb f max_faults && leb (5 * f + 1) n && ltb mask (2 ^ n) && leb (count n (has mask)) f

-- A table within the limits.
abbrev pub is_good : SiteTable → Bool
is_good t = good_table t.sites t.faults t.mask

-- ---- the table in bytes

-- A table is lent to one site in 2 bytes: n, f. A run's header begins with them, and then comes the mask.
abbrev pub table_size : ℕ
table_size = 2

abbrev pub marked_size : ℕ
marked_size = table_size + 2

-- The table that bytes begin with, with a mask.
abbrev pub table_with : List ℕ → ℕ → SiteTable
table_with b mask = record { sites = read_le 1 b 0; faults = read_le 1 b 1; mask = mask }

-- With no site marked as faulty, as one site has it.
abbrev pub table_in : List ℕ → SiteTable
table_in b = table_with b 0

-- With the mask that follows, as a run has it.
abbrev pub marked_in : List ℕ → SiteTable
marked_in b = table_with b (read_le 2 b table_size)

-- The bytes begin with a table within the limits; what follows it may be anything.
abbrev pub good_table_in : List ℕ → Bool
good_table_in b = leb table_size (length b) && is_good (table_in b)

abbrev pub good_marked_in : List ℕ → Bool
good_marked_in b = leb marked_size (length b) && is_good (marked_in b)

-- The table where it is good, else the refusal.
abbrev pub table_as : Bool → SiteTable → Result SiteTable Refusal
table_as good t = cond good (Ok t) (Err Table)

abbrev pub read_table : List ℕ → Result SiteTable Refusal
read_table b = table_as (good_table_in b) (table_in b)

abbrev pub read_marked : List ℕ → Result SiteTable Refusal
read_marked b = table_as (good_marked_in b) (marked_in b)

-- ---- the thresholds

-- How many acknowledgments deliver fast.
abbrev pub n_ack_of : SiteTable → ℕ
n_ack_of t = t.sites - t.faults

-- How many valid entries decide a round.
abbrev pub n_chk_of : SiteTable → ℕ
n_chk_of t = t.sites - t.faults

-- Half of a number, rounded up.
abbrev pub rounded_up_half : ℕ → ℕ
rounded_up_half x = (x + 1) / 2

-- A majority of a round: the rounded-up half of nChk + 1.
abbrev pub majority_of : SiteTable → ℕ
majority_of t = rounded_up_half (n_chk_of t + 1)

-- Whether a site is faulty: its bit of the mask is set.
abbrev pub faulty_of : SiteTable → ℕ → Bool
faulty_of t site = has t.mask site

-- How many sites are faulty.
abbrev pub faulty_count_of : SiteTable → ℕ
faulty_count_of t = count t.sites (faulty_of t)
