-- The standing of the sources in a round (document 01, "How a round is decided"), as sets of sites.
-- Assumes nothing.
use Rattle.std.specs.Prelude.{false, ◌&&◌, List, ℕ, zero, suc, eqb, ltb}
use Rattle.theory.specs.Sets.{pick}
use Rattle.sets.specs.declared.Set.{Set}
use Rattle.sets.specs.Sets.{in_set, empty_of, with_of, without_of, size_of}
use Rattle.table.specs.declared.SiteTable.{SiteTable}
use Rattle.table.specs.Table.{n_chk_of}
use Rattle.calm.specs.Rows.{free_by}
use Rattle.entries.specs.declared.Entry.{Entry}
use Rattle.entries.specs.Entries.{entry_of}
use Rattle.standing.specs.declared.Standing.{Standing}

-- Before any entry.
abbrev pub nobody_yet : Standing
nobody_yet = record { seen = empty_of; valid = empty_of; decided = false; entries = 0 }

-- The valid sources with one entry more of a site: a first is valid if no two commands of its NC conflict,
-- a second excludes the source.
unfoldable pub valid_after : List ℕ → ℕ → Set → Standing → Set
valid_after rows site nc s =
    pick (in_set s.seen site) (without_of s.valid (with_of empty_of site))
    (pick (free_by rows (in_set nc)) (with_of s.valid site) s.valid)

-- The standing with an entry of the round and of a site of the table added, the k-th of the log.
abbrev pub marked : SiteTable → List ℕ → ℕ → Entry → Standing → Standing
marked t rows k e s =
    record {
      seen = with_of s.seen e.site;
      valid = valid_after rows e.site e.nc s;
      decided = eqb (size_of (valid_after rows e.site e.nc s)) (n_chk_of t);
      entries = k;
    }

-- The standing with one entry added. Other rounds and sites beyond the table do not count.
unfoldable pub with_entry : SiteTable → List ℕ → ℕ → ℕ → Entry → Standing → Standing
with_entry t rows r k e s = pick (eqb e.round r && ltb e.site t.sites) (marked t rows k e s) s

-- The standing after k entries is that after one entry fewer, with one entry added; after the entry that decides
-- the round it stays.
unfoldable pub standing_of : SiteTable → List ℕ → ℕ → List ℕ → ℕ → Standing
standing_of t rows r b zero = nobody_yet
standing_of t rows r b (suc k) =
    pick (standing_of t rows r b k).decided (standing_of t rows r b k)
    (with_entry t rows r (suc k) (entry_of b k) (standing_of t rows r b k))
