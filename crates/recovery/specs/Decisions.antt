-- The decision of a round as words: what the protocol's decision is to a site, and how commands are counted, set by set.
-- Assumes nothing.
use Rattle.std.specs.Prelude.{◌≡◌, Bool, true, ◌&&◌, ◌||◌, List, [], ◌∷◌, ℕ, zero, suc, eqb, leb, get_or, replicate, None, Option, Some}
use Rattle.theory.specs.Sets.{pick, any, count}
use Rattle.sets.specs.declared.Set.{Set}
use Rattle.sets.specs.Sets.{capacity, in_set, set_of, empty_of, union_of, common_of, without_of, within_of}
use Rattle.table.specs.declared.SiteTable.{SiteTable}
use Rattle.table.specs.Table.{majority_of}
use Rattle.protocol.specs.System.{System}
use Rattle.protocol.specs.Recovery.{Tally, nc_set, c_set}
use Rattle.entries.specs.declared.Entry.{Entry}
use Rattle.entries.specs.Entries.{entry_of}
use Rattle.recovery.specs.declared.Sets.{Sets}
use Rattle.recovery.specs.declared.Levels.{Levels}

-- NCSet and CSet of a decision.
abbrev pub sets_of : System → Tally → Sets
sets_of S t = record { nc = set_of capacity (nc_set S t); c = set_of capacity (c_set S t) }

-- The protocol's decision, as an answer.
abbrev pub decision_of : System → Option Tally → Option Sets
decision_of S None = None
decision_of S (Some t) = Some (sets_of S t)

-- The sets of a decision, where there is one, are within so many commands.
abbrev pub DecisionWithin : ℕ → Option Sets → Type 0
DecisionWithin commands None = Unit {0}
DecisionWithin commands (Some x) = (within_of x.nc commands ≡ true) × (within_of x.c commands ≡ true)

-- An entry of the round and of a source in a set.
abbrev pub counts_in : ℕ → Set → Entry → Bool
counts_in r valid e = eqb e.round r && in_set valid e.site

-- In how many NC sets of the sources' entries among the first n command m is,
abbrev pub nc_count : List ℕ → ℕ → Set → ℕ → ℕ → ℕ
nc_count b r valid n m = count n (λ i. counts_in r valid (entry_of b i) && in_set (entry_of b i).nc m)

-- and whether it is in any of their sets.
abbrev pub in_any : List ℕ → ℕ → Set → ℕ → ℕ → Bool
in_any b r valid n m = any n (λ i. counts_in r valid (entry_of b i) && (in_set (entry_of b i).nc m || in_set (entry_of b i).c m))

-- The commands in at least k of those NC sets.
abbrev pub at_least : List ℕ → ℕ → Set → ℕ → ℕ → Set
at_least b r valid n k = set_of capacity (λ m. leb k (nc_count b r valid n m))

-- How many levels there are: as many as a majority of the greatest table.
abbrev pub max_level : ℕ
max_level = 6

-- The levels from the k-th on, so many of them.
unfoldable pub levels_from : (ℕ → Set) → ℕ → ℕ → List Set
levels_from level k zero = []
levels_from level k (suc c) = level k ∷ levels_from level (suc k) c

-- All levels after n entries.
unfoldable pub levels_of : List ℕ → ℕ → Set → ℕ → Levels
levels_of b r valid n = record { at_least = levels_from (at_least b r valid n) 1 max_level; proposed = set_of capacity (in_any b r valid n) }

abbrev pub no_levels : Levels
no_levels = record { at_least = replicate max_level empty_of; proposed = empty_of }

-- A level with one NC set more.
unfoldable pub level_with : Set → Set → Set → Set
level_with level below nc = union_of level (common_of below nc)

-- The levels above another with one NC set more.
unfoldable pub above_with : Set → Set → List Set → List Set
above_with nc below [] = []
above_with nc below (level ∷ above) = level_with level below nc ∷ above_with nc level above

-- All levels with one source's sets more. Below the lowest level every command counts, so the NC set itself stands there.
unfoldable pub levels_with : Levels → Set → Set → Levels
levels_with l nc c = record { at_least = above_with nc nc l.at_least; proposed = union_of l.proposed (union_of nc c) }

-- All levels with one entry more.
unfoldable pub levels_after : ℕ → Set → Entry → Levels → Levels
levels_after r valid e l = pick (counts_in r valid e) (levels_with l e.nc e.c) l

-- One level by its number; there is none of another number.
abbrev pub level_of : Levels → ℕ → Set
level_of l zero = empty_of
level_of l (suc k) = get_or l.at_least k empty_of

-- The sets that the sources' entries among the first n make: the commands in at least a majority of the NC sets, and every other
-- command of the sets.
unfoldable pub found_sets : SiteTable → List ℕ → ℕ → Set → ℕ → Sets
found_sets t b r valid n =
    let nc = level_of (levels_of b r valid n) (majority_of t) in
    record { nc = nc; c = without_of (levels_of b r valid n).proposed nc }
