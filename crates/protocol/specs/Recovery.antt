-- The recovery consensus of 004 (algorithm C_absign): log entries, the standing of their sources, and the decision of a round.
-- Assumes nothing.
use Rattle.std.specs.Prelude.{Bool, true, false, ◌&&◌, ◌||◌, List, [], ◌∷◌, ℕ, ◌+◌, eqb, leb, None, Option, Some}
use Rattle.theory.specs.Sets.{Set, ∅, ◌∖◌, pick, one, any, count}
use Rattle.protocol.specs.System.{System, free}

-- One proposal in the log (004, line 2: the signed pair, broadcast atomically).
pub record Entry : Type 0 where
  pub site : ℕ
  pub round : ℕ
  pub nc : Set
  pub c : Set

abbrev pub Log : Type 0
Log = List Entry

-- Where a source stands in a round (document 01: it stands, or is struck out; 004, line 3: unique and valid).
pub data Standing : Type 0 where
  absent : Standing
  valid : Set → Set → Standing
  excluded : Standing

abbrev pub is_valid : Standing → Bool
is_valid absent = false
is_valid (valid nc c) = true
is_valid excluded = false

-- The sets of a valid source; no other source counts.
abbrev pub nc_of : Standing → Set
nc_of absent = ∅
nc_of (valid nc c) = nc
nc_of excluded = ∅

abbrev pub c_of : Standing → Set
c_of absent = ∅
c_of (valid nc c) = c
c_of excluded = ∅

-- The standing of every source.
abbrev pub Tally : Type 0
Tally = ℕ → Standing

abbrev pub nobody : Tally
nobody j = absent

-- How many entries a site has in a round.
unfoldable pub entries : ℕ → ℕ → Log → ℕ
entries j r [] = 0
entries j r (e ∷ l) = one (eqb e.site j && eqb e.round r) + entries j r l

module _ (S : System) where
  open S use {sites, n_chk, majority}

  -- A source's standing with one entry more: its only one is valid if no two commands of its NC conflict;
  -- a second entry, or a conflict in NC, excludes the source.
  abbrev pub after_entry : Entry → Standing → Standing
  after_entry e absent = pick (free S e.nc) (valid e.nc e.c) excluded
  after_entry e (valid nc c) = excluded
  after_entry e excluded = excluded

  -- The standing of the sources in round r with one entry more.
  abbrev pub add : ℕ → Tally → Entry → Tally
  add r t e j = pick (eqb e.site j && eqb e.round r) (after_entry e (t j)) (t j)

  abbrev pub valid_count : Tally → ℕ
  valid_count t = count sites (λ j. is_valid (t j))

  -- The first entry after which nChk sources are valid decides (004, line 3); later entries do not count.
  unfoldable pub decide_from : ℕ → Tally → Log → Option Tally
  decide_from r t [] = None
  decide_from r t (e ∷ l) = pick (eqb (valid_count (add r t e)) n_chk) (Some (add r t e)) (decide_from r (add r t e) l)

  -- The standing at the entry that decides round r; none where the log does not decide it.
  abbrev pub decide : ℕ → Log → Option Tally
  decide r l = decide_from r nobody l

  -- NCSet (004, line 5): the commands in at least a majority of the valid NC sets.
  abbrev pub nc_set : Tally → Set
  nc_set t m = leb majority (count sites (λ j. nc_of (t j) m))

  -- The commands of the valid NC and C sets.
  abbrev pub proposed : Tally → Set
  proposed t m = any sites (λ j. nc_of (t j) m || c_of (t j) m)

  -- CSet (004, line 6): every other command of the valid NC and C sets.
  abbrev pub c_set : Tally → Set
  c_set t = proposed t ∖ nc_set t
