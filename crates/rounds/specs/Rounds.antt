-- What is kept of each round of a growing log: who has entries of it, whether and where the log decides it, and the decided sets.
-- Assumes nothing.
use Rattle.std.specs.Prelude.{◌≡◌, false, not, List, ℕ, ◌+◌, ◌≤◌, ◌<◌, leb, ltb, get_or, None, Option, Some, is_some, IsNone, IfSome, IsSomeAnd}
use Rattle.std.specs.Option.{option_or}
use Rattle.theory.specs.Sets.{pick}
use Rattle.sets.specs.Sets.{in_set, empty_of, with_of, without_of}
use Rattle.table.specs.declared.SiteTable.{SiteTable}
use Rattle.table.specs.Table.{max_sites}
use Rattle.protocol.specs.Recovery.{entries, decide}
use Rattle.calm.specs.Rows.{rows_system}
use Rattle.entries.specs.Entries.{entry_of, log_to}
use Rattle.standing.specs.Standings.{standing_of}
use Rattle.recovery.specs.declared.Sets.{Sets}
use Rattle.recovery.specs.Decisions.{decision_of}
use Rattle.rounds.specs.declared.Decided.{Decided}
use Rattle.rounds.specs.declared.Round.{Round}
use Rattle.rounds.specs.declared.Rounds.{Rounds}

-- Rounds 0 to 33 are kept.
abbrev pub kept_rounds : ℕ
kept_rounds = 34

-- A round with no entry.
abbrev pub unheard : Round
unheard = record { once = empty_of; twice = empty_of; valid = empty_of; decided = None; first = None }

-- What is kept of round r.
abbrev pub round_in : Rounds → ℕ → Round
round_in kept r = get_or kept.rounds r unheard

-- A round with a site's first entry more, at a place: only who has entries, and the first, change.
abbrev pub noted_of : Round → ℕ → ℕ → Round
noted_of x site place =
    record {
      once = with_of x.once site;
      twice = x.twice;
      valid = x.valid;
      decided = x.decided;
      first = option_or x.first (Some place);
    }

-- A round with another entry of a site that has one: the site has two, and is no valid source while no entry decides the round.
abbrev pub again_of : Round → ℕ → Round
again_of x site =
    record {
      once = x.once;
      twice = with_of x.twice site;
      valid = pick (is_some x.decided) x.valid (without_of x.valid (with_of empty_of site));
      decided = x.decided;
      first = x.first;
    }

-- A round that the entry at a place decides.
abbrev pub decided_of : Round → ℕ → Sets → Round
decided_of x place found =
    record {
      once = x.once;
      twice = x.twice;
      valid = x.valid;
      decided = Some (record { place = place; sets = found });
      first = x.first;
    }

-- The decision at a log position: the sets, once the deciding entry is before it.
abbrev pub answer_at : Option Decided → ℕ → Option Sets
answer_at None p = None
answer_at (Some d) p = pick (leb d.place p) (Some d.sets) None

module _ (log : List ℕ) (k r : ℕ) where
  -- Of the first k entries: the sites with one of round r, those with two, and a place before which the round has none
  -- (the place of an entry is how many entries the log has with it).
  pub record Counts (x : Round) : Type 0 where
    pub once : (j : ℕ) → j < max_sites → in_set x.once j ≡ ltb 0 (entries j r (log_to log k))
    pub twice : (j : ℕ) → j < max_sites → in_set x.twice j ≡ not (ltb (entries j r (log_to log k)) 2)
    pub first : (i : ℕ) → i < k → (entry_of log i).round ≡ r → IsSomeAnd x.first (λ f. f ≤ i + 1)
    pub within : IfSome x.first (λ f. (0 < f) × (f ≤ k))

  -- The decision of round r at every log position up to k; while there is none, where the sources stand.
  pub record Decides (t : SiteTable) (rows : List ℕ) (x : Round) : Type 0 where
    pub place : IfSome x.decided (λ d. d.place ≤ k)
    pub answers : (p : ℕ) → p ≤ k → decision_of (rows_system t rows) (decide (rows_system t rows) r (log_to log p)) ≡ answer_at x.decided p
    pub waits : IsNone x.decided → (standing_of t rows r log k).decided ≡ false
    pub seen : IsNone x.decided → (standing_of t rows r log k).seen ≡ x.once
    pub valid : IsNone x.decided → (standing_of t rows r log k).valid ≡ x.valid

-- Of every round is kept what the first k entries of the log do.
pub record KeptTo (t : SiteTable) (rows log : List ℕ) (k : ℕ) (kept : Rounds) : Type 0 where
  pub counts : (r : ℕ) → r < kept_rounds → Counts log k r (round_in kept r)
  pub decides : (r : ℕ) → r < kept_rounds → Decides log k r t rows (round_in kept r)

-- What is kept says what the log does, with as many entries as it says that the log has.
abbrev pub Kept : SiteTable → (rows log : List ℕ) → Rounds → Type 0
Kept t rows log kept = KeptTo t rows log kept.entries kept
