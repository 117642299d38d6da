-- The protocol's standing after the first k entries of bytes, and how one entry more changes it and the decision.
-- Assumes nothing.
use Rattle.std.specs.Prelude.{None, Option, Some}
use mathlib.Core.Path.{◌≡◌, refl, sym, ap, ◌∙◌}
use mathlib.Core.Bool.{Bool, true, false, ◌&&◌}
use mathlib.Core.List.{List, [], ◌∷◌, ◌++◌, foldl}
use mathlib.Core.Logic.{◌⊎◌, inl, inr}
use Prim.Native.Nat.{ℕ, zero, suc, ◌≤◌, ◌<◌}
use native.Mathlib.Omega.{arith}
use lib.Dec.{eqb}
use Rattle.theory.specs.Sets.{pick}
use Rattle.theory.specs.Counting.{last_or_below}
use Rattle.protocol.specs.System.{System}
use Rattle.protocol.specs.Recovery.{Entry, Log, excluded, Tally, nobody, after_entry, add, valid_count, decide_from, decide}
use Rattle.protocol.specs.StandingLaws.{tally, none-some}
use Rattle.protocol.specs.RecoveryLaws.{decide_grows}
use Rattle.entries.specs.Entries.{entry_of, view_entry, log_to}

module _ (S : System) (r : ℕ) where
  -- A standing decides where nChk sources are valid.
  abbrev pub decided_by : Tally → Option Tally
  decided_by t = pick (eqb (valid_count S t) S.n_chk) (Some t) None

  fold_last : (t : Tally) (l : Log) (e : Entry) → foldl (add S r) t (l ++ (e ∷ [])) ≡ add S r (foldl (add S r) t l) e
  fold_last t [] e = refl
  fold_last t (x ∷ l) e = fold_last (add S r t x) l e

  -- A log that does not decide, with one entry more.
  decide_last : (t : Tally) (l : Log) (e : Entry) → decide_from S r t l ≡ None
      → decide_from S r t (l ++ (e ∷ [])) ≡ decided_by (foldl (add S r) t (l ++ (e ∷ [])))
  unfolding decide_from
  decide_last t [] e h = refl
  decide_last t (x ∷ l) e h = go (eqb (valid_count S (add S r t x)) S.n_chk) h (decide_last (add S r t x) l e)
    where
      go : (b : Bool) → pick b (Some (add S r t x)) (decide_from S r (add S r t x) l) ≡ None
          → (decide_from S r (add S r t x) l ≡ None
          → decide_from S r (add S r t x) (l ++ (e ∷ [])) ≡ decided_by (foldl (add S r) (add S r t x) (l ++ (e ∷ []))))
          → pick b (Some (add S r t x)) (decide_from S r (add S r t x) (l ++ (e ∷ []))) ≡ decided_by (foldl (add S r) (add S r t x) (l ++ (e ∷ [])))
      go true h ih = none-some (sym h)
      go false h ih = ih h

  module _ (b : List ℕ) where
    -- The standing after the first k entries.
    unfoldable pub tally_to : ℕ → Tally
    tally_to zero = nobody
    tally_to (suc k) = add S r (tally_to k) (view_entry (entry_of b k))

    pub tally_to_lem : (k : ℕ) → tally S r (log_to b k) ≡ tally_to k
    unfolding log_to tally_to
    tally_to_lem zero = refl
    tally_to_lem (suc k) =
        fold_last nobody (log_to b k) (view_entry (entry_of b k)) ∙ ap (λ (t : Tally). add S r t (view_entry (entry_of b k))) (tally_to_lem k)

    pub decide-none : decide S r (log_to b 0) ≡ None
    unfolding log_to decide_from
    decide-none = refl

    pub decide-more : (k : ℕ) → decide S r (log_to b k) ≡ None → decide S r (log_to b (suc k)) ≡ decided_by (tally_to (suc k))
    unfolding log_to
    decide-more k h = decide_last nobody (log_to b k) (view_entry (entry_of b k)) h ∙ ap decided_by (tally_to_lem (suc k))

    pub decide_stays : (k : ℕ) (d : Tally) → decide S r (log_to b k) ≡ Some d → decide S r (log_to b (suc k)) ≡ Some d
    unfolding log_to
    decide_stays k d h = decide_grows S r (log_to b k) (view_entry (entry_of b k) ∷ []) d h

    -- The standing of a source with one entry more: the entry's own source, and another.
    pub tally_source : (k j : ℕ) → (eqb (entry_of b k).site j && eqb (entry_of b k).round r) ≡ true
        → tally_to (suc k) j ≡ after_entry S (view_entry (entry_of b k)) (tally_to k j)
    unfolding tally_to
    tally_source k j h = ap (λ (c : Bool). pick c (after_entry S (view_entry (entry_of b k)) (tally_to k j)) (tally_to k j)) h

    pub tally_other : (k j : ℕ) → (eqb (entry_of b k).site j && eqb (entry_of b k).round r) ≡ false → tally_to (suc k) j ≡ tally_to k j
    unfolding tally_to
    tally_other k j h = ap (λ (c : Bool). pick c (after_entry S (view_entry (entry_of b k)) (tally_to k j)) (tally_to k j)) h

    -- An excluded source stays excluded.
    excluded_next : (k j : ℕ) → tally_to k j ≡ excluded → tally_to (suc k) j ≡ excluded
    unfolding tally_to
    excluded_next k j h = go (eqb (entry_of b k).site j && eqb (entry_of b k).round r)
      where
        go : (c : Bool) → pick c (after_entry S (view_entry (entry_of b k)) (tally_to k j)) (tally_to k j) ≡ excluded
        go true = ap (after_entry S (view_entry (entry_of b k))) h
        go false = h

    pub excluded_stays : (k n j : ℕ) → k ≤ n → tally_to k j ≡ excluded → tally_to n j ≡ excluded
    excluded_stays k zero j l h = let q : 0 ≡ k = omega arith in ap (λ (x : ℕ). tally_to x j) q ∙ h
    excluded_stays k (suc n) j l h = go (last_or_below k (suc n) (omega arith)) (λ g. excluded_stays k n j g h)
      where
        go : (k ≡ suc n) ⊎ (k < suc n) → (k ≤ n → tally_to n j ≡ excluded) → tally_to (suc n) j ≡ excluded
        go (inl e) f = ap (λ (x : ℕ). tally_to x j) (sym e) ∙ h
        go (inr g) f = excluded_next n j (f (omega arith))
