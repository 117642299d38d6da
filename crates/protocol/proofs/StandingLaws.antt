-- What the standing of a source says of the log: a valid source has exactly one entry of the round, and it is free of conflicts.
-- Rests on Recovery.
use Rattle.std.specs.Prelude.{◌≡◌, Bool, true, false, ℕ, ◌+◌, eqb, Some}
use Rattle.std.proofs.Math.Path.{refl, ap}
use Rattle.std.proofs.Common.{◌∙◌, arith, eq-eqb}
use mathlib.Core.List.{[], ◌∷◌, ◌++◌}
use Rattle.theory.specs.Sets.{pick, one}
use Rattle.theory.specs.Counting.{both}
use Rattle.protocol.specs.System.{System, free}
use Rattle.protocol.specs.Recovery.{Entry, Log, Standing, absent, valid, excluded, entries, after_entry}
use Rattle.protocol.specs.StandingLaws.{logged_more, logged_last, entries-more, Backing, tally, tally_keeps, Counts, Backed, decided}
use Rattle.std.proofs.Math.Path.{subst}
use Rattle.std.proofs.Common.{sym}
use Rattle.theory.specs.Sets.{Set}
use Rattle.protocol.specs.Recovery.{Tally, decide}

backing_more : (j r : ℕ) (nc c : Set) (l more : Log) → Backing j r nc c l → Backing j r nc c (l ++ more)
backing_more j r nc c l more b =
    record { entry = b.entry; logged = logged_more b.entry l more b.logged; source = b.source; at = b.at; same_nc = b.same_nc; same_c = b.same_c }

module _ (S : System) where
  counts_new : (j r : ℕ) (l : Log) (e : Entry) (s : Standing) → entries j r (l ++ (e ∷ [])) ≡ entries j r l + 1
      → Counts S j r l s → Counts S j r (l ++ (e ∷ [])) (after_entry S e s)
  counts_new j r l e absent n h = go (free S e.nc)
    where
      go : (b : Bool) → Counts S j r (l ++ (e ∷ [])) (pick b (valid e.nc e.c) excluded)
      go true = omega arith
      go false = omega arith
  counts_new j r l e (valid nc c) n h = omega arith
  counts_new j r l e excluded n h = omega arith

  counts_old : (j r : ℕ) (l more : Log) (s : Standing) → entries j r more ≡ entries j r l → Counts S j r l s → Counts S j r more s
  counts_old j r l more absent n h = n ∙ h
  counts_old j r l more (valid nc c) n h = n ∙ h
  counts_old j r l more excluded n h = omega arith

  -- A source that is valid after a log has exactly one entry of the round in it.
  pub tally_counts : (r : ℕ) (l : Log) (j : ℕ) → Counts S j r l (tally S r l j)
  unfolding entries
  tally_counts r l j =
      tally_keeps S (λ l s. Counts S j r l s) j r
      (λ l e s ej er h. counts_new j r l e s (entries-more j r l e ∙ ap (λ (b : Bool). entries j r l + one b) (both (eqb e.site j) (eqb e.round r) (eq-eqb e.site j ej) (eq-eqb e.round r er))) h)
      (λ l e s no h. counts_old j r l (l ++ (e ∷ [])) s (entries-more j r l e ∙ ap (λ (b : Bool). entries j r l + one b) no ∙ omega arith) h)
      refl l

  backed_new : (j r : ℕ) (l : Log) (e : Entry) (s : Standing) → e.site ≡ j → e.round ≡ r → Backed S j r (l ++ (e ∷ [])) (after_entry S e s)
  backed_new j r l e absent ej er = go (free S e.nc) refl
    where
      go : (b : Bool) → free S e.nc ≡ b → Backed S j r (l ++ (e ∷ [])) (pick b (valid e.nc e.c) excluded)
      go true f = (f, record { entry = e; logged = logged_last e l; source = ej; at = er; same_nc = refl; same_c = refl })
      go false f = tt
  backed_new j r l e (valid nc c) ej er = tt
  backed_new j r l e excluded ej er = tt

  backed_old : (j r : ℕ) (l more : Log) (s : Standing) → Backed S j r l s → Backed S j r (l ++ more) s
  backed_old j r l more absent h = tt
  backed_old j r l more (valid nc c) h = (h.0, backing_more j r nc c l more h.1)
  backed_old j r l more excluded h = tt

  pub tally_backed : (r : ℕ) (l : Log) (j : ℕ) → Backed S j r l (tally S r l j)
  tally_backed r l j =
      tally_keeps S (λ l s. Backed S j r l s) j r (λ l e s ej er h. backed_new j r l e s ej er) (λ l e s no h. backed_old j r l (e ∷ []) s h) tt l

  -- A source that is valid in a decision has an entry of the round in the log, with those sets, and no two commands of its NC conflict.
  pub decided_backed : (r : ℕ) (l : Log) (d : Tally) → decide S r l ≡ Some d → (j : ℕ) → Backed S j r l (d j)
  decided_backed r l d h j =
      let k = decided S r l d h in
      subst (λ (x : Log). Backed S j r x (d j)) k.whole
      (backed_old j r k.part k.rest (d j)
      (subst (λ (t : Tally). Backed S j r k.part (t j)) (sym k.standing) (tally_backed r k.part j)))
