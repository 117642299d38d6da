-- Entries of a log, and the standing of a source after it, entry by entry. What it says of the log is proved in proofs/StandingLaws.antt.
-- Rests on Recovery.
use Rattle.std.specs.Prelude.{◌≡◌, Bool, true, false, ◌&&◌, ◌⊎◌, ℕ, ◌+◌, ◌≤◌, eqb, None, Option, Some}
use Rattle.std.proofs.Math.Path.{refl, ap, subst}
use Rattle.std.proofs.Common.{sym, ◌∙◌, inl, inr, arith, eqb-true}
use mathlib.Core.List.{[], ◌∷◌, ◌++◌, foldl, append_assoc, append-nil}
use Rattle.theory.specs.Sets.{Set, pick, one}
use Rattle.theory.specs.Counting.{left, right}
use Rattle.protocol.specs.System.{System, free}
use Rattle.protocol.specs.Recovery.{Entry, Log, Standing, absent, valid, excluded, Tally, nobody, entries, after_entry, add, valid_count, decide_from, decide}

-- Two values of an option that is some are the same.
pub same_some : {A : Type 0} {a b : A} → Some a ≡ Some b → a ≡ b
same_some e = cc

pub none-some : {A B : Type 0} {a : A} → ◌≡◌ {A = Option A} None (Some a) → B
none-some e = absurd (let z : ◌≡◌ {A = ℕ} 0 1 = cc in omega arith)

-- An entry stands in a log.
abbrev pub Logged : Entry → Log → Type 0
Logged e [] = ⊥
Logged e (x ∷ l) = (e ≡ x) ⊎ Logged e l

pub logged_more : (e : Entry) (l more : Log) → Logged e l → Logged e (l ++ more)
logged_more e [] more x' = elim x' [ ]
logged_more e (x ∷ l) more (inl h) = inl h
logged_more e (x ∷ l) more (inr h) = inr (logged_more e l more h)

pub logged_last : (e : Entry) (l : Log) → Logged e (l ++ (e ∷ []))
logged_last e [] = inl refl
logged_last e (x ∷ l) = inr (logged_last e l)

-- An entry of a longer log is an old one or the new one.
pub logged_split : (e x : Entry) (l : Log) → Logged e (l ++ (x ∷ [])) → Logged e l ⊎ (e ≡ x)
logged_split e x [] (inr h) = elim h [ ]
logged_split e x [] (inl h) = inr h
logged_split e x (y ∷ l) (inl h) = inl (inl h)
logged_split e x (y ∷ l) (inr h) = go (logged_split e x l h)
  where
    go : Logged e l ⊎ (e ≡ x) → Logged e (y ∷ l) ⊎ (e ≡ x)
    go (inl k) = inl (inr k)
    go (inr k) = inr k

pub entries-more : (j r : ℕ) (l : Log) (e : Entry) → entries j r (l ++ (e ∷ [])) ≡ entries j r l + one (eqb e.site j && eqb e.round r)
unfolding entries
entries-more j r [] e = omega arith
entries-more j r (x ∷ l) e = omega (arith, entries-more j r l e)

-- One entry of a source and round, with these sets.
pub record Backing (j r : ℕ) (nc c : Set) (l : Log) : Type 0 where
  pub entry : Entry
  pub logged : Logged entry l
  pub source : entry.site ≡ j
  pub at : entry.round ≡ r
  pub same_nc : entry.nc ≡ nc
  pub same_c : entry.c ≡ c

module _ (S : System) where
  open S use {n_chk}

  -- The standing of the sources in round r after a log, one entry after another.
  abbrev pub tally : ℕ → Log → Tally
  tally r l = foldl (add S r) nobody l

  -- What one source's entries of a round keep, entry by entry, its standing keeps.
  module _ (P : Log → Standing → Type 0) (j r : ℕ)
      (new : (l : Log) (e : Entry) (s : Standing) → e.site ≡ j → e.round ≡ r → P l s → P (l ++ (e ∷ [])) (after_entry S e s))
      (old : (l : Log) (e : Entry) (s : Standing) → (eqb e.site j && eqb e.round r) ≡ false → P l s → P (l ++ (e ∷ [])) s) where
    add_keeps : (l : Log) (t : Tally) (e : Entry) → P l (t j) → P (l ++ (e ∷ [])) (add S r t e j)
    add_keeps l t e h = go (eqb e.site j && eqb e.round r) refl
      where
        go : (b : Bool) → (eqb e.site j && eqb e.round r) ≡ b → P (l ++ (e ∷ [])) (pick b (after_entry S e (t j)) (t j))
        go true eb =
            new l e (t j) (eqb-true e.site j (left (eqb e.site j) (eqb e.round r) eb))
            (eqb-true e.round r (right (eqb e.site j) (eqb e.round r) eb)) h
        go false eb = old l e (t j) eb h

    fold_keeps : (l more : Log) (t : Tally) → P l (t j) → P (l ++ more) (foldl (add S r) t more j)
    fold_keeps l [] t h = rw append-nil h
    fold_keeps l (e ∷ more) t h =
        subst (λ (x : Log). P x (foldl (add S r) (add S r t e) more j)) (append_assoc l (e ∷ []) more)
        (fold_keeps (l ++ (e ∷ [])) more (add S r t e) (add_keeps l t e h))

    pub tally_keeps : P [] absent → (l : Log) → P l (tally r l j)
    tally_keeps h l = fold_keeps [] l nobody h

  -- How many entries of the round a source has.
  abbrev pub Counts : ℕ → ℕ → Log → Standing → Type 0
  Counts j r l absent = entries j r l ≡ 0
  Counts j r l (valid nc c) = entries j r l ≡ 1
  Counts j r l excluded = 1 ≤ entries j r l

  -- A valid source is backed by an entry whose NC is free of conflicts.
  abbrev pub Backed : ℕ → ℕ → Log → Standing → Type 0
  Backed j r l absent = Unit {0}
  Backed j r l (valid nc c) = (free S nc ≡ true) × Backing j r nc c l
  Backed j r l excluded = Unit {0}

  -- The part of a log that decides a round, and what follows it.
  pub record Decided (r : ℕ) (l : Log) (d : Tally) : Type 0 where
    pub part : Log
    pub rest : Log
    pub whole : part ++ rest ≡ l
    pub standing : d ≡ tally r part

  decided_from : (r : ℕ) (l more : Log) (t d : Tally) → t ≡ tally r l → decide_from S r t more ≡ Some d → Decided r (l ++ more) d
  unfolding decide_from
  decided_from r l [] t d e h = none-some h
  decided_from r l (x ∷ more) t d e h =
      go (eqb (valid_count S (add S r t x)) n_chk) h
      (λ k. subst (λ (w : Log). Decided r w d) (append_assoc l (x ∷ []) more) (decided_from r (l ++ (x ∷ [])) more (add S r t x) d step k))
    where
      fold_more : (t : Tally) (a : Log) → foldl (add S r) t (a ++ (x ∷ [])) ≡ add S r (foldl (add S r) t a) x
      fold_more t [] = refl
      fold_more t (y ∷ a) = fold_more (add S r t y) a

      step : add S r t x ≡ tally r (l ++ (x ∷ []))
      step = ap (λ (t : Tally). add S r t x) e ∙ sym (fold_more nobody l)

      go : (b : Bool) → pick b (Some (add S r t x)) (decide_from S r (add S r t x) more) ≡ Some d
          → (decide_from S r (add S r t x) more ≡ Some d → Decided r (l ++ (x ∷ more)) d) → Decided r (l ++ (x ∷ more)) d
      go true h ih = record { part = l ++ (x ∷ []); rest = more; whole = append_assoc l (x ∷ []) more; standing = sym (same_some h) ∙ step }
      go false h ih = ih h

  pub decided : (r : ℕ) (l : Log) (d : Tally) → decide S r l ≡ Some d → Decided r l d
  decided r l d h = decided_from r [] l nobody d refl h
