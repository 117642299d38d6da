-- Who has entries of a round, and where its first is, with one entry more.
-- Assumes nothing.
use mathlib.Core.Path.{◌≡◌, refl, sym, ap, ◌∙◌}
use Rattle.std.specs.Prelude.{None, Some, Option, IsSome, IfSome, IsSomeAnd}
use Rattle.std.specs.Option.{option_or}
use Rattle.std.proofs.lemmas.Option.{IfSome_then}
use mathlib.Core.Bool.{true, false, not}
use mathlib.Core.List.{List}
use mathlib.Core.Logic.{◌⊎◌, inl, inr}
use Prim.Native.Nat.{ℕ, zero, suc, ◌+◌, ◌≤◌, ◌<◌}
use native.Mathlib.Decide.{ℕ_discrete}
use native.Mathlib.Numerals.{add-one}
use native.Mathlib.Omega.{arith}
use lib.Dec.{ltb}
use borrow.Author.Tests.{lt-ltb, le-ltb, ltb-true, ltb-false}
use Rattle.theory.specs.Counting.{last_or_below}
use Rattle.sets.specs.declared.Set.{Set}
use Rattle.sets.specs.Sets.{in_set, with_of}
use Rattle.table.specs.Table.{max_sites}
use Rattle.protocol.specs.Recovery.{Log, entries}
use Rattle.entries.specs.declared.Entry.{Entry}
use Rattle.entries.specs.Entries.{entry_of, log_to}
use Rattle.entries.proofs.Logs.{log_same}
use Rattle.entries.proofs.Judging.{entries_none, entries_next, one_yes, one_no_site, one_no_round}
use Rattle.standing.proofs.Agreement.{with_same, with_other}
use Rattle.rounds.specs.declared.Round.{Round}
use Rattle.rounds.specs.Rounds.{noted_of, again_of, Counts}
use Rattle.rounds.proofs.Waiting.{with_member}

-- A site with an entry of a round has it somewhere.
some_entry : (log : List ℕ) (j r k : ℕ) → 0 < entries j r (log_to log k) → (i : ℕ) × (i < k) × ((entry_of log i).round ≡ r)
some_entry log j r zero l = absurd (omega (arith, entries_none log j r))
some_entry log j r (suc k) l = go (ℕ_discrete (entry_of log k).round r) (some_entry log j r k)
  where
    go : Dec ((entry_of log k).round ≡ r) → (0 < entries j r (log_to log k) → (i : ℕ) × (i < k) × ((entry_of log i).round ≡ r))
        → (i : ℕ) × (i < suc k) × ((entry_of log i).round ≡ r)
    go (yes q) f = (k, omega arith, q)
    go (no n) f =
        let none = one_no_round log j r k refl n in
        let same = ap (λ (m : ℕ). entries j r (log_to log m)) (sym (add-one k)) ∙ entries_next log j r k in
        let w = f (omega arith) in
        (w.0, omega (arith, w.1), w.2)

-- ---- the place of the first entry

module _ (k : ℕ) where
  within_next : (o : Option ℕ) → IfSome o (λ f. (0 < f) × (f ≤ k)) → IfSome o (λ f. (0 < f) × (f ≤ k + 1))
  within_next o h = IfSome_then o h (λ f l. (l.0, omega (arith, l.1)))

  within_more : (o : Option ℕ) → IfSome o (λ f. (0 < f) × (f ≤ k)) → IfSome (option_or o (Some (k + 1))) (λ f. (0 < f) × (f ≤ k + 1))
  within_more None h = (omega arith, omega arith)
  within_more (Some f) h = within_next (Some f) h

  first_own : (o : Option ℕ) → IfSome o (λ f. (0 < f) × (f ≤ k)) → (i : ℕ) → i ≡ k → IsSomeAnd (option_or o (Some (k + 1))) (λ f. f ≤ i + 1)
  first_own None h i q = omega arith
  first_own (Some f) h i q = omega (arith, h.1)

  first_before : (o : Option ℕ) (i : ℕ) → IsSomeAnd o (λ f. f ≤ i + 1) → IsSomeAnd (option_or o (Some (k + 1))) (λ f. f ≤ i + 1)
  first_before None i h = absurd h
  first_before (Some f) i h = h

first_later : (o : Option ℕ) {i j : ℕ} → i ≤ j → IsSomeAnd o (λ f. f ≤ i + 1) → IsSomeAnd o (λ f. f ≤ j + 1)
first_later None l h = h
first_later (Some f) l h = omega arith

some_place : (o : Option ℕ) (P : ℕ → Type 0) → IsSomeAnd o P → IsSome o
some_place None P h = absurd h
some_place (Some f) P h = refl

-- Where the k-th entry is of the round, the round has a first.
module _ (log : List ℕ) (k r : ℕ) (x : Round) (er : (entry_of log k).round ≡ r) (h : Counts log (k + 1) r x) where
  pub some_first : IsSome x.first
  some_first = some_place x.first (λ f. f ≤ k + 1) (h.first k (omega arith) er)

-- ---- one entry more

module _ (log : List ℕ) (k r : ℕ) (x : Round) where
  -- How many entries a site has with one more: another site's or round's does not count.
  more_own : (j : ℕ) → (entry_of log k).round ≡ r → (entry_of log k).site ≡ j → entries j r (log_to log (k + 1)) ≡ entries j r (log_to log k) + 1
  more_own j er es = entries_next log j r k ∙ ap (λ (n : ℕ). entries j r (log_to log k) + n) (sym (one_yes log j r k refl refl er es))

  plus_none : (j : ℕ) {n : ℕ} → 0 ≡ n → entries j r (log_to log k) + n ≡ entries j r (log_to log k)
  plus_none j e = omega arith

  more_site : (j : ℕ) → ((entry_of log k).site ≡ j → ⊥) → entries j r (log_to log (k + 1)) ≡ entries j r (log_to log k)
  more_site j d = entries_next log j r k ∙ plus_none j (one_no_site log j r k refl d)

  more-round : (j : ℕ) → ((entry_of log k).round ≡ r → ⊥) → entries j r (log_to log (k + 1)) ≡ entries j r (log_to log k)
  more-round j d = entries_next log j r k ∙ plus_none j (one_no_round log j r k refl d)

  -- An entry of another round.
  pub counts_other : ((entry_of log k).round ≡ r → ⊥) → Counts log k r x → Counts log (k + 1) r x
  counts_other d h =
      record {
        once = λ j l. h.once j l ∙ ap (ltb 0) (sym (more-round j d));
        twice = λ j l. h.twice j l ∙ ap (λ (n : ℕ). not (ltb n 2)) (sym (more-round j d));
        first = λ i l e. earlier i (last_or_below i k (omega arith)) e;
        within = within_next k x.first h.within;
      }
    where
      earlier : (i : ℕ) → (i ≡ k) ⊎ (i < k) → (entry_of log i).round ≡ r → IsSomeAnd x.first (λ f. f ≤ i + 1)
      earlier i (inl q) e = absurd (d (ap (λ (n : ℕ). (entry_of log n).round) (sym q) ∙ e))
      earlier i (inr l) e = h.first i l e

  -- An entry of the round.
  module _ (site : ℕ) (er : (entry_of log k).round ≡ r) (es : (entry_of log k).site ≡ site) (few : site < max_sites) (h : Counts log k r x) where
    once_more : (j : ℕ) → j < max_sites → Dec (j ≡ site) → in_set (with_of x.once site) j ≡ ltb 0 (entries j r (log_to log (k + 1)))
    once_more j l (yes q) =
        ap (in_set (with_of x.once site)) q ∙ with_same x.once site
        ∙ sym (lt-ltb 0 (entries j r (log_to log (k + 1))) (omega (arith, more_own j er (es ∙ sym q))))
    once_more j l (no n) =
        with_other x.once site j n ∙ h.once j l ∙ ap (ltb 0) (sym (more_site j (λ q. n (sym q ∙ es))))

    -- With its second entry, and not before, the site is among those with two.
    first_twice : in_set x.once site ≡ false → (j : ℕ) → j < max_sites → Dec (j ≡ site) → in_set x.twice j ≡ not (ltb (entries j r (log_to log (k + 1))) 2)
    first_twice e j l (yes q) =
        let n = ltb-false 0 (entries j r (log_to log k)) (sym (h.once j l) ∙ ap (in_set x.once) q ∙ e) in
        h.twice j l ∙ ap not (lt-ltb (entries j r (log_to log k)) 2 (omega arith))
        ∙ sym (ap not (lt-ltb (entries j r (log_to log (k + 1))) 2 (omega (arith, more_own j er (es ∙ sym q)))))
    first_twice e j l (no n) = h.twice j l ∙ ap (λ (m : ℕ). not (ltb m 2)) (sym (more_site j (λ q. n (sym q ∙ es))))

    again_twice : in_set x.once site ≡ true → (j : ℕ) → j < max_sites → Dec (j ≡ site)
        → in_set (with_of x.twice site) j ≡ not (ltb (entries j r (log_to log (k + 1))) 2)
    again_twice e j l (yes q) =
        let n = ltb-true 0 (entries j r (log_to log k)) (sym (h.once j l) ∙ ap (in_set x.once) q ∙ e) in
        ap (in_set (with_of x.twice site)) q ∙ with_same x.twice site
        ∙ sym (ap not (le-ltb (entries j r (log_to log (k + 1))) 2 (omega (arith, more_own j er (es ∙ sym q)))))
    again_twice e j l (no n) =
        with_other x.twice site j n ∙ h.twice j l ∙ ap (λ (m : ℕ). not (ltb m 2)) (sym (more_site j (λ q. n (sym q ∙ es))))

    -- The site's first entry of the round,
    pub counts_first : in_set x.once site ≡ false → Counts log (k + 1) r (noted_of x site (k + 1))
    counts_first e =
        record {
          once = λ j l. once_more j l (ℕ_discrete j site);
          twice = λ j l. first_twice e j l (ℕ_discrete j site);
          first = λ i l e. first_more i (last_or_below i k (omega arith)) e;
          within = within_more k x.first h.within;
        }
      where
        first_more : (i : ℕ) → (i ≡ k) ⊎ (i < k) → (entry_of log i).round ≡ r → IsSomeAnd (option_or x.first (Some (k + 1))) (λ f. f ≤ i + 1)
        first_more i (inl q) g = first_own k x.first h.within i q
        first_more i (inr l) g = first_before k x.first i (h.first i l g)

    -- and another: the round has one already.
    pub counts_again : in_set x.once site ≡ true → Counts log (k + 1) r (again_of x site)
    counts_again e =
        record {
          once = λ j l. ap (λ (s : Set). in_set s j) (sym (with_member x.once site e)) ∙ once_more j l (ℕ_discrete j site);
          twice = λ j l. again_twice e j l (ℕ_discrete j site);
          first = λ i l g. earlier i (last_or_below i k (omega arith)) g;
          within = within_next k x.first h.within;
        }
      where
        earlier : (i : ℕ) → (i ≡ k) ⊎ (i < k) → (entry_of log i).round ≡ r → IsSomeAnd x.first (λ f. f ≤ i + 1)
        earlier i (inl q) g =
            let w = some_entry log site r k (ltb-true 0 (entries site r (log_to log k)) (sym (h.once site few) ∙ e)) in
            first_later x.first (omega (arith, w.1)) (h.first w.0 w.1 w.2)
        earlier i (inr l) g = h.first i l g

-- The same entries count the same.
pub counts_same : (a b : List ℕ) (k r : ℕ) (x : Round) → ((i : ℕ) → i < k → entry_of a i ≡ entry_of b i) → Counts a k r x → Counts b k r x
counts_same a b k r x e h =
    let same = log_same a b k e in
    record {
      once = λ j l. h.once j l ∙ ap (λ (z : Log). ltb 0 (entries j r z)) same;
      twice = λ j l. h.twice j l ∙ ap (λ (z : Log). not (ltb (entries j r z) 2)) same;
      first = λ i l q. h.first i l (ap (λ (y : Entry). y.round) (e i l) ∙ q);
      within = h.within;
    }
