-- The standing as sets of sites agrees with the protocol's: which sources are seen and valid, whether the round is decided, and where.
-- Assumes nothing.
use Rattle.std.specs.Prelude.{None, Some}
use mathlib.Core.Path.{◌≡◌, refl, sym, ap, ◌∙◌, subst}
use mathlib.Core.Bool.{Bool, true, false, ◌&&◌, ◌||◌}
use mathlib.Core.List.{List}
use Prim.Native.Nat.{ℕ, zero, suc, ◌+◌, ◌-◌, ◌≤◌, ◌<◌}
use native.Mathlib.Decide.{ℕ_discrete}
use native.Mathlib.Omega.{arith}
use lib.Dec.{eqb, ltb}
use borrow.Author.Tests.{lt-ltb, ltb-true, eq-eqb, ne_eqb, eqb-true}
use Rattle.theory.specs.Sets.{pick, count}
use Rattle.theory.specs.Counting.{both, left, right, or_true, never, count_ext, count_no, and_true, or_false, pick_same, count_of_none}
use Rattle.sets.specs.declared.Set.{Set}
use Rattle.sets.specs.Sets.{capacity, in_set, empty_of, with_of, without_of, size_of}
use Rattle.sets.proofs.Laws.{in_empty, in_with}
use Rattle.table.specs.declared.SiteTable.{SiteTable}
use Rattle.table.specs.Table.{is_good, n_chk_of}
use Rattle.table.proofs.Laws.{good_limits}
use Rattle.protocol.specs.Recovery as recovery
use Rattle.protocol.specs.Recovery.{absent, valid, excluded, is_valid, Tally, after_entry, valid_count, decide}
use Rattle.calm.specs.Rows.{free_by, rows_system}
use Rattle.calm.proofs.Laws.{less_same, less_other}
use Rattle.entries.specs.declared.Entry.{Entry}
use Rattle.entries.specs.Entries.{entry_of, view_entry, log_to}
use Rattle.standing.specs.declared.Standing.{Standing}
use Rattle.standing.specs.Standings.{nobody_yet, valid_after, marked, with_entry, standing_of}
use Rattle.standing.proofs.Tallies.{tally_to, decide-none, decide-more, decide_stays, tally_source, tally_other}

-- A source with an entry of the round.
abbrev pub is_seen : recovery.Standing → Bool
is_seen absent = false
is_seen (valid nc c) = true
is_seen excluded = true

-- A count goes no further than where its predicate ends.
count_beyond : (n d : ℕ) (p : ℕ → Bool) → ((m : ℕ) → n ≤ m → p m ≡ false) → count (n + d) p ≡ count n p
count_beyond n zero p h = let q : n + 0 ≡ n = omega arith in ap (λ (k : ℕ). count k p) q
count_beyond n (suc d) p h =
    let q : n + suc d ≡ n + d + 1 = omega arith in
    ap (λ (k : ℕ). count k p) q ∙ count_no (n + d) p (h (n + d) (omega arith)) ∙ count_beyond n d p h

pub with_same : (s : Set) (m : ℕ) → in_set (with_of s m) m ≡ true
with_same s m = in_with s m m ∙ or_true (in_set s m) (eqb m m) (eq-eqb m m refl)

pub with_other : (s : Set) (m j : ℕ) → (j ≡ m → ⊥) → in_set (with_of s m) j ≡ in_set s j
with_other s m j n = in_with s m j ∙ ap (λ (b : Bool). in_set s j || b) (ne_eqb j m n) ∙ or_false (in_set s j)

-- One entry more changes only its own source.
valid_other : (rows : List ℕ) (site : ℕ) (nc : Set) (s : Standing) (j : ℕ) → (j ≡ site → ⊥) → in_set (valid_after rows site nc s) j ≡ in_set s.valid j
unfolding valid_after
valid_other rows site nc s j n = go (in_set s.seen site) (free_by rows (in_set nc))
  where
    go : (a f : Bool) → in_set (pick a (without_of s.valid (with_of empty_of site)) (pick f (with_of s.valid site) s.valid)) j ≡ in_set s.valid j
    go true f = less_other s.valid site j n
    go false true = with_other s.valid site j n
    go false false = refl

module _ (t : SiteTable) (rows : List ℕ) where
  -- Its own source becomes what the protocol makes of it.
  valid_source : (e : Entry) (s : Standing) (x : recovery.Standing) → in_set s.seen e.site ≡ is_seen x → in_set s.valid e.site ≡ is_valid x
      → in_set (valid_after rows e.site e.nc s) e.site ≡ is_valid (after_entry (rows_system t rows) (view_entry e) x)
  unfolding valid_after
  valid_source e s absent hs hv =
      ap (λ (a : Bool). in_set (pick a (without_of s.valid (with_of empty_of e.site)) (pick (free_by rows (in_set e.nc)) (with_of s.valid e.site) s.valid)) e.site) hs
      ∙ go (free_by rows (in_set e.nc))
    where
      go : (f : Bool) → in_set (pick f (with_of s.valid e.site) s.valid) e.site ≡ is_valid (pick f (valid (in_set e.nc) (in_set e.c)) excluded)
      go true = with_same s.valid e.site
      go false = hv
  valid_source e s (valid nc c) hs hv =
      ap (λ (a : Bool). in_set (pick a (without_of s.valid (with_of empty_of e.site)) (pick (free_by rows (in_set e.nc)) (with_of s.valid e.site) s.valid)) e.site) hs
      ∙ less_same s.valid e.site
  valid_source e s excluded hs hv =
      ap (λ (a : Bool). in_set (pick a (without_of s.valid (with_of empty_of e.site)) (pick (free_by rows (in_set e.nc)) (with_of s.valid e.site) s.valid)) e.site) hs
      ∙ less_same s.valid e.site

  seen_source : (e : Entry) (x : recovery.Standing) → is_seen (after_entry (rows_system t rows) (view_entry e) x) ≡ true
  seen_source e absent = go (free_by rows (in_set e.nc))
    where
      go : (f : Bool) → is_seen (pick f (valid (in_set e.nc) (in_set e.c)) excluded) ≡ true
      go true = refl
      go false = refl
  seen_source e (valid nc c) = refl
  seen_source e excluded = refl

  -- The sets of a standing are the seen and the valid sources.
  pub record Marks (s : Standing) (k : Tally) : Type 0 where
    pub seen : (j : ℕ) → j < t.sites → in_set s.seen j ≡ is_seen (k j)
    pub valid : (j : ℕ) → j < t.sites → in_set s.valid j ≡ is_valid (k j)
    pub beyond : (j : ℕ) → t.sites ≤ j → in_set s.valid j ≡ false

  -- So the valid sources are as many.
  valid_size : (s : Standing) (k : Tally) → t.sites ≤ capacity → Marks s k → size_of s.valid ≡ valid_count (rows_system t rows) k
  valid_size s k l m =
      let q : capacity ≡ t.sites + (capacity - t.sites) = omega arith in
      ap (λ (n : ℕ). count n (in_set s.valid)) q
      ∙ count_beyond t.sites (capacity - t.sites) (in_set s.valid) m.beyond
      ∙ count_ext t.sites (in_set s.valid) (λ j. is_valid (k j)) m.valid

  module _ (r : ℕ) (b : List ℕ) where
    -- The standing s after k entries agrees with the protocol's.
    pub record Agrees (k : ℕ) (s : Standing) : Type 0 where
      pub decides : decide (rows_system t rows) r (log_to b k) ≡ pick s.decided (Some (tally_to (rows_system t rows) r b s.entries)) None
      pub place : s.decided ≡ true → s.entries ≤ k
      pub marks : Marks s (tally_to (rows_system t rows) r b (pick s.decided s.entries k))
      pub waits : s.decided ≡ false → eqb (valid_count (rows_system t rows) (tally_to (rows_system t rows) r b k)) (n_chk_of t) ≡ false

    -- A decided standing stays.
    agrees_decided : (k : ℕ) (s : Standing) → s.decided ≡ true → Agrees k s → Agrees (suc k) s
    agrees_decided k s e h =
        let d : Tally = tally_to (rows_system t rows) r b s.entries in
        record {
          decides = decide_stays (rows_system t rows) r b k d (h.decides ∙ ap (λ (x : Bool). pick x (Some d) None) e)
              ∙ ap (λ (x : Bool). pick x (Some d) None) (sym e);
          place = λ q. omega (arith, h.place q);
          marks = subst (λ (x : Bool). Marks s (tally_to (rows_system t rows) r b (pick x s.entries (suc k)))) (sym e)
              (subst (λ (x : Bool). Marks s (tally_to (rows_system t rows) r b (pick x s.entries k))) e h.marks);
          waits = λ q. absurd (never s.decided e q);
        }

    undecided : (k : ℕ) (s : Standing) → s.decided ≡ false → Agrees k s → decide (rows_system t rows) r (log_to b k) ≡ None
    undecided k s e h = h.decides ∙ ap (λ (x : Bool). pick x (Some (tally_to (rows_system t rows) r b s.entries)) None) e

    marks_now : (k : ℕ) (s : Standing) → s.decided ≡ false → Agrees k s → Marks s (tally_to (rows_system t rows) r b k)
    marks_now k s e h = subst (λ (x : Bool). Marks s (tally_to (rows_system t rows) r b (pick x s.entries k))) e h.marks

    -- An entry that does not count changes nothing.
    uncounted : (k j : ℕ) → j < t.sites → (eqb (entry_of b k).round r && ltb (entry_of b k).site t.sites) ≡ false
        → tally_to (rows_system t rows) r b (suc k) j ≡ tally_to (rows_system t rows) r b k j
    uncounted k j l h =
        tally_other (rows_system t rows) r b k j (go (eqb (entry_of b k).site j) refl)
      where
        go : (x : Bool) → eqb (entry_of b k).site j ≡ x → (x && eqb (entry_of b k).round r) ≡ false
        go true q =
            let z = eqb-true (entry_of b k).site j q in
            sym (and_true (eqb (entry_of b k).round r))
            ∙ sym (ap (λ (y : Bool). eqb (entry_of b k).round r && y) (lt-ltb (entry_of b k).site t.sites (omega arith))) ∙ h
        go false q = refl

    agrees_uncounted : (k : ℕ) (s : Standing) → s.decided ≡ false → (eqb (entry_of b k).round r && ltb (entry_of b k).site t.sites) ≡ false
        → Agrees k s → Agrees (suc k) s
    agrees_uncounted k s e c h =
        let m = marks_now k s e h in
        let same : valid_count (rows_system t rows) (tally_to (rows_system t rows) r b (suc k)) ≡ valid_count (rows_system t rows) (tally_to (rows_system t rows) r b k) =
        count_ext t.sites (λ j. is_valid (tally_to (rows_system t rows) r b (suc k) j)) (λ j. is_valid (tally_to (rows_system t rows) r b k j))
        (λ j l. ap is_valid (uncounted k j l c)) in
        let w : eqb (valid_count (rows_system t rows) (tally_to (rows_system t rows) r b (suc k))) (n_chk_of t) ≡ false =
        ap (λ (n : ℕ). eqb n (n_chk_of t)) same ∙ h.waits e in
        record {
          decides = decide-more (rows_system t rows) r b k (undecided k s e h)
              ∙ ap (λ (x : Bool). pick x (Some (tally_to (rows_system t rows) r b (suc k))) None) w
              ∙ ap (λ (x : Bool). pick x (Some (tally_to (rows_system t rows) r b s.entries)) None) (sym e);
          place = λ q. absurd (never s.decided q e);
          marks = subst (λ (x : Bool). Marks s (tally_to (rows_system t rows) r b (pick x s.entries (suc k)))) (sym e)
              (record {
                seen = λ j l. m.seen j l ∙ ap is_seen (sym (uncounted k j l c));
                valid = λ j l. m.valid j l ∙ ap is_valid (sym (uncounted k j l c));
                beyond = m.beyond;
              });
          waits = λ q. w;
        }

    -- An entry that counts.
    counted_marks : (k : ℕ) (s : Standing) → (entry_of b k).round ≡ r → (entry_of b k).site < t.sites → Marks s (tally_to (rows_system t rows) r b k)
        → Marks (marked t rows (suc k) (entry_of b k) s) (tally_to (rows_system t rows) r b (suc k))
    counted_marks k s er ls m =
        record {
          seen = λ j l. seen_at j l (ℕ_discrete j (entry_of b k).site);
          valid = λ j l. valid_at j l (ℕ_discrete j (entry_of b k).site);
          beyond = λ j l. valid_other rows (entry_of b k).site (entry_of b k).nc s j (λ q. omega arith) ∙ m.beyond j l;
        }
      where
        own : tally_to (rows_system t rows) r b (suc k) (entry_of b k).site ≡ after_entry (rows_system t rows) (view_entry (entry_of b k)) (tally_to (rows_system t rows) r b k (entry_of b k).site)
        own = tally_source (rows_system t rows) r b k (entry_of b k).site
            (both (eqb (entry_of b k).site (entry_of b k).site) (eqb (entry_of b k).round r) (eq-eqb (entry_of b k).site (entry_of b k).site refl) (eq-eqb (entry_of b k).round r er))

        another : (j : ℕ) → (j ≡ (entry_of b k).site → ⊥) → tally_to (rows_system t rows) r b (suc k) j ≡ tally_to (rows_system t rows) r b k j
        another j n = tally_other (rows_system t rows) r b k j (ap (λ (x : Bool). x && eqb (entry_of b k).round r) (ne_eqb (entry_of b k).site j (λ q. n (sym q))))

        seen_at : (j : ℕ) → j < t.sites → Dec (j ≡ (entry_of b k).site) → in_set (with_of s.seen (entry_of b k).site) j ≡ is_seen (tally_to (rows_system t rows) r b (suc k) j)
        seen_at j l (yes q) =
            ap (in_set (with_of s.seen (entry_of b k).site)) q ∙ with_same s.seen (entry_of b k).site
            ∙ sym (ap (λ (x : ℕ). is_seen (tally_to (rows_system t rows) r b (suc k) x)) q ∙ ap is_seen own ∙ seen_source (entry_of b k) (tally_to (rows_system t rows) r b k (entry_of b k).site))
        seen_at j l (no n) = with_other s.seen (entry_of b k).site j n ∙ m.seen j l ∙ ap is_seen (sym (another j n))

        valid_at : (j : ℕ) → j < t.sites → Dec (j ≡ (entry_of b k).site)
            → in_set (valid_after rows (entry_of b k).site (entry_of b k).nc s) j ≡ is_valid (tally_to (rows_system t rows) r b (suc k) j)
        valid_at j l (yes q) =
            ap (in_set (valid_after rows (entry_of b k).site (entry_of b k).nc s)) q
            ∙ valid_source (entry_of b k) s (tally_to (rows_system t rows) r b k (entry_of b k).site) (m.seen (entry_of b k).site ls) (m.valid (entry_of b k).site ls)
            ∙ sym (ap (λ (x : ℕ). is_valid (tally_to (rows_system t rows) r b (suc k) x)) q ∙ ap is_valid own)
        valid_at j l (no n) =
            valid_other rows (entry_of b k).site (entry_of b k).nc s j n ∙ m.valid j l ∙ ap is_valid (sym (another j n))

    agrees_counted : (k : ℕ) (s : Standing) → t.sites ≤ capacity → s.decided ≡ false → (entry_of b k).round ≡ r → (entry_of b k).site < t.sites
        → Agrees k s → Agrees (suc k) (marked t rows (suc k) (entry_of b k) s)
    agrees_counted k s few e er ls h =
        let s' : Standing = marked t rows (suc k) (entry_of b k) s in
        let m = counted_marks k s er ls (marks_now k s e h) in
        let same = valid_size s' (tally_to (rows_system t rows) r b (suc k)) few m in
        record {
          decides = decide-more (rows_system t rows) r b k (undecided k s e h)
              ∙ ap (λ (n : ℕ). pick (eqb n (n_chk_of t)) (Some (tally_to (rows_system t rows) r b (suc k))) None) (sym same);
          place = λ q. omega arith;
          marks = subst (λ (n : ℕ). Marks s' (tally_to (rows_system t rows) r b n)) (sym (pick_same s'.decided (suc k))) m;
          waits = λ q. ap (λ (n : ℕ). eqb n (n_chk_of t)) (sym same) ∙ q;
        }

    -- Before any entry.
    agrees_none : 0 < n_chk_of t → Agrees 0 nobody_yet
    unfolding tally_to
    agrees_none l =
        record {
          decides = decide-none (rows_system t rows) r b;
          place = λ q. omega arith;
          marks = record { seen = λ j l. in_empty j; valid = λ j l. in_empty j; beyond = λ j l. in_empty j };
          waits = λ q. ap (λ (n : ℕ). eqb n (n_chk_of t)) (count_of_none t.sites (λ j. false) (λ m l. refl)) ∙ ne_eqb 0 (n_chk_of t) (λ z. omega arith);
        }

    -- After any number of entries.
    pub agrees : is_good t ≡ true → (k : ℕ) → Agrees k (standing_of t rows r b k)
    unfolding standing_of with_entry
    agrees good zero = let l = good_limits t good in agrees_none (omega arith)
    agrees good (suc k) = go (standing_of t rows r b k) (agrees good k) (good_limits t good).sites
      where
        counts : (s : Standing) → Agrees k s → t.sites ≤ 11 → s.decided ≡ false → (c : Bool)
            → (eqb (entry_of b k).round r && ltb (entry_of b k).site t.sites) ≡ c → Agrees (suc k) (pick c (marked t rows (suc k) (entry_of b k) s) s)
        counts s h l e true q =
            agrees_counted k s (omega arith) e (eqb-true (entry_of b k).round r (left (eqb (entry_of b k).round r) (ltb (entry_of b k).site t.sites) q))
            (ltb-true (entry_of b k).site t.sites (right (eqb (entry_of b k).round r) (ltb (entry_of b k).site t.sites) q)) h
        counts s h l e false q = agrees_uncounted k s e q h

        added : (s : Standing) → Agrees k s → t.sites ≤ 11 → (d : Bool) → s.decided ≡ d
            → Agrees (suc k) (pick d s (pick (eqb (entry_of b k).round r && ltb (entry_of b k).site t.sites) (marked t rows (suc k) (entry_of b k) s) s))
        added s h l true e = agrees_decided k s e h
        added s h l false e = counts s h l e (eqb (entry_of b k).round r && ltb (entry_of b k).site t.sites) refl

        go : (s : Standing) → Agrees k s → t.sites ≤ 11
            → Agrees (suc k) (pick s.decided s (pick (eqb (entry_of b k).round r && ltb (entry_of b k).site t.sites) (marked t rows (suc k) (entry_of b k) s) s))
        go s h l = added s h l s.decided refl
