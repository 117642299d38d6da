-- Counting over the entries of valid sources is counting over the sources: each has one entry.
-- Assumes nothing.
use mathlib.Core.Path.{◌≡◌, refl, sym, ap, ◌∙◌}
use mathlib.Core.Bool.{Bool, true, false, ◌&&◌, ◌||◌}
use mathlib.Core.List.{List}
use mathlib.Core.Logic.{◌⊎◌, inl, inr}
use Prim.Native.Nat.{ℕ, zero, suc, ◌+◌, ◌≤◌, ◌<◌}
use native.Mathlib.Omega.{arith}
use lib.Dec.{eqb}
use borrow.Author.Tests.{eq-eqb, ne_eqb, eqb-true}
use Rattle.theory.specs.Sets.{pick, one, any, count}
use Rattle.theory.specs.Counting.{both, left, right, never, lt_or_le, count_ext, any_ext, and_false, or_false, count_of_none, any_of_none}
use Rattle.sets.specs.declared.Set.{Set}
use Rattle.sets.specs.Sets.{in_set}
use Rattle.table.specs.declared.SiteTable.{SiteTable}
use Rattle.protocol.specs.Recovery as recovery
use Rattle.protocol.specs.Recovery.{absent, valid, excluded, is_valid, after_entry}
use Rattle.calm.specs.Rows.{free_by, rows_system}
use Rattle.calm.proofs.Change.{count-change, any-change}
use Rattle.entries.specs.Entries.{entry_of, view_entry}
use Rattle.standing.proofs.Tallies.{tally_to, tally_source, tally_other, excluded_stays}
use Rattle.recovery.specs.Decisions.{counts_in}

module _ (t : SiteTable) (rows : List ℕ) (r : ℕ) (b : List ℕ) (n : ℕ) (sources : Set)
    (within : (j : ℕ) → j < t.sites → in_set sources j ≡ is_valid (tally_to (rows_system t rows) r b n j))
    (beyond : (j : ℕ) → t.sites ≤ j → in_set sources j ≡ false) where
  -- A source that is valid after n entries was absent before its entry, and valid with it.
  first_of_valid : (p j : ℕ) → p < n → (eqb (entry_of b p).site j && eqb (entry_of b p).round r) ≡ true
      → is_valid (tally_to (rows_system t rows) r b n j) ≡ true
      → (tally_to (rows_system t rows) r b p j ≡ absent)
      × (tally_to (rows_system t rows) r b (suc p) j ≡ valid (in_set (entry_of b p).nc) (in_set (entry_of b p).c))
  first_of_valid p j l m v = go (tally_to (rows_system t rows) r b p j) refl
    where
      ended : tally_to (rows_system t rows) r b (suc p) j ≡ excluded → ⊥
      ended h = never (is_valid (tally_to (rows_system t rows) r b n j)) v (ap is_valid (excluded_stays (rows_system t rows) r b (suc p) n j (omega arith) h))

      next : tally_to (rows_system t rows) r b (suc p) j ≡ after_entry (rows_system t rows) (view_entry (entry_of b p)) (tally_to (rows_system t rows) r b p j)
      next = tally_source (rows_system t rows) r b p j m

      first : (f : Bool) → tally_to (rows_system t rows) r b (suc p) j ≡ pick f (valid (in_set (entry_of b p).nc) (in_set (entry_of b p).c)) excluded
          → tally_to (rows_system t rows) r b (suc p) j ≡ valid (in_set (entry_of b p).nc) (in_set (entry_of b p).c)
      first true h = h
      first false h = absurd (ended h)

      go : (x : recovery.Standing) → tally_to (rows_system t rows) r b p j ≡ x
          → (tally_to (rows_system t rows) r b p j ≡ absent)
          × (tally_to (rows_system t rows) r b (suc p) j ≡ valid (in_set (entry_of b p).nc) (in_set (entry_of b p).c))
      go absent q = (q, first (free_by rows (in_set (entry_of b p).nc)) (next ∙ ap (after_entry (rows_system t rows) (view_entry (entry_of b p))) q))
      go (valid nc c) q = absurd (ended (next ∙ ap (after_entry (rows_system t rows) (view_entry (entry_of b p))) q))
      go excluded q = absurd (ended (next ∙ ap (after_entry (rows_system t rows) (view_entry (entry_of b p))) q))

  -- What is asked of a standing: nothing holds of an absent or excluded source.
  module _ (g : recovery.Standing → Bool) (none_absent : g absent ≡ false) (none_excluded : g excluded ≡ false) where
    -- An entry of a valid source satisfies it; a valid source does, after p entries.
    abbrev here : ℕ → Bool
    here p = counts_in r sources (entry_of b p) && g (valid (in_set (entry_of b p).nc) (in_set (entry_of b p).c))

    abbrev sourced : ℕ → ℕ → Bool
    sourced p j = in_set sources j && g (tally_to (rows_system t rows) r b p j)

    -- An entry that does not count changes no valid source.
    sourced_same : (p j : ℕ) → counts_in r sources (entry_of b p) ≡ false → sourced p j ≡ sourced (suc p) j
    sourced_same p j h = go (eqb (entry_of b p).site j && eqb (entry_of b p).round r) refl
      where
        go : (x : Bool) → (eqb (entry_of b p).site j && eqb (entry_of b p).round r) ≡ x → sourced p j ≡ sourced (suc p) j
        go false q = ap (λ (x : recovery.Standing). in_set sources j && g x) (sym (tally_other (rows_system t rows) r b p j q))
        go true q =
            let z : in_set sources j ≡ false =
            ap (in_set sources) (sym (eqb-true (entry_of b p).site j (left (eqb (entry_of b p).site j) (eqb (entry_of b p).round r) q)))
            ∙ sym (ap (λ (x : Bool). x && in_set sources (entry_of b p).site) (right (eqb (entry_of b p).site j) (eqb (entry_of b p).round r) q)) ∙ h in
            ap (λ (x : Bool). x && g (tally_to (rows_system t rows) r b p j)) z
            ∙ ap (λ (x : Bool). x && g (tally_to (rows_system t rows) r b (suc p) j)) (sym z)

    -- An entry that counts changes its own source only, which had nothing before.
    pub record Counted (p : ℕ) : Type 0 where
      pub site : (entry_of b p).site < t.sites
      pub before : sourced p (entry_of b p).site ≡ false
      pub after : sourced (suc p) (entry_of b p).site ≡ here p
      pub others : (j : ℕ) → (j ≡ (entry_of b p).site → ⊥) → sourced p j ≡ sourced (suc p) j

    counted : (p : ℕ) → p < n → counts_in r sources (entry_of b p) ≡ true → Counted p
    counted p l h =
        let er = left (eqb (entry_of b p).round r) (in_set sources (entry_of b p).site) h in
        let es = right (eqb (entry_of b p).round r) (in_set sources (entry_of b p).site) h in
        let ls = inside es (lt_or_le (entry_of b p).site t.sites) in
        let w = first_of_valid p (entry_of b p).site l
        (both (eqb (entry_of b p).site (entry_of b p).site) (eqb (entry_of b p).round r) (eq-eqb (entry_of b p).site (entry_of b p).site refl) er)
        (sym (within (entry_of b p).site ls) ∙ es) in
        record {
          site = ls;
          before = (λ i. es i && (ap g w.0 ∙ none_absent) i);
          after = (λ i. es i && g (w.1 i)) ∙ ap (λ (x : Bool). x && g (valid (in_set (entry_of b p).nc) (in_set (entry_of b p).c))) (sym h);
          others = λ j d. ap (λ (x : recovery.Standing). in_set sources j && g x)
              (sym (tally_other (rows_system t rows) r b p j (ap (λ (x : Bool). x && eqb (entry_of b p).round r) (ne_eqb (entry_of b p).site j (λ q. d (sym q))))));
        }
      where
        inside : in_set sources (entry_of b p).site ≡ true → ((entry_of b p).site < t.sites) ⊎ (t.sites ≤ (entry_of b p).site) → (entry_of b p).site < t.sites
        inside e (inl h) = h
        inside e (inr h) = absurd (never (in_set sources (entry_of b p).site) e (beyond (entry_of b p).site h))

    nothing : (j : ℕ) → sourced 0 j ≡ false
    unfolding tally_to
    nothing j = ap (λ (x : Bool). in_set sources j && x) none_absent ∙ and_false (in_set sources j)

    pub count_sources : (p : ℕ) → p ≤ n → count p here ≡ count t.sites (sourced p)
    unfolding count
    count_sources zero l = sym (count_of_none t.sites (sourced 0) (λ j k. nothing j))
    count_sources (suc p) l = go (counts_in r sources (entry_of b p)) refl (count_sources p (omega arith))
      where
        go : (x : Bool) → counts_in r sources (entry_of b p) ≡ x → count p here ≡ count t.sites (sourced p)
            → count p here + one (here p) ≡ count t.sites (sourced (suc p))
        go true e ih =
            let w = counted p (omega arith) e in
            ap (λ (x : ℕ). x + one (here p)) ih
            ∙ ap (λ (x : Bool). count t.sites (sourced p) + one x) (sym w.after)
            ∙ sym (count-change t.sites (sourced p) (sourced (suc p)) (entry_of b p).site w.site w.others w.before)
        go false e ih =
            let z : one (here p) ≡ 0 = ap (λ (x : Bool). one (x && g (valid (in_set (entry_of b p).nc) (in_set (entry_of b p).c)))) e in
            omega (arith, ih, count_ext t.sites (sourced p) (sourced (suc p)) (λ j k. sourced_same p j e))

    pub any_sources : (p : ℕ) → p ≤ n → any p here ≡ any t.sites (sourced p)
    unfolding any
    any_sources zero l = sym (any_of_none t.sites (sourced 0) (λ j k. nothing j))
    any_sources (suc p) l = go (counts_in r sources (entry_of b p)) refl (any_sources p (omega arith))
      where
        go : (x : Bool) → counts_in r sources (entry_of b p) ≡ x → any p here ≡ any t.sites (sourced p)
            → (any p here || here p) ≡ any t.sites (sourced (suc p))
        go true e ih =
            let w = counted p (omega arith) e in
            (λ i. ih i || sym w.after i)
            ∙ sym (any-change t.sites (sourced p) (sourced (suc p)) (entry_of b p).site w.site w.others w.before)
        go false e ih =
            ap (λ (x : Bool). any p here || (x && g (valid (in_set (entry_of b p).nc) (in_set (entry_of b p).c)))) e
            ∙ or_false (any p here) ∙ ih
            ∙ any_ext t.sites (sourced p) (sourced (suc p)) (λ j k. sourced_same p j e)

    -- After n entries every source that has something is a valid one.
    sourced-all : (j : ℕ) → j < t.sites → sourced n j ≡ g (tally_to (rows_system t rows) r b n j)
    sourced-all j l = ap (λ (x : Bool). x && g (tally_to (rows_system t rows) r b n j)) (within j l) ∙ go (tally_to (rows_system t rows) r b n j)
      where
        go : (x : recovery.Standing) → (is_valid x && g x) ≡ g x
        go absent = sym none_absent
        go (valid nc c) = refl
        go excluded = sym none_excluded

    pub count-all_sources : count n here ≡ count t.sites (λ j. g (tally_to (rows_system t rows) r b n j))
    count-all_sources =
        count_sources n (omega arith)
        ∙ count_ext t.sites (sourced n) (λ j. g (tally_to (rows_system t rows) r b n j)) sourced-all

    pub any-all_sources : any n here ≡ any t.sites (λ j. g (tally_to (rows_system t rows) r b n j))
    any-all_sources =
        any_sources n (omega arith)
        ∙ any_ext t.sites (sourced n) (λ j. g (tally_to (rows_system t rows) r b n j)) sourced-all
