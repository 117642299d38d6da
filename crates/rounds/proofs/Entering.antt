-- The round of an entry that is taken in: one law for each answer of the code.
-- Assumes nothing.
use mathlib.Core.Path.{◌≡◌, refl, sym, ap, ◌∙◌, subst}
use mathlib.Core.Bool.{Bool, true, false, not}
use mathlib.Core.List.{List}
use Rattle.std.specs.Prelude.{is_some, IsSome, IsNone}
use Prim.Native.Nat.{ℕ, ◌+◌, ◌<◌}
use native.Mathlib.Omega.{arith}
use lib.Dec.{eqb}
use borrow.Author.Tests.{eq-eqb, ne_eqb}
use Rattle.theory.specs.Sets.{pick}
use Rattle.sets.specs.declared.Set.{Set}
use Rattle.sets.specs.Sets.{in_set, empty_of, with_of, without_of, size_of}
use Rattle.table.specs.declared.SiteTable.{SiteTable}
use Rattle.table.specs.Table.{is_good, n_chk_of}
use Rattle.table.proofs.Laws.{good_limits}
use Rattle.calm.specs.Rows.{free_by}
use Rattle.entries.specs.Entries.{entry_of}
use Rattle.standing.specs.declared.Standing.{Standing}
use Rattle.standing.specs.Standings.{valid_after, standing_of}
use Rattle.standing.proofs.Steps.{second_entry, first_conflicting, first_valid, entry_marked}
use Rattle.recovery.specs.Decisions.{found_sets}
use Rattle.rounds.specs.declared.Round.{Round}
use Rattle.rounds.specs.Rounds.{noted_of, again_of, decided_of, Counts, Decides}
use Rattle.rounds.proofs.Waiting.{with_member, less_fewer, too_few}
use Rattle.rounds.proofs.Sites.{counts_first, counts_again}
use Rattle.rounds.proofs.Answers.{standing_own, decided_stays, still_waits, now_decided}

-- A round with other valid sources.
abbrev pub with_valid : Round → Set → Round
with_valid x v =
    record { once = x.once; twice = x.twice; valid = v; decided = x.decided; first = x.first }

module _ (t : SiteTable) (rows log : List ℕ) (k r : ℕ) (x : Round) (good : is_good t ≡ true)
    (er : (entry_of log k).round ≡ r) (hc : Counts log k r x) (hd : Decides log k r t rows x)
    (site : ℕ) (ls : site < t.sites) (es : site ≡ (entry_of log k).site) where
  -- The sources of a round that waits, without the entry and with it.
  abbrev waiting : Standing
  waiting = record { seen = x.once; valid = x.valid; decided = false; entries = k }

  abbrev after : Set → Standing
  after v = record { seen = with_of x.once site; valid = v; decided = eqb (size_of v) (n_chk_of t); entries = k + 1 }

  few_valid : IsNone x.decided → size_of x.valid < n_chk_of t
  few_valid z = subst (λ (v : Set). size_of v < n_chk_of t) (hd.valid z) (too_few t rows r log good k (hd.waits z))

  stands : IsNone x.decided → {v : Set} → v ≡ valid_after rows site (entry_of log k).nc waiting
      → after v ≡ standing_of t rows r log (k + 1)
  stands z ev =
      standing_own t rows log k r x hd z er (omega arith)
      (entry_marked t rows r (k + 1) (entry_of log k) waiting refl er es ls ev refl refl refl)

  -- ---- a site's first entry

  module _ (n : in_set x.once site ≡ false) where
    noted : Counts log (k + 1) r (noted_of x site (k + 1))
    noted = let l = (good_limits t good).sites in counts_first log k r x site er (sym es) (omega arith) hc n

    -- A decided round.
    first_decided : IsSome x.decided → Decides log (k + 1) r t rows (noted_of x site (k + 1))
    first_decided d = decided_stays t rows log k r x hd d (with_of x.once site) x.twice (noted_of x site (k + 1)).first

    -- A round that waits, with an entry of which it is known whether its NC is free.
    module _ (z : IsNone x.decided) {f : Bool} (ef : f ≡ free_by rows (in_set (entry_of log k).nc)) where
      first_unfree : not f ≡ true → Decides log (k + 1) r t rows (noted_of x site (k + 1))
      first_unfree g =
          still_waits t rows log k r x hd good z
          (stands z (first_conflicting rows site (entry_of log k).nc waiting refl n ef g))
          (ap not (ne_eqb (size_of x.valid) (n_chk_of t) (λ q. omega (arith, few_valid z))))
          x.twice (noted_of x site (k + 1)).first

      -- One more valid source.
      module _ (g : not f ≡ false) {v : Set} (ev : v ≡ with_of x.valid site) where
        more : after v ≡ standing_of t rows r log (k + 1)
        more =
            stands z (first_valid rows site (entry_of log k).nc waiting refl n ef g ev)

        first_waiting : (size_of v ≡ n_chk_of t → ⊥) → Decides log (k + 1) r t rows (with_valid (noted_of x site (k + 1)) v)
        first_waiting d =
            still_waits t rows log k r x hd good z more (ap not (ne_eqb (size_of v) (n_chk_of t) d)) x.twice (noted_of x site (k + 1)).first

        first_deciding : size_of v ≡ n_chk_of t
            → Decides log (k + 1) r t rows (decided_of (with_valid (noted_of x site (k + 1)) v) (k + 1) (found_sets t log r v (k + 1)))
        first_deciding d =
            now_decided t rows log k r x hd good z more (ap not (eq-eqb (size_of v) (n_chk_of t) d)) refl (found_sets t log r v (k + 1)) refl
            (with_of x.once site) x.twice v (noted_of x site (k + 1)).first

    -- ---- the code's round after the note of a first entry

    module _ {y : Round} (ey : y ≡ noted_of x site (k + 1)) where
      pub taken_decided : IsSome y.decided → Counts log (k + 1) r y × Decides log (k + 1) r t rows y
      taken_decided d =
          subst (λ (w : Round). Counts log (k + 1) r w × Decides log (k + 1) r t rows w) (sym ey)
          (noted, first_decided (sym (ap (λ (w : Round). is_some w.decided) ey) ∙ d))

      module _ (u : IsNone y.decided) {f : Bool} (ef : f ≡ free_by rows (in_set (entry_of log k).nc)) where
        waits : IsNone x.decided
        waits = sym (ap (λ (w : Round). is_some w.decided) ey) ∙ u

        pub taken_unfree : f ≡ false → Counts log (k + 1) r y × Decides log (k + 1) r t rows y
        taken_unfree g =
            subst (λ (w : Round). Counts log (k + 1) r w × Decides log (k + 1) r t rows w) (sym ey) (noted, first_unfree waits ef (ap not g))

        module _ (g : f ≡ true) {v : Set} (ev : v ≡ with_of y.valid site) where
          own : v ≡ with_of x.valid site
          own = ev ∙ ap (λ (w : Round). with_of w.valid site) ey

          pub counts_valid : Counts log (k + 1) r (with_valid y v)
          counts_valid =
              subst (λ (w : Round). Counts log (k + 1) r (with_valid w v)) (sym ey)
              (record { once = noted.once; twice = noted.twice; first = noted.first; within = noted.within })

          module _ {size enough : ℕ} (e1 : size ≡ size_of v) (e2 : enough ≡ n_chk_of t) where
            pub taken-waiting : (size ≡ enough → ⊥) → Counts log (k + 1) r (with_valid y v) × Decides log (k + 1) r t rows (with_valid y v)
            taken-waiting d = (
              counts_valid,
              subst (λ (w : Round). Decides log (k + 1) r t rows (with_valid w v)) (sym ey)
                  (first_waiting waits ef (ap not g) own (λ q. d (e1 ∙ q ∙ sym e2))),
            )

            pub taken_deciding : size ≡ enough → {z : Round} → z ≡ decided_of (with_valid y v) (k + 1) (found_sets t log r v (k + 1))
                → Counts log (k + 1) r z × Decides log (k + 1) r t rows z
            taken_deciding e ez =
                subst (λ (w : Round). Counts log (k + 1) r w × Decides log (k + 1) r t rows w)
                (sym (ez ∙ ap (λ (w : Round). decided_of (with_valid w v) (k + 1) (found_sets t log r v (k + 1))) ey)) (
                  record { once = noted.once; twice = noted.twice; first = noted.first; within = noted.within },
                  first_deciding waits ef (ap not g) own (sym e1 ∙ e ∙ e2),
                )

  -- ---- another entry of a site

  module _ (n : in_set x.once site ≡ true) where
    again_counts : Counts log (k + 1) r (again_of x site)
    again_counts = let l = (good_limits t good).sites in counts_again log k r x site er (sym es) (omega arith) hc n

    again_decides : Decides log (k + 1) r t rows (again_of x site)
    again_decides = go (is_some x.decided) refl
      where
        go : (b : Bool) → is_some x.decided ≡ b → Decides log (k + 1) r t rows (again_of x site)
        go false z =
            let v = without_of x.valid (with_of empty_of site) in
            subst (λ (y : Round). Decides log (k + 1) r t rows y)
            (λ i. record {
              once = with_member x.once site n i;
              twice = with_of x.twice site;
              valid = pick (sym z i) x.valid v;
              decided = x.decided;
              first = x.first;
            })
            (still_waits t rows log k r x hd good z (stands z (second_entry rows site (entry_of log k).nc waiting refl n refl refl refl))
            (ap not (ne_eqb (size_of v) (n_chk_of t) (λ q. omega (arith, few_valid z, less_fewer x.valid site))))
            (with_of x.twice site) x.first)
        go true d =
            subst (λ (y : Round). Decides log (k + 1) r t rows y)
            (λ i. record {
              once = x.once;
              twice = with_of x.twice site;
              valid = pick (sym d i) x.valid (without_of x.valid (with_of empty_of site));
              decided = x.decided;
              first = x.first;
            })
            (decided_stays t rows log k r x hd d x.once (with_of x.twice site) x.first)

    pub taken_again : {y : Round} → y ≡ again_of x site → Counts log (k + 1) r y × Decides log (k + 1) r t rows y
    taken_again ey = subst (λ (w : Round). Counts log (k + 1) r w × Decides log (k + 1) r t rows w) (sym ey) (again_counts, again_decides)
