-- The decision found by the code is the protocol's, by the rows and at the dash register; and its sets are the protocol's sets.
-- Assumes nothing.
use mathlib.Core.Path.{◌≡◌, refl, sym, ap, ◌∙◌, subst}
use Rattle.std.specs.Prelude.{None, Some, Option}
use mathlib.Core.Bool.{Bool, true, false, ◌&&◌, ◌||◌, not}
use mathlib.Core.List.{List}
use Prim.Native.Nat.{ℕ, zero, suc, ◌+◌, ◌≤◌, ◌<◌}
use native.Mathlib.Nat.{add-zero}
use native.Mathlib.Omega.{arith}
use lib.Dec.{leb}
use lib.ListN.{get_or}
use Rattle.theory.specs.Sets.{pick}
use Rattle.theory.specs.Counting.{not-true, not-false}
use Rattle.sets.specs.declared.Set.{Set}
use Rattle.sets.specs.Sets.{capacity, in_set, set_of, empty_of, without_of}
use Rattle.sets.proofs.Laws.{word_lt, in_without, in_set_of, without_fits}
use Rattle.table.specs.declared.SiteTable.{SiteTable}
use Rattle.table.specs.Table.{is_good, majority_of}
use Rattle.table.proofs.Laws.{good_limits}
use Rattle.commands.specs.Book.{commands_of}
use Rattle.conflicts.specs.Conflicts.{conflict_rows}
use Rattle.protocol.specs.Recovery.{is_valid, nc_of, c_of, Tally, Log, decide, nc_set, proposed}
use Rattle.system.specs.Dash.{dash}
use Rattle.calm.specs.Rows.{rows_system}
use Rattle.calm.proofs.Same.{decide-rows}
use Rattle.entries.specs.Entries.{entry_of, log_to}
use Rattle.standing.specs.declared.Standing.{Standing}
use Rattle.standing.specs.Standings.{standing_of}
use Rattle.standing.proofs.Tallies.{tally_to}
use Rattle.standing.proofs.Steps.{decided_after}
use Rattle.standing.proofs.Agreement.{Marks, Agrees, agrees}
use Rattle.recovery.specs.declared.Sets.{Sets}
use Rattle.recovery.specs.declared.Levels.{Levels}
use Rattle.recovery.specs.Decisions.{sets_of, decision_of, nc_count, in_any, at_least, max_level, levels_from, levels_of, level_of, found_sets}
use Rattle.recovery.proofs.Counts.{set_is, set_of_ext}
use Rattle.recovery.proofs.Sources.{count-all_sources, any-all_sources}

-- A level is the one of its number.
level_from : (level : ℕ → Set) (k c i : ℕ) → i < c → get_or (levels_from level k c) i empty_of ≡ level (k + i)
unfolding levels_from
level_from level k zero i l = absurd (omega arith)
level_from level k (suc c) zero l = ap level (sym (add-zero k))
level_from level k (suc c) (suc i) l =
    let q : suc k + i ≡ k + suc i = omega arith in level_from level (suc k) c i (omega arith) ∙ ap level q

level_is : (b : List ℕ) (r : ℕ) (sources : Set) (n k : ℕ) → 1 ≤ k → k ≤ max_level → level_of (levels_of b r sources n) k ≡ at_least b r sources n k
unfolding levels_of
level_is b r sources n zero h l = absurd (omega arith)
level_is b r sources n (suc k) h l =
    let q : 1 + k ≡ suc k = omega arith in level_from (at_least b r sources n) 1 max_level k (omega arith) ∙ ap (at_least b r sources n) q

proposed_is : (b : List ℕ) (r : ℕ) (sources : Set) (n : ℕ) → (levels_of b r sources n).proposed ≡ set_of capacity (in_any b r sources n)
unfolding levels_of
proposed_is b r sources n = refl

without_is : (p q : ℕ → Bool) → without_of (set_of capacity p) (set_of capacity q) ≡ set_of capacity (λ m. p m && not (q m))
without_is p q =
    set_is (without_of (set_of capacity p) (set_of capacity q)) (λ m. p m && not (q m))
    (without_fits (set_of capacity p) (set_of capacity q) (word_lt capacity p) (word_lt capacity q))
    (λ m l. in_without (set_of capacity p) (set_of capacity q) m ∙ (λ i. in_set_of capacity p m l i && not (in_set_of capacity q m l i)))

-- What the code makes of the levels.
pub made_sets : (t : SiteTable) (b : List ℕ) (r : ℕ) (sources : Set) (n : ℕ) {levels : Levels} {m : ℕ} {nc c : Set} → levels ≡ levels_of b r sources n
    → m ≡ majority_of t → nc ≡ level_of levels m → c ≡ without_of levels.proposed nc
    → ◌≡◌ {A = Sets} (record { nc = nc; c = c }) (found_sets t b r sources n)
unfolding found_sets
made_sets t b r sources n el em en ec =
    let q = en ∙ (λ i. level_of (el i) (em i)) in
    λ i. record { nc = q i; c = (ec ∙ (λ j. without_of (el j).proposed (q j))) i }

module _ (t : SiteTable) (rows : List ℕ) (r : ℕ) (b : List ℕ) where
  -- The sets that are found from the valid sources after n entries are the protocol's.
  module _ (n : ℕ) (sources : Set) (within : (j : ℕ) → j < t.sites → in_set sources j ≡ is_valid (tally_to (rows_system t rows) r b n j))
      (beyond : (j : ℕ) → t.sites ≤ j → in_set sources j ≡ false) where
    found_nc : at_least b r sources n (majority_of t) ≡ set_of capacity (nc_set (rows_system t rows) (tally_to (rows_system t rows) r b n))
    found_nc =
        set_of_ext (λ m. leb (majority_of t) (nc_count b r sources n m)) (nc_set (rows_system t rows) (tally_to (rows_system t rows) r b n))
        (λ m l. ap (leb (majority_of t)) (count-all_sources t rows r b n sources within beyond (λ x. nc_of x m) refl refl))

    found_proposed : set_of capacity (in_any b r sources n) ≡ set_of capacity (proposed (rows_system t rows) (tally_to (rows_system t rows) r b n))
    found_proposed =
        set_of_ext (in_any b r sources n) (proposed (rows_system t rows) (tally_to (rows_system t rows) r b n))
        (λ m l. any-all_sources t rows r b n sources within beyond (λ x. nc_of x m || c_of x m) refl refl)

    found : 1 ≤ majority_of t → majority_of t ≤ max_level → found_sets t b r sources n ≡ sets_of (rows_system t rows) (tally_to (rows_system t rows) r b n)
    unfolding found_sets
    found h l =
        let q = level_is b r sources n (majority_of t) h l ∙ found_nc in
        let p = proposed_is b r sources n ∙ found_proposed in
        let T : Tally = tally_to (rows_system t rows) r b n in
        let z = (λ i. without_of (p i) (q i)) ∙ without_is (proposed (rows_system t rows) T) (nc_set (rows_system t rows) T) in
        λ i. record { nc = q i; c = z i }

  -- One law for each answer.
  module _ (good : is_good t ≡ true) (k : ℕ) {s : Standing} (es : s ≡ standing_of t rows r b k) where
    agreed : Agrees t rows r b k s
    agreed = subst (λ (x : Standing). Agrees t rows r b k x) (sym es) (agrees t rows r b good k)

    pub not_decided : not s.decided ≡ true → None ≡ decision_of (rows_system t rows) (decide (rows_system t rows) r (log_to b k))
    not_decided h =
        ap (λ (x : Bool). decision_of (rows_system t rows) (pick x (Some (tally_to (rows_system t rows) r b s.entries)) None)) (sym (not-true s.decided h))
        ∙ ap (decision_of (rows_system t rows)) (sym agreed.decides)

    -- The deciding entry is among those read.
    pub decided_place : not s.decided ≡ false → s.entries ≤ k
    decided_place h = agreed.place (not-false s.decided h)

    -- It does not come before the round's first.
    pub decided_from : (from : ℕ) → ((i : ℕ) → i < from → (entry_of b i).round ≡ r → ⊥) → not s.decided ≡ false → from ≤ s.entries
    decided_from from apart h =
        subst (λ (x : Standing). from ≤ x.entries) (sym es)
        (decided_after t rows r b from apart k (sym (ap (λ (x : Standing). x.decided) es) ∙ not-false s.decided h))

    pub is_decided : {sets : Sets} → not s.decided ≡ false → sets ≡ found_sets t b r s.valid s.entries
        → Some sets ≡ decision_of (rows_system t rows) (decide (rows_system t rows) r (log_to b k))
    is_decided h ef =
        let d = not-false s.decided h in
        let l = good_limits t good in
        let marks = subst (λ (x : Bool). Marks t rows s (tally_to (rows_system t rows) r b (pick x s.entries k))) d agreed.marks in
        ap Some (ef ∙ found s.entries s.valid marks.valid marks.beyond (omega arith) (omega arith))
        ∙ ap (λ (x : Bool). decision_of (rows_system t rows) (pick x (Some (tally_to (rows_system t rows) r b s.entries)) None)) (sym d)
        ∙ ap (decision_of (rows_system t rows)) (sym agreed.decides)

-- By the rows of a book the decision is the one at the dash register.
same_decision : (t : SiteTable) (s : List ℕ) (d : Option Tally)
    → decision_of (rows_system t (conflict_rows s)) d ≡ decision_of (dash t (commands_of s)) d
same_decision t s None = refl
same_decision t s (Some d) = refl

pub decision-dash : (t : SiteTable) (s : List ℕ) (r : ℕ) (l : Log)
    → decision_of (rows_system t (conflict_rows s)) (decide (rows_system t (conflict_rows s)) r l)
    ≡ decision_of (dash t (commands_of s)) (decide (dash t (commands_of s)) r l)
decision-dash t s r l =
    same_decision t s (decide (rows_system t (conflict_rows s)) r l) ∙ ap (decision_of (dash t (commands_of s))) (decide-rows s t r l)
