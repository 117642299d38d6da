-- The decision of a round at every log position, with one entry more.
-- Assumes nothing.
use mathlib.Core.Path.{◌≡◌, refl, sym, ap, ◌∙◌, subst}
use Rattle.std.specs.Prelude.{None, Some, Option, is_some, IsSome, IsNone, IfSome}
use Rattle.std.proofs.lemmas.Option.{IfSome_then}
use mathlib.Core.Bool.{Bool, true, false, not}
use mathlib.Core.List.{List}
use mathlib.Core.Logic.{◌⊎◌, inl, inr}
use Prim.Native.Nat.{ℕ, zero, suc, ◌+◌, ◌≤◌, ◌<◌}
use native.Mathlib.Numerals.{add-one}
use native.Mathlib.Omega.{arith}
use lib.Dec.{eqb, ltb}
use borrow.Author.Tests.{lt-ltb, le-leb, lt-leb, eq-eqb}
use Rattle.theory.specs.Sets.{pick}
use Rattle.theory.specs.Counting.{both, never, not-true, last_or_below}
use Rattle.sets.specs.declared.Set.{Set}
use Rattle.table.specs.declared.SiteTable.{SiteTable}
use Rattle.table.specs.Table.{is_good}
use Rattle.protocol.specs.Recovery.{Tally, Log, decide}
use Rattle.calm.specs.Rows.{rows_system}
use Rattle.entries.specs.declared.Entry.{Entry}
use Rattle.entries.specs.Entries.{entry_of, log_to}
use Rattle.entries.proofs.Logs.{log_same}
use Rattle.standing.specs.declared.Standing.{Standing}
use Rattle.standing.specs.Standings.{valid_after, marked, with_entry, standing_of}
use Rattle.standing.proofs.Tallies.{decide_stays}
use Rattle.standing.proofs.Steps.{other_round}
use Rattle.recovery.specs.declared.Sets.{Sets}
use Rattle.recovery.specs.Decisions.{decision_of, found_sets}
use Rattle.recovery.proofs.Decided.{not_decided, is_decided}
use Rattle.rounds.specs.declared.Decided.{Decided}
use Rattle.rounds.specs.declared.Round.{Round}
use Rattle.rounds.specs.Rounds.{answer_at, Decides}

-- ---- the answer of a round, one law for each

answer-none : (o : Option Decided) (p : ℕ) → IsNone o → None ≡ answer_at o p
answer-none None p e = refl
answer-none (Some d) p e = cc

module _ (d : Decided) (p : ℕ) where
  answer_later : p < d.place → None ≡ answer_at (Some d) p
  answer_later l = ap (λ (t : Bool). pick t (Some d.sets) None) (sym (lt-leb d.place p l))

  answer-sets : d.place ≤ p → Some d.sets ≡ answer_at (Some d) p
  answer-sets l = ap (λ (t : Bool). pick t (Some d.sets) None) (sym (le-leb d.place p l))

-- ---- the standing with one entry more

module _ (t : SiteTable) (rows log : List ℕ) (k r : ℕ) where
  standing_next : (standing_of t rows r log k).decided ≡ false
      → with_entry t rows r (k + 1) (entry_of log k) (standing_of t rows r log k) ≡ standing_of t rows r log (k + 1)
  unfolding standing_of
  standing_next e =
      ap (λ (n : ℕ). with_entry t rows r n (entry_of log k) (standing_of t rows r log k)) (add-one k)
      ∙ ap (λ (b : Bool). pick b (standing_of t rows r log k) (with_entry t rows r (suc k) (entry_of log k) (standing_of t rows r log k))) (sym e)
      ∙ ap (standing_of t rows r log) (sym (add-one k))

  -- Only the sources seen and the valid ones are asked for.
  same_marked : (e : Entry) (s : Standing) {seen valid : Set} → s.seen ≡ seen → s.valid ≡ valid
      → marked t rows (k + 1) e s ≡ marked t rows (k + 1) e (record { seen = seen; valid = valid; decided = false; entries = k })
  unfolding valid_after
  same_marked e s es ev = λ i. marked t rows (k + 1) e (record { seen = es i; valid = ev i; decided = false; entries = k })

  entry_marks : (e : Entry) (s : Standing) → e.round ≡ r → e.site < t.sites → with_entry t rows r (k + 1) e s ≡ marked t rows (k + 1) e s
  unfolding with_entry
  entry_marks e s er ls =
      ap (λ (b : Bool). pick b (marked t rows (k + 1) e s) s)
      (both (eqb e.round r) (ltb e.site t.sites) (eq-eqb e.round r er) (lt-ltb e.site t.sites ls))

  module _ (x : Round) (h : Decides log k r t rows x) where
    -- While no entry decides: the standing with an entry of the round,
    module _ (z : IsNone x.decided) where
      pub standing_own : (entry_of log k).round ≡ r → (entry_of log k).site < t.sites → {s : Standing}
          → s ≡ with_entry t rows r (k + 1) (entry_of log k) (record { seen = x.once; valid = x.valid; decided = false; entries = k })
          → s ≡ standing_of t rows r log (k + 1)
      standing_own er ls es =
          let e = entry_of log k in
          es ∙ entry_marks e (record { seen = x.once; valid = x.valid; decided = false; entries = k }) er ls
          ∙ sym (same_marked e (standing_of t rows r log k) (h.seen z) (h.valid z)) ∙ sym (entry_marks e (standing_of t rows r log k) er ls)
          ∙ standing_next (h.waits z)

      -- and with one of another.
      standing_other : ((entry_of log k).round ≡ r → ⊥) → standing_of t rows r log k ≡ standing_of t rows r log (k + 1)
      standing_other d =
          other_round t rows r (k + 1) (entry_of log k) (standing_of t rows r log k) refl d ∙ standing_next (h.waits z)

    -- ---- the decision with one entry more

    next : (o : Option Decided) → ((p : ℕ) → p ≤ k → answer_at x.decided p ≡ answer_at o p)
        → decision_of (rows_system t rows) (decide (rows_system t rows) r (log_to log (k + 1))) ≡ answer_at o (k + 1)
        → (p : ℕ) → p ≤ k + 1 → decision_of (rows_system t rows) (decide (rows_system t rows) r (log_to log p)) ≡ answer_at o p
    next o same last p l = go (last_or_below p (k + 1) (omega arith))
      where
        go : (p ≡ k + 1) ⊎ (p < k + 1) → decision_of (rows_system t rows) (decide (rows_system t rows) r (log_to log p)) ≡ answer_at o p
        go (inl q) = subst (λ (n : ℕ). decision_of (rows_system t rows) (decide (rows_system t rows) r (log_to log n)) ≡ answer_at o n) (sym q) last
        go (inr g) = h.answers p (omega arith) ∙ same p (omega arith)

    placed : IfSome x.decided (λ d. d.place ≤ k + 1)
    placed = IfSome_then x.decided h.place (λ d l. omega arith)

    -- A decided round stays as it is, whatever is counted.
    stays : IsSome x.decided → decision_of (rows_system t rows) (decide (rows_system t rows) r (log_to log (k + 1))) ≡ answer_at x.decided (k + 1)
    stays g = decided x.decided g h.place (h.answers k (omega arith))
      where
        go : (s : Sets) (o : Option Tally) → decide (rows_system t rows) r (log_to log k) ≡ o → decision_of (rows_system t rows) o ≡ Some s
            → decision_of (rows_system t rows) (decide (rows_system t rows) r (log_to log (k + 1))) ≡ Some s
        go s None e q = cc
        go s (Some d) e q =
            ap (decision_of (rows_system t rows))
            (ap (λ (n : ℕ). decide (rows_system t rows) r (log_to log n)) (add-one k) ∙ decide_stays (rows_system t rows) r log k d e)
            ∙ q

        decided : (o : Option Decided) → IsSome o → IfSome o (λ d. d.place ≤ k)
            → decision_of (rows_system t rows) (decide (rows_system t rows) r (log_to log k)) ≡ answer_at o k
            → decision_of (rows_system t rows) (decide (rows_system t rows) r (log_to log (k + 1))) ≡ answer_at o (k + 1)
        decided None g l e = cc
        decided (Some d) g l e =
            go d.sets (decide (rows_system t rows) r (log_to log k)) refl (e ∙ sym (answer-sets d k l)) ∙ answer-sets d (k + 1) (omega arith)

    pub decided_stays : IsSome x.decided → (once twice : Set) (first : Option ℕ)
        → Decides log (k + 1) r t rows (record { once = once; twice = twice; valid = x.valid; decided = x.decided; first = first })
    decided_stays g once twice first =
        record {
          place = placed;
          answers = next x.decided (λ p l. refl) (stays g);
          waits = λ z. absurd (never (is_some x.decided) g z);
          seen = λ z. absurd (never (is_some x.decided) g z);
          valid = λ z. absurd (never (is_some x.decided) g z);
        }

    module _ (good : is_good t ≡ true) (z : IsNone x.decided) {s : Standing} (es : s ≡ standing_of t rows r log (k + 1)) where
      -- An entry that does not decide.
      pub still_waits : not s.decided ≡ true → (twice : Set) (first : Option ℕ)
          → Decides log (k + 1) r t rows (record { once = s.seen; twice = twice; valid = s.valid; decided = x.decided; first = first })
      still_waits d twice first =
          record {
            place = placed;
            answers = next x.decided (λ p l. refl) (sym (not_decided t rows r log good (k + 1) es d) ∙ answer-none x.decided (k + 1) z);
            waits = λ q. ap (λ (w : Standing). w.decided) (sym es) ∙ not-true s.decided d;
            seen = λ q. ap (λ (w : Standing). w.seen) (sym es);
            valid = λ q. ap (λ (w : Standing). w.valid) (sym es);
          }

      -- The entry that decides.
      pub now_decided : not s.decided ≡ false → s.entries ≡ k + 1 → (found : Sets) → found ≡ found_sets t log r s.valid (k + 1)
          → (once twice valid : Set) (first : Option ℕ)
          → Decides log (k + 1) r t rows
          (record { once = once; twice = twice; valid = valid; decided = Some (record { place = k + 1; sets = found }); first = first })
      now_decided d en found ef once twice valid first =
          let y : Decided = record { place = k + 1; sets = found } in
          record {
            place = omega arith;
            answers = next (Some y) (λ p l. sym (answer-none x.decided p z) ∙ answer_later y p (omega arith))
                (sym (is_decided t rows r log good (k + 1) es d (ef ∙ ap (found_sets t log r s.valid) (sym en))) ∙ answer-sets y (k + 1) (omega arith));
            waits = λ q. cc;
            seen = λ q. cc;
            valid = λ q. cc;
          }

    -- An entry of another round.
    pub decides_other : is_good t ≡ true → ((entry_of log k).round ≡ r → ⊥) → Decides log (k + 1) r t rows x
    decides_other good d = go (is_some x.decided) refl
      where
        go : (b : Bool) → is_some x.decided ≡ b → Decides log (k + 1) r t rows x
        go true g = decided_stays g x.once x.twice x.first
        go false z =
            let es = standing_other z d in
            record {
              place = placed;
              answers = next x.decided (λ p l. refl)
                  (sym (not_decided t rows r log good (k + 1) {s = standing_of t rows r log k} es (ap not (h.waits z))) ∙ answer-none x.decided (k + 1) z);
              waits = λ q. ap (λ (w : Standing). w.decided) (sym es) ∙ h.waits z;
              seen = λ q. ap (λ (w : Standing). w.seen) (sym es) ∙ h.seen z;
              valid = λ q. ap (λ (w : Standing). w.valid) (sym es) ∙ h.valid z;
            }

-- The same entries decide the same.
standing_same : (t : SiteTable) (rows : List ℕ) (r : ℕ) (a b : List ℕ) (k : ℕ) → ((i : ℕ) → i < k → entry_of a i ≡ entry_of b i)
    → standing_of t rows r a k ≡ standing_of t rows r b k
unfolding standing_of
standing_same t rows r a b zero h = refl
standing_same t rows r a b (suc k) h =
    let s = standing_same t rows r a b k (λ i l. h i (omega arith)) in
    λ i. pick (s i).decided (s i) (with_entry t rows r (suc k) (h k (omega arith) i) (s i))

pub decides_same : (t : SiteTable) (rows a b : List ℕ) (k r : ℕ) (x : Round) → ((i : ℕ) → i < k → entry_of a i ≡ entry_of b i)
    → Decides a k r t rows x → Decides b k r t rows x
decides_same t rows a b k r x e h =
    let s = sym (standing_same t rows r a b k e) in
    record {
      place = h.place;
      answers = λ p l. ap (λ (z : Log). decision_of (rows_system t rows) (decide (rows_system t rows) r z)) (sym (log_same a b p (λ i g. e i (omega arith)))) ∙ h.answers p l;
      waits = λ q. ap (λ (w : Standing). w.decided) s ∙ h.waits q;
      seen = λ q. ap (λ (w : Standing). w.seen) s ∙ h.seen q;
      valid = λ q. ap (λ (w : Standing). w.valid) s ∙ h.valid q;
    }
