-- What is kept of a log with no entry, and with an entry more.
-- Assumes nothing.
use mathlib.Core.Path.{◌≡◌, refl, sym, ap, ◌∙◌, subst}
use mathlib.Core.Bool.{true, not}
use mathlib.Core.List.{List}
use Prim.Native.Nat.{ℕ, ◌+◌, ◌*◌, ◌≤◌, ◌<◌}
use native.Mathlib.Decide.{ℕ_discrete}
use native.Mathlib.Omega.{arith}
use lib.Dec.{ltb}
use lib.ListN.{length, set, replicate, get_or-replicate}
use lib.Seq.{get_or-set_same, get_or-set_other}
use Rattle.sets.proofs.Laws.{in_empty}
use Rattle.table.specs.declared.SiteTable.{SiteTable}
use Rattle.table.specs.Table.{is_good}
use Rattle.protocol.specs.Recovery.{decide}
use Rattle.calm.specs.Rows.{rows_system}
use Rattle.entries.specs.declared.Entry.{Entry}
use Rattle.entries.specs.Entries.{entry_size, entry_of, write_entry, log_to}
use Rattle.entries.proofs.Bytes.{Fits, entry_written, entry_other}
use Rattle.entries.proofs.Judging.{entries_none}
use Rattle.standing.specs.Standings.{standing_of}
use Rattle.standing.proofs.Tallies.{decide-none}
use Rattle.recovery.specs.Decisions.{decision_of}
use Rattle.rounds.specs.declared.Round.{Round}
use Rattle.rounds.specs.declared.Rounds.{Rounds}
use Rattle.rounds.specs.Rounds.{kept_rounds, unheard, round_in, Counts, Decides, KeptTo, Kept}
use Rattle.rounds.proofs.Sites.{counts_other, counts_same}
use Rattle.rounds.proofs.Answers.{decides_other, decides_same}

-- ---- the start

unheard_counts : (log : List ℕ) (r : ℕ) → Counts log 0 r unheard
unheard_counts log r =
    record {
      once = λ j l. in_empty j ∙ ap (ltb 0) (entries_none log j r);
      twice = λ j l. in_empty j ∙ ap (λ (n : ℕ). not (ltb n 2)) (entries_none log j r);
      first = λ i l e. absurd (omega arith);
      within = tt;
    }

unheard_decides : (t : SiteTable) (rows log : List ℕ) (r : ℕ) → Decides log 0 r t rows unheard
unfolding standing_of
unheard_decides t rows log r =
    record {
      place = tt;
      answers = λ p l. let q : p ≡ 0 = omega arith in
          ap (λ (n : ℕ). decision_of (rows_system t rows) (decide (rows_system t rows) r (log_to log n))) q
          ∙ ap (decision_of (rows_system t rows)) (decide-none (rows_system t rows) r log);
      waits = λ z. refl;
      seen = λ z. refl;
      valid = λ z. refl;
    }

-- The rounds of a log with no entry.
pub rounds_start : (t : SiteTable) (rows log : List ℕ) → Kept t rows log (record { rounds = replicate {A = Round} kept_rounds unheard; entries = 0 })
rounds_start t rows log =
    record {
      counts = λ r l. subst (λ (x : Round). Counts log 0 r x) (sym (get_or-replicate {A = Round} kept_rounds r unheard unheard l)) (unheard_counts log r);
      decides = λ r l. subst (λ (x : Round). Decides log 0 r t rows x) (sym (get_or-replicate {A = Round} kept_rounds r unheard unheard l)) (unheard_decides t rows log r);
    }

-- ---- one entry more

-- An entry written after those that are kept leaves them.
pub kept-written : (t : SiteTable) (rows log : List ℕ) (k : ℕ) (kept : Rounds) (e : Entry) {written : List ℕ} → written ≡ write_entry log k e
    → k * entry_size + entry_size ≤ length log → KeptTo t rows log k kept → KeptTo t rows written k kept
kept-written t rows log k kept e {written} ew room h =
    record {
      counts = λ r l. counts_same log written k r (round_in kept r) same (h.counts r l);
      decides = λ r l. decides_same t rows log written k r (round_in kept r) same (h.decides r l);
    }
  where
    same : (i : ℕ) → i < k → entry_of log i ≡ entry_of written i
    same i l = sym (ap (λ (b : List ℕ). entry_of b i) ew ∙ entry_other log k e i room (λ q. omega arith))

-- It is read back.
pub new_entry : (log : List ℕ) (k : ℕ) (e : Entry) {written : List ℕ} → written ≡ write_entry log k e
    → k * entry_size + entry_size ≤ length log → Fits e → entry_of written k ≡ e
new_entry log k e ew room f = ap (λ (b : List ℕ). entry_of b k) ew ∙ entry_written log k e room f

-- Its round is replaced; the others stay, and their decision too.
pub kept_more : (t : SiteTable) (rows log : List ℕ) (k r : ℕ) (kept : Rounds) (x : Round) (n : ℕ) → is_good t ≡ true → length kept.rounds ≡ kept_rounds
    → r < kept_rounds → (entry_of log k).round ≡ r → KeptTo t rows log k kept → Counts log (k + 1) r x → Decides log (k + 1) r t rows x
    → KeptTo t rows log (k + 1) (record { rounds = set kept.rounds r x; entries = n })
kept_more t rows log k r kept x n good size l er h hc hd =
    record {
      counts = λ s g. counted s g (ℕ_discrete s r);
      decides = λ s g. decided s g (ℕ_discrete s r);
    }
  where
    after : Rounds
    after = record { rounds = set kept.rounds r x; entries = n }

    own : {s : ℕ} → s ≡ r → x ≡ round_in after s
    own {s} q = sym (ap (round_in after) q ∙ get_or-set_same kept.rounds r x unheard (omega arith))

    other : (s : ℕ) → (s ≡ r → ⊥) → round_in kept s ≡ round_in after s
    other s d = sym (get_or-set_other kept.rounds r s x unheard d)

    counted : (s : ℕ) → s < kept_rounds → Dec (s ≡ r) → Counts log (k + 1) s (round_in after s)
    counted s g (yes q) = subst (λ (y : Round). Counts log (k + 1) s y) (own q) (subst (λ (i : ℕ). Counts log (k + 1) i x) (sym q) hc)
    counted s g (no d) = subst (λ (y : Round). Counts log (k + 1) s y) (other s d) (counts_other log k s (round_in kept s) (λ q. d (sym q ∙ er)) (h.counts s g))

    decided : (s : ℕ) → s < kept_rounds → Dec (s ≡ r) → Decides log (k + 1) s t rows (round_in after s)
    decided s g (yes q) = subst (λ (y : Round). Decides log (k + 1) s t rows y) (own q) (subst (λ (i : ℕ). Decides log (k + 1) i t rows x) (sym q) hd)
    decided s g (no d) =
        subst (λ (y : Round). Decides log (k + 1) s t rows y) (other s d) (decides_other t rows log k s (round_in kept s) (h.decides s g) good (λ q. d (sym q ∙ er)))
