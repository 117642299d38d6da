-- What the call of a log read answers: one law an answer.
-- Assumes nothing.
use mathlib.Core.Path.{◌≡◌, refl, sym, ap, ◌∙◌}
use Rattle.std.specs.Prelude.{Err, Ok, Result, None, Some}
use mathlib.Core.Bool.{Bool, true, false, not}
use mathlib.Core.List.{List, ◌++◌}
use mathlib.Core.Logic.{◌⊎◌, inl, inr}
use Prim.Native.Nat.{ℕ, ◌/◌, ◌≤◌, ◌<◌}
use native.Mathlib.Omega.{arith}
use lib.Dec.{leb, ltb}
use lib.ListN.{length, take, drop, get_or}
use borrow.Author.Tests.{lt-ltb, le-ltb}
use Rattle.theory.specs.Sets.{pick}
use Rattle.theory.specs.Lists.{nth}
use Rattle.theory.specs.Counting.{not-true, not-false, lt_or_le}
use Rattle.refusals.specs.declared.Refusal.{Refusal}
use Rattle.refusals.specs.declared.Refusal.TheVariants.{Range}
use Rattle.refusals.specs.Refusals.{Verdict}
use Rattle.refusals.specs.Refusals.{number_of, code_of}
use Rattle.table.specs.declared.Rules.{Rules}
use Rattle.commands.specs.Book.{commands_of}
use Rattle.protocol.specs.System.{◌else◌⨾◌, verdict}
use Rattle.protocol.specs.Recovery.{entries}
use Rattle.protocol.specs.Site as protocol
use Rattle.entries.specs.declared.Entry.{Entry}
use Rattle.entries.specs.Entries.{entry_size, entry_of, view_entry, log_to, log_of, in_range_of}
use Rattle.entries.proofs.Logs.{log_nth, log_end, log_of-take}
use Rattle.layout.specs.Layout.{site_size, head_of}
use Rattle.site.proofs.Turning.{third_entry}
use Rattle.site.specs.Steps.{ReadEntry}
use Rattle.judging.specs.Outcomes.{outcome, answered, ◌then◌}
use Rattle.table.specs.Table.{table_in}
use Rattle.judging.specs.Judging.{system_of, span_in, site_in, with_site, entries_in, rules_of, judged_as, for_site_and_log}
use Rattle.judging.proofs.Demands.{then_taken, then_refused, answered_refused}
use Rattle.judging.proofs.Laws.{Judged, JudgedLog, log_judged, good_code, good_rules, refused_code}
use Rattle.judging.proofs.Steps.{carried}
use Rattle.engine.specs.Next.{next_in_range_of, third_of}
use Rattle.engine.specs.Calls.{log_read_call}
use Rattle.engine.proofs.Few.{few_entries}

-- ---- the next entry

module _ (log : List ℕ) (p : ℕ) where
  pub next-none : (n m : ℕ) → entries_in log ≤ p → true ≡ next_in_range_of log p n m
  unfolding next_in_range_of
  next-none n m h = simp (le-ltb p (entries_in log) h)

  pub next-some : (n m : ℕ) {e : Entry} {r : Bool} → p < entries_in log → e ≡ entry_of log p → r ≡ in_range_of n m e → r ≡ next_in_range_of log p n m
  unfolding next_in_range_of
  next-some n m h ee er =
      er ∙ ap (in_range_of n m) ee ∙ (λ i. pick (sym (lt-ltb p (entries_in log) h) i) (in_range_of n m (entry_of log p)) true)

  pub third_none : entries_in log ≤ p → false ≡ third_of log p
  unfolding third_of
  third_none h = simp (le-ltb p (entries_in log) h)

  pub third_some : {s r k : ℕ} → p < entries_in log → s ≡ (entry_of log p).site → r ≡ (entry_of log p).round → k ≡ entries s r (log_to log p) → leb 2 k ≡ third_of log p
  unfolding third_of
  third_some h es er ek =
      ap (leb 2) (ek ∙ (λ i. entries (es i) (er i) (log_to log p)))
      ∙ (λ i. pick (sym (lt-ltb p (entries_in log) h) i) (leb 2 (entries (entry_of log p).site (entry_of log p).round (log_to log p))) false)

  there : p < entries_in log → nth (log_of log) p ≡ Some (view_entry (entry_of log p))
  unfolding log_of
  there h = log_nth log (length log / entry_size) p h

  past : entries_in log ≤ p → nth (log_of log) p ≡ None
  unfolding log_of
  past h = log_end log (length log / entry_size) p h

module _ (table book log : List ℕ) (p : ℕ) where
  -- What is looked at is the protocol's.
  range_is : protocol.next_in_range (system_of table book) (nth (log_of log) p) ≡ next_in_range_of log p (table_in table).sites (length (commands_of book))
  unfolding next_in_range_of
  range_is = go (lt_or_le p (entries_in log))
    where
      go : (p < entries_in log) ⊎ (entries_in log ≤ p)
          → protocol.next_in_range (system_of table book) (nth (log_of log) p) ≡ pick (ltb p (entries_in log)) (in_range_of (table_in table).sites (length (commands_of book)) (entry_of log p)) true
      go (inl h) =
          ap (protocol.next_in_range (system_of table book)) (there log p h)
          ∙ (λ i. pick (sym (lt-ltb p (entries_in log) h) i) (in_range_of (table_in table).sites (length (commands_of book)) (entry_of log p)) true)
      go (inr h) =
          ap (protocol.next_in_range (system_of table book)) (past log p h)
          ∙ (λ i. pick (sym (le-ltb p (entries_in log) h) i) (in_range_of (table_in table).sites (length (commands_of book)) (entry_of log p)) true)

  some_is : ltb p (entries_in log) ≡ protocol.is_some (nth (log_of log) p)
  some_is = go (lt_or_le p (entries_in log))
    where
      go : (p < entries_in log) ⊎ (entries_in log ≤ p) → ltb p (entries_in log) ≡ protocol.is_some (nth (log_of log) p)
      go (inl h) = lt-ltb p (entries_in log) h ∙ ap protocol.is_some (sym (there log p h))
      go (inr h) = le-ltb p (entries_in log) h ∙ ap protocol.is_some (sym (past log p h))

  third_is : p ≤ entries_in log → not (third_of log p) ≡ protocol.no_third (system_of table book) (take p (log_of log)) (nth (log_of log) p)
  unfolding third_of
  third_is l = go (lt_or_le p (entries_in log))
    where
      go : (p < entries_in log) ⊎ (entries_in log ≤ p)
          → not (pick (ltb p (entries_in log)) (leb 2 (entries (entry_of log p).site (entry_of log p).round (log_to log p))) false)
          ≡ protocol.no_third (system_of table book) (take p (log_of log)) (nth (log_of log) p)
      go (inl h) =
          (λ i. not (pick (lt-ltb p (entries_in log) h i) (leb 2 (entries (entry_of log p).site (entry_of log p).round (log_to log p))) false))
          ∙ third_entry (entries (entry_of log p).site (entry_of log p).round (log_to log p))
          ∙ (λ i. protocol.no_third (system_of table book) (sym (log_of-take log p l) i) (sym (there log p h) i))
      go (inr h) =
          (λ i. not (pick (le-ltb p (entries_in log) h i) (leb 2 (entries (entry_of log p).site (entry_of log p).round (log_to log p))) false))
          ∙ ap (protocol.no_third (system_of table book) (take p (log_of log))) (sym (past log p h))

-- ---- the call

module _ (table book site log : List ℕ) {j : Result Rules Refusal}
    (e : j ≡ judged_as (verdict (for_site_and_log table book true site log)) (rules_of table book)) where
  pub read_refused : {r : Refusal} {k : ℕ} → j ≡ Err r → k ≡ number_of r → outcome k site ≡ log_read_call table book site log
  unfolding log_read_call
  read_refused h ek =
      let w = refused_code (verdict (for_site_and_log table book true site log)) (rules_of table book) e h ek in
      then_refused (for_site_and_log table book true site log)
      (protocol.next_in_range (system_of table book) (protocol.next (system_of table book) (site_in table book site) (log_of log)) else Range
      ⨾ protocol.for_log_read (system_of table book) (site_in table book site) (log_of log))
      _ site w.0 w.1

  module _ {x : Rules} (h : j ≡ Ok x) where
    code : 0 ≡ code_of (verdict (for_site_and_log table book true site log))
    code = good_code (verdict (for_site_and_log table book true site log)) (rules_of table book) e h

    judged : Judged table book site × JudgedLog table book site log
    judged = let j = log_judged table book true site log code refl in (j.1, j.2)

    pub read_sized : site_size ≤ length site
    read_sized = judged.0.sized

    -- The position is far from the greatest that a site can hold.
    pub read_early : (head_of (take site_size site)).position < 65535
    read_early =
        let l = few_entries log (table_in table).sites (length (commands_of book)) judged.0.few (head_of (take site_size site)).position judged.1.before in omega arith

    module _ {p : ℕ} (ep : p ≡ (head_of (take site_size site)).position) {t : Bool} (et : t ≡ next_in_range_of log p x.table.sites x.commands) where
      rules : (x.table ≡ table_in table) × (x.commands ≡ length (commands_of book))
      rules = good_rules table book (verdict (for_site_and_log table book true site log)) e h

      in_range : protocol.next_in_range (system_of table book) (protocol.next (system_of table book) (site_in table book site) (log_of log)) ≡ t
      in_range =
          ap (λ (x : ℕ). protocol.next_in_range (system_of table book) (nth (log_of log) x)) (sym ep)
          ∙ range_is table book log p ∙ (λ i. next_in_range_of log p (sym rules.0 i).sites (sym rules.1 i)) ∙ sym et

      first : verdict
          (for_site_and_log table book true site log
          then protocol.next_in_range (system_of table book) (protocol.next (system_of table book) (site_in table book site) (log_of log)) else Range
          ⨾ protocol.for_log_read (system_of table book) (site_in table book site) (log_of log))
          ≡ verdict (t else Range ⨾ protocol.for_log_read (system_of table book) (site_in table book site) (log_of log))
      first =
          then_taken (for_site_and_log table book true site log)
          (protocol.next_in_range (system_of table book) (protocol.next (system_of table book) (site_in table book site) (log_of log)) else Range
          ⨾ protocol.for_log_read (system_of table book) (site_in table book site) (log_of log)) code refl
          ∙ (λ i. verdict (in_range i else Range ⨾ protocol.for_log_read (system_of table book) (site_in table book site) (log_of log)))

      pub read_range : {k : ℕ} → not t ≡ true → k ≡ number_of Range → outcome k site ≡ log_read_call table book site log
      unfolding log_read_call
      read_range h ek =
          (λ i. outcome (ek i) site)
          ∙ answered_refused Range _ site
          (first ∙ (λ i. verdict (not-true t h i else Range ⨾ protocol.for_log_read (system_of table book) (site_in table book site) (log_of log))))

      pub read_done : not t ≡ false → ((i : ℕ) → get_or site i 0 < 256) → {third : Bool} {r : Verdict} {b : List ℕ} {code : ℕ} → third ≡ third_of log p
          → ReadEntry (ltb p (entries_in log)) third (take site_size site) r b → code ≡ code_of r → outcome code (b ++ drop site_size site) ≡ log_read_call table book site log
      unfolding log_read_call
      read_done h small e o ek =
          carried table book site judged.0.good small (verdict (protocol.for_log_read (system_of table book) (site_in table book site) (log_of log)))
          (protocol.read_entry (system_of table book) (site_in table book site))
          (o (table_in table) (commands_of book) (log_of log) judged.0.good
          (some_is table book log p ∙ ap (λ (x : ℕ). protocol.is_some (nth (log_of log) x)) ep)
          (ap not e ∙ third_is table book log p (let l = judged.1.position in omega arith)
          ∙ ap (λ (x : ℕ). protocol.no_third (system_of table book) (take x (log_of log)) (nth (log_of log) x)) ep)) ek
          ∙ (λ i. answered
          (sym (first ∙ (λ j. verdict (not-false t h j else Range ⨾ protocol.for_log_read (system_of table book) (site_in table book site) (log_of log)))) i)
          (with_site table book (span_in site) site (protocol.read_entry (system_of table book) (site_in table book site))) site)
