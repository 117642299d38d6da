-- What the calls that deliver answer: one law an answer.
-- Assumes nothing.
use mathlib.Core.Path.{◌≡◌, refl, sym, ap, subst, ◌∙◌}
use Rattle.std.specs.Prelude.{Err, Ok, Option, Result}
use Rattle.recovery.specs.declared.Sets.{Sets}
use mathlib.Core.Bool.{Bool, true, false}
use mathlib.Core.List.{List, ◌++◌}
use Prim.Native.Nat.{ℕ, ◌*◌, ◌/◌, ◌≤◌, ◌<◌}
use native.Mathlib.Omega.{arith}
use lib.Dec.{leb, ltb}
use lib.ListN.{length, take, drop, get_or, replicate}
use borrow.Author.Tests.{lt-ltb, le-ltb}
use Rattle.theory.specs.Counting.{left, all_at}
use Rattle.refusals.specs.declared.Refusal.{Refusal}
use Rattle.refusals.specs.declared.Refusal.TheVariants.{Range}
use Rattle.refusals.specs.Refusals.{Verdict}
use Rattle.refusals.specs.Refusals.{number_of, code_of}
use Rattle.table.specs.declared.Rules.{Rules}
use Rattle.table.specs.declared.SiteTable.{SiteTable}
use Rattle.table.specs.Table.{is_good, table_in}
use Rattle.commands.specs.Book.{max_commands, commands_of, Placed}
use Rattle.conflicts.specs.Conflicts.{conflict_rows, rows_in, Noted}
use Rattle.conflicts.proofs.Laws.{none_noted, all_noted}
use Rattle.protocol.specs.System.{◌else◌⨾◌, verdict}
use Rattle.protocol.specs.Recovery as recovery
use Rattle.protocol.specs.Site as protocol
use Rattle.system.specs.Dash.{dash}
use Rattle.calm.specs.Rows.{rows_system}
use Rattle.entries.specs.Entries.{entry_size, entry_of, in_range_of, good_at, good_to, log_to, log_of}
use Rattle.protocol.specs.Recovery.{entries}
use Rattle.entries.proofs.Logs.{log_of-take}
use Rattle.recovery.specs.Decisions.{decision_of, DecisionWithin}
use Rattle.recovery.proofs.Within.{decision-within}
use Rattle.layout.specs.Layout.{site_size, head_of, view}
use Rattle.layout.specs.Good.{Good}
use Rattle.fast.specs.Fast.{FastDelivered}
use Rattle.ending.specs.Ending.{EndedBy, RoundEnded}
use Rattle.ending.proofs.Telling.{told}
use Rattle.judging.specs.Outcomes.{outcome, answered, ◌then◌}
use Rattle.judging.specs.Judging.{system_of, span_in, site_in, with_site, rules_of, judged_as, for_site, for_site_and_log, places_after}
use Rattle.judging.proofs.Demands.{then_taken, then_refused, answered_refused}
use Rattle.judging.proofs.Laws.{Judged, JudgedLog, site_judged, log_judged, site_noted, log_placed, good_taken, good_code, good_rules, refused_code}
use Rattle.judging.proofs.Steps.{carried}
use Rattle.delivering.specs.Delivering.{fast_delivery_call, round_end_call}

-- ---- a fast delivery

module _ (table book site : List ℕ) (m : ℕ) {j : Result Rules Refusal}
    (e : j ≡ judged_as (verdict (for_site table book true site)) (rules_of table book)) where
  pub fast_refused : {r : Refusal} {k : ℕ} → j ≡ Err r → k ≡ number_of r → outcome k site ≡ fast_delivery_call table book site m
  unfolding fast_delivery_call
  fast_refused h ek =
      let w = refused_code (verdict (for_site table book true site)) (rules_of table book) e h ek in
      then_refused (for_site table book true site)
      (ltb m (length (commands_of book)) else Range ⨾ protocol.for_fast_delivery (system_of table book) m (site_in table book site)) _ site w.0 w.1

  module _ {x : Rules} (h : j ≡ Ok x) where
    code : 0 ≡ code_of (verdict (for_site table book true site))
    code = good_code (verdict (for_site table book true site)) (rules_of table book) e h

    judged : Judged table book site
    judged = (site_judged table book true true site code refl).2

    pub fast_sized : site_size ≤ length site
    fast_sized = judged.sized

    first : (t : Bool) → ltb m (length (commands_of book)) ≡ t
        → verdict (for_site table book true site then ltb m (length (commands_of book)) else Range ⨾ protocol.for_fast_delivery (system_of table book) m (site_in table book site))
        ≡ verdict (t else Range ⨾ protocol.for_fast_delivery (system_of table book) m (site_in table book site))
    first t e =
        then_taken (for_site table book true site)
        (ltb m (length (commands_of book)) else Range ⨾ protocol.for_fast_delivery (system_of table book) m (site_in table book site)) code refl
        ∙ (λ i. verdict (e i else Range ⨾ protocol.for_fast_delivery (system_of table book) m (site_in table book site)))

    counted : x.commands ≡ length (commands_of book)
    counted = (good_rules table book (verdict (for_site table book true site)) e h).1

    pub fast_range : {k : ℕ} → x.commands ≤ m → k ≡ number_of Range → outcome k site ≡ fast_delivery_call table book site m
    unfolding fast_delivery_call
    fast_range l ek = let c = counted in (λ i. outcome (ek i) site) ∙ answered_refused Range _ site (first false (le-ltb m (length (commands_of book)) (omega arith)))

    tabled : x.table ≡ table_in table
    tabled = (good_rules table book (verdict (for_site table book true site)) e h).0

    pub fast_ready : m < x.commands → (places : List ℕ) {after : List ℕ} → max_commands ≤ length places → after ≡ places_after table book (leb site_size (length site)) places
        → Good x.table.sites x.commands (take site_size site) × (is_good x.table ≡ true) × Placed book after × (length (commands_of book) ≡ x.commands) × (m < x.commands)
    fast_ready l places room en = (
      subst (λ (t : SiteTable). Good t.sites x.commands (take site_size site)) (sym tabled) (subst (λ (k : ℕ). Good (table_in table).sites k (take site_size site)) (sym counted) judged.good),
      subst (λ (t : SiteTable). is_good t ≡ true) (sym tabled) judged.table-good,
      site_noted table book true site places room en code refl,
      sym counted,
      l,
    )

    pub fast_done : m < x.commands → ((i : ℕ) → get_or site i 0 < 256) → {r : Verdict} {b : List ℕ} {number : ℕ}
        → FastDelivered x.table (commands_of book) m (take site_size site) r b → number ≡ code_of r → outcome number (b ++ drop site_size site) ≡ fast_delivery_call table book site m
    unfolding fast_delivery_call
    fast_done l small {r} {b} o ek =
        let c = counted in
        carried table book site judged.good small (verdict (protocol.for_fast_delivery (system_of table book) m (site_in table book site)))
        (protocol.deliver_fast (system_of table book) m (site_in table book site)) (subst (λ (t : SiteTable). FastDelivered t (commands_of book) m (take site_size site) r b) tabled o) ek
        ∙ (λ i. answered (sym (first true (lt-ltb m (length (commands_of book)) (omega arith))) i)
        (with_site table book (span_in site) site (protocol.deliver_fast (system_of table book) m (site_in table book site))) site)

-- ---- a round that ends

-- The decision of the site's round at the site's position.
pub decided_by : (t : SiteTable) (book log : List ℕ) {rows : List ℕ} {p r : ℕ} (b : List ℕ) {d : Option Sets} → rows ≡ conflict_rows book → p ≡ (head_of b).position → r ≡ (head_of b).round
    → d ≡ decision_of (rows_system t rows) (recovery.decide (rows_system t rows) r (log_to log p))
    → d ≡ decision_of (rows_system t (conflict_rows book)) (recovery.decide (rows_system t (conflict_rows book)) (head_of b).round (log_to log (head_of b).position))
decided_by t book log b ew ep er ed = ed ∙ (λ i. decision_of (rows_system t (ew i)) (recovery.decide (rows_system t (ew i)) (er i) (log_to log (ep i))))

-- The entries of a good log are in range.
module _ (t : SiteTable) (book log : List ℕ) {commands : ℕ} (count : length (commands_of book) ≡ commands) (k : ℕ) (good : good_to log t.sites commands k ≡ true) where
  good_range : (p : ℕ) → p < k → in_range_of t.sites (length (commands_of book)) (entry_of log p) ≡ true
  good_range p l =
      ap (λ (n : ℕ). in_range_of t.sites n (entry_of log p)) count
      ∙ left (in_range_of t.sites commands (entry_of log p)) (ltb (entries (entry_of log p).site (entry_of log p).round (log_to log p)) 2)
      (all_at k (good_at log t.sites commands) good p l)

module _ (t : SiteTable) (table : is_good t ≡ true) (book log b : List ℕ) {commands : ℕ} (count : length (commands_of book) ≡ commands)
    (small : (i : ℕ) → get_or log i 0 < 256)
    (position : (head_of b).position ≤ length log / entry_size) (before : good_to log t.sites commands (head_of b).position ≡ true)
    {d : Option Sets}
    (ed : d ≡ decision_of (rows_system t (conflict_rows book)) (recovery.decide (rows_system t (conflict_rows book)) (head_of b).round (log_to log (head_of b).position))) where
  room : (head_of b).position * entry_size ≤ length log
  room = omega arith

  logged : (p : ℕ) → p < (head_of b).position → in_range_of t.sites (length (commands_of book)) (entry_of log p) ≡ true
  logged = good_range t book log count (head_of b).position before

  read : protocol.decision (dash t (commands_of book)) (view t (commands_of book) b) (log_of log) ≡ recovery.decide (dash t (commands_of book)) (head_of b).round (log_to log (head_of b).position)
  read = ap (recovery.decide (dash t (commands_of book)) (head_of b).round) (log_of-take log (head_of b).position position)

  pub within-sets : DecisionWithin commands d
  within-sets =
      subst (λ (k : ℕ). DecisionWithin k d) count
      (decision-within t table book (conflict_rows book) log small (head_of b).position (head_of b).round room logged refl ed)

  pub ended_as_decided : Good t.sites commands b → {r : Verdict} {b' : List ℕ} → RoundEnded (commands_of book) d b r b' → EndedBy t (commands_of book) (log_of log) b r b'
  ended_as_decided good o =
      o t (log_of log) (subst (λ (k : ℕ). Good t.sites k b) (sym count) good)
      (told t table book (conflict_rows book) log small (head_of b).position (head_of b).round room logged refl ed (view t (commands_of book) b) (log_of log) read refl)

module _ (table book site log : List ℕ) {j : Result Rules Refusal}
    (e : j ≡ judged_as (verdict (for_site_and_log table book true site log)) (rules_of table book)) where
  pub end_refused : {r : Refusal} {k : ℕ} → j ≡ Err r → k ≡ number_of r → outcome k site ≡ round_end_call table book site log
  unfolding round_end_call
  end_refused h ek =
      let w = refused_code (verdict (for_site_and_log table book true site log)) (rules_of table book) e h ek in
      then_refused (for_site_and_log table book true site log) (protocol.for_round_end (system_of table book) (site_in table book site) (log_of log)) _ site w.0 w.1

  module _ {x : Rules} (h : j ≡ Ok x) where
    end_code : 0 ≡ code_of (verdict (for_site_and_log table book true site log))
    end_code = good_code (verdict (for_site_and_log table book true site log)) (rules_of table book) e h

    judged_log : Judged table book site × JudgedLog table book site log
    judged_log = let j = log_judged table book true site log end_code refl in (j.1, j.2)

    pub end_sized : site_size ≤ length site
    end_sized = judged_log.0.sized

    ruled : x ≡ rules_of table book
    ruled = (good_taken (verdict (for_site_and_log table book true site log)) (rules_of table book) e h).1

    module _ {after : List ℕ} (w : after ≡ places_after table book (leb site_size (length site)) none_noted) where
      -- The commands are counted and their places noted, and no row yet.
      pub end_placed : (rows_in after ≡ replicate max_commands 0) × (x.commands ≡ length (commands_of book)) × Placed book after
      end_placed = log_placed table book true site none_noted (omega arith) w log e h

      pub end_ready : {noted : List ℕ} → noted ≡ take max_commands after ++ conflict_rows book
          → Good x.table.sites x.commands (take site_size site) × (is_good x.table ≡ true) × Noted book noted × (length (commands_of book) ≡ x.commands)
          × ((head_of (take site_size site)).position ≤ length log / entry_size) × (good_to log x.table.sites x.commands (head_of (take site_size site)).position ≡ true)
      end_ready en = (
        subst (λ (y : Rules). Good y.table.sites y.commands (take site_size site)) (sym ruled) judged_log.0.good,
        subst (λ (y : Rules). is_good y.table ≡ true) (sym ruled) judged_log.0.table-good,
        all_noted book after end_placed.0 end_placed.2 en,
        sym end_placed.1,
        judged_log.1.position,
        subst (λ (y : Rules). good_to log y.table.sites y.commands (head_of (take site_size site)).position ≡ true) (sym ruled) judged_log.1.before,
      )

    pub end_done : ((i : ℕ) → get_or site i 0 < 256) → {r : Verdict} {b : List ℕ} {number : ℕ}
        → EndedBy x.table (commands_of book) (log_of log) (take site_size site) r b → number ≡ code_of r → outcome number (b ++ drop site_size site) ≡ round_end_call table book site log
    unfolding round_end_call
    end_done small {r} {b} o ek =
        carried table book site judged_log.0.good small (verdict (protocol.for_round_end (system_of table book) (site_in table book site) (log_of log)))
        (protocol.finish (system_of table book) (protocol.tally_or (protocol.decision (system_of table book) (site_in table book site) (log_of log))) (site_in table book site)) (subst (λ (y : Rules). EndedBy y.table (commands_of book) (log_of log) (take site_size site) r b) ruled o) ek
        ∙ (λ i. answered
        (sym (then_taken (for_site_and_log table book true site log) (protocol.for_round_end (system_of table book) (site_in table book site) (log_of log)) end_code refl) i)
        (with_site table book (span_in site) site
        (protocol.finish (system_of table book) (protocol.tally_or (protocol.decision (system_of table book) (site_in table book site) (log_of log))) (site_in table book site))) site)
