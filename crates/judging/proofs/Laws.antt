-- What the judges of the first demands, of a lent site and of a lent log answer, one law an answer, and what a site that passed is.
-- Assumes nothing.
use mathlib.Core.Path.{◌≡◌, refl, sym, ap, subst, ◌∙◌}
use Rattle.std.specs.Prelude.{Err, None, Ok, Option, Result, Some}
use mathlib.Core.Bool.{Bool, true, false, not, ◌&&◌}
use mathlib.Core.List.{List}
use Prim.Native.Nat.{ℕ, ◌*◌, ◌%◌, ◌≤◌}
use native.Mathlib.Omega.{arith}
use lib.Dec.{leb}
use lib.ListN.{length, take, drop, length-take, replicate}
use borrow.Author.Tests.{leb-true, eqb-true}
use lib.Seq.{sets}
use Rattle.theory.specs.Sets.{pick}
use Rattle.theory.specs.Counting.{left, right, not-true, not-false, never}
use Rattle.refusals.specs.declared.Refusal.{Refusal}
use Rattle.refusals.specs.declared.Refusal.TheVariants.{Book, Table, Form, Range, Size}
use Rattle.refusals.specs.Refusals.{Verdict, accepted}
use Rattle.refusals.specs.Refusals.{number_of, code_of, is_taken}
use Rattle.refusals.specs.Numbers.{number_nonzero}
use Rattle.table.specs.declared.Rules.{Rules}
use Rattle.table.specs.declared.SiteTable.{SiteTable}
use Rattle.table.specs.Table.{max_sites, is_good, table_size, table_in, marked_in, good_table_in, good_marked_in, read_table, read_marked}
use Rattle.table.proofs.Laws.{good_limits, judged_good, judged_refused}
use Rattle.commands.specs.Book.{max_commands, commands_of, Placed, judge_book, measure_book, noted_places}
use Rattle.commands.proofs.Noting.{note_noted, past_noted}
use Rattle.commands.proofs.Walk.{is_counted, not-counted}
use Rattle.protocol.specs.System.{Demands, granted, ◌else◌⨾◌, verdict}
use Rattle.entries.specs.Entries.{entry_size, good_to}
use Rattle.layout.specs.Layout.{site_size, head_of}
use Rattle.layout.specs.Good as layout
use Rattle.layout.specs.Good.{good_site}
use Rattle.lent.proofs.Judged.{site_good}
use Rattle.judging.specs.Outcomes.{◌then◌}
use Rattle.judging.specs.Judging.{any_position, entries_in, is_whole, is_site, rules_of, judged_as, for_marked, for_book, for_first, for_rules, for_lent, for_site, for_site_and_log, places_after}
use Rattle.judging.proofs.Demands.{Met, met, then_taken}

-- The first bytes of a buffer that is long enough.
pub first_length : (n : ℕ) (s : List ℕ) → n ≤ length s → n ≡ length (take n s)
first_length n s h = simp length-take (omega arith)

-- ---- the site table, the book, and what every call judges first

module _ (table : List ℕ) where
  pub table-good : {t : SiteTable} → read_marked table ≡ Ok t → accepted ≡ verdict (for_marked table)
  table-good e = λ i. verdict (sym (judged_good (good_marked_in table) (marked_in table) e).0 i else Table ⨾ granted)

  pub table-refused : {r : Refusal} → read_marked table ≡ Err r → Err r ≡ verdict (for_marked table)
  table-refused e = let w = judged_refused (good_marked_in table) (marked_in table) e in ap Err w.1 ∙ (λ i. verdict (sym w.0 i else Table ⨾ granted))

-- The book that was measured.
pub book-counted : (s : List ℕ) {n : ℕ} → measure_book s ≡ Some n → accepted ≡ verdict (for_book s)
book-counted s h = λ i. verdict (is_taken ((is_counted s h).0 i) else Book ⨾ granted)

pub book_refused : (s : List ℕ) → measure_book s ≡ None → Err Book ≡ verdict (for_book s)
book_refused s h = λ i. verdict (is_taken ((not-counted s h).0 i) else Book ⨾ granted)

-- ---- what a judge answers, and the verdict that it tells

module _ (v : Verdict) (rules : Rules) {j : Result Rules Refusal} (e : j ≡ judged_as v rules) where
  pub good_taken : {x : Rules} → j ≡ Ok x → (v ≡ accepted) × (x ≡ rules)
  good_taken {x} h = go v (sym h ∙ e)
    where
      go : (v : Verdict) → Ok x ≡ judged_as v rules → (v ≡ accepted) × (x ≡ rules)
      go (Ok _) e = (refl, cc)
      go (Err r) e = absurd (let z : ◌≡◌ {A = ℕ} 0 1 = cc in omega arith)

  pub refused_by : {r : Refusal} → j ≡ Err r → v ≡ Err r
  refused_by {r} h = go v (sym h ∙ e)
    where
      go : (v : Verdict) → Err r ≡ judged_as v rules → v ≡ Err r
      go (Ok _) e = absurd (let z : ◌≡◌ {A = ℕ} 0 1 = cc in omega arith)
      go (Err x) e = cc

  -- The number of the verdict, where the answer is good and where it is a refusal.
  pub good_code : {x : Rules} → j ≡ Ok x → 0 ≡ code_of v
  good_code h = ap code_of (sym (good_taken h).0)

  pub refused_code : {r : Refusal} {k : ℕ} → j ≡ Err r → k ≡ number_of r → (k ≡ code_of v) × (k ≡ 0 → ⊥)
  refused_code {r} h q = (q ∙ ap code_of (sym (refused_by h)), λ z. number_nonzero r (sym q ∙ z))

-- The rules of a call that is judged good are those of its table and book.
pub good_rules : (table book : List ℕ) (v : Verdict) {j : Result Rules Refusal} {x : Rules} → j ≡ judged_as v (rules_of table book) → j ≡ Ok x
    → (x.table ≡ table_in table) × (x.commands ≡ length (commands_of book))
good_rules table book v e h = let q = (good_taken v (rules_of table book) e h).1 in (ap (λ (y : Rules). y.table) q, ap (λ (y : Rules). y.commands) q)

pub good_sites : (table book : List ℕ) (v : Verdict) {j : Result Rules Refusal} {x : Rules} → j ≡ judged_as v (rules_of table book) → j ≡ Ok x
    → (x.table.sites ≡ (table_in table).sites) × (x.commands ≡ length (commands_of book))
good_sites table book v e h = let w = good_rules table book v e h in (ap (λ (t : SiteTable). t.sites) w.0, w.1)

-- After demands that a judge found met, others decide; one that refused decides.
module _ (d e : Demands) (rules : Rules) {j : Result Rules Refusal} (q : j ≡ judged_as (verdict d) rules) where
  pub after_good : {x : Rules} → j ≡ Ok x → verdict (d then e) ≡ verdict e
  after_good h = then_taken d e (good_code (verdict d) rules q h) refl

  pub after_judged : {x : Rules} → j ≡ Ok x → {r : Verdict} → verdict e ≡ r → judged_as r x ≡ judged_as (verdict (d then e)) rules
  after_judged h {r} w = (λ i. judged_as r ((good_taken (verdict d) rules q h).1 i)) ∙ ap (λ (v : Verdict). judged_as v rules) (sym (after_good h ∙ w))

  pub after_refused : {r : Refusal} → j ≡ Err r → Err r ≡ judged_as (verdict (d then e)) rules
  after_refused {r} h = ap (λ (v : Verdict). judged_as v rules) (sym (refusing d (refused_by (verdict d) rules q h)))
    where
      refusing : (d : Demands) → verdict d ≡ Err r → verdict (d then e) ≡ Err r
      refusing granted z = absurd (let y : ◌≡◌ {A = ℕ} 0 1 = cc in omega arith)
      refusing (true else x ⨾ d) z = refusing d z
      refusing (false else x ⨾ d) z = z

-- ---- sizes, the site table and the book

module _ (table book places : List ℕ) (sized : Bool) where
  pub rules_short : not sized ≡ true
      → (Err Size ≡ judged_as (verdict (for_rules table book sized)) (rules_of table book)) × (places ≡ places_after table book sized places)
  rules_short h =
      let e = sym (not-true sized h) in
      ((λ i. judged_as (verdict (for_rules table book (e i))) (rules_of table book)), (λ i. places_after table book (e i) places))

  module _ (h : not sized ≡ false) where
    is_sized : true ≡ sized
    is_sized = sym (not-false sized h)

    pub rules_table : {j : Result SiteTable Refusal} {r : Refusal} → j ≡ read_table table → j ≡ Err r
        → (Err r ≡ judged_as (verdict (for_rules table book sized)) (rules_of table book)) × (places ≡ places_after table book sized places)
    rules_table q e =
        let told = judged_refused (good_table_in table) (table_in table) (sym q ∙ e) in
        let w = sym told.0 in
        (ap Err told.1 ∙ (λ i. judged_as (verdict (is_sized i else Size ⨾ w i else Table ⨾ for_book book)) (rules_of table book)), (λ i. pick (is_taken (verdict (is_sized i else Size ⨾ w i else Table ⨾ granted))) (sets places 0 (noted_places book)) places))

    module _ {j : Result SiteTable Refusal} {t : SiteTable} (q : j ≡ read_table table) (e : j ≡ Ok t) {m : Option ℕ} {after : List ℕ} (em : m ≡ measure_book book)
        (ea : after ≡ sets places 0 (noted_places book)) where
      w : true ≡ good_table_in table
      w = sym (judged_good (good_table_in table) (table_in table) (sym q ∙ e)).0

      walked : after ≡ places_after table book sized places
      walked = ea ∙ (λ i. pick (is_taken (verdict (is_sized i else Size ⨾ w i else Table ⨾ granted))) (sets places 0 (noted_places book)) places)

      pub rules-book : m ≡ None
          → (Err Book ≡ judged_as (verdict (for_rules table book sized)) (rules_of table book)) × (after ≡ places_after table book sized places)
      rules-book u =
          ((λ i. judged_as (verdict (is_sized i else Size ⨾ w i else Table ⨾ is_taken ((not-counted book (sym em ∙ u)).0 i) else Book ⨾ granted)) (rules_of table book)), walked)

      pub rules_good : {k : ℕ} → m ≡ Some k
          → (Ok (record { table = t; commands = k }) ≡ judged_as (verdict (for_rules table book sized)) (rules_of table book)) × (after ≡ places_after table book sized places)
      rules_good {k} u =
          let c = is_counted book (sym em ∙ u) in
          let x : record { table = t; commands = k } ≡ rules_of table book = λ i. record { table = (judged_good (good_table_in table) (table_in table) (sym q ∙ e)).1 i; commands = c.1 i } in
          (ap Ok x ∙ (λ i. judged_as (verdict (is_sized i else Size ⨾ w i else Table ⨾ is_taken (c.0 i) else Book ⨾ granted)) (rules_of table book)), walked)

-- ---- the site, and the log

module _ (table book : List ℕ) where
  abbrev n : ℕ
  n = (table_in table).sites

  module _ (enough : Bool) (site : List ℕ) {j : Result Rules Refusal} (q : j ≡ judged_as (verdict (for_rules table book (enough && leb site_size (length site)))) (rules_of table book)) where
    -- What follows the rules.
    abbrev rules : Demands
    rules = for_rules table book (enough && leb site_size (length site))

    module _ {x : Rules} (h : j ≡ Ok x) where
      pub rules_met : Met rules
      rules_met = met rules (good_code (verdict rules) (rules_of table book) q h) refl

      pub rules_sized : site_size ≤ length site
      rules_sized = leb-true site_size (length site) (right enough (leb site_size (length site)) rules_met.0)

      -- The site table and the number of commands that the site is judged by.
      pub rules_same : (x.table.sites ≡ n) × (x.commands ≡ length (commands_of book))
      rules_same = good_sites table book (verdict rules) q h

      pub rules_few : x.table.sites ≤ max_sites
      rules_few = subst (λ (k : ℕ). k ≤ max_sites) (sym rules_same.0) (good_limits (table_in table) (right (leb table_size (length table)) (is_good (table_in table)) rules_met.1.0)).sites

      -- What is judged after the rules.
      module _ (formed : Bool) (entries : ℕ) where
        abbrev after : Bool → Bool → Demands
        after a b = a else Form ⨾ b else Range ⨾ granted

        answer : {r : Verdict} → verdict (after formed (is_site table book entries site)) ≡ r → judged_as r x ≡ judged_as (verdict (for_lent table book enough formed entries site)) (rules_of table book)
        answer w = after_judged rules (after formed (is_site table book entries site)) (rules_of table book) q h w

        pub lent_form : not formed ≡ true → Err Form ≡ judged_as (verdict (for_lent table book enough formed entries site)) (rules_of table book)
        lent_form z = answer {r = Err Form} (λ i. verdict (after (not-true formed z i) (is_site table book entries site)))

        module _ (z : not formed ≡ false) {t : Bool} (e : t ≡ good_site x.table.sites x.commands entries (take site_size site)) where
          site_by : is_site table book entries site ≡ t
          site_by = (λ i. good_site (sym rules_same.0 i) (sym rules_same.1 i) entries (take site_size site)) ∙ sym e

          pub lent_bad : not t ≡ true → Err Range ≡ judged_as (verdict (for_lent table book enough formed entries site)) (rules_of table book)
          lent_bad b = answer {r = Err Range} (λ i. verdict (after (not-false formed z i) ((site_by ∙ not-true t b) i)))

          pub lent_good : not t ≡ false → Ok x ≡ judged_as (verdict (for_lent table book enough formed entries site)) (rules_of table book)
          lent_good b = answer {r = accepted} (λ i. verdict (after (not-false formed z i) ((site_by ∙ not-false t b) i)))

  -- ---- what a call knows once it was judged

  -- The sizes, the site table and the book are right, and the bytes are those of a site.
  pub record Judged (site : List ℕ) : Type 0 where
    pub sized : site_size ≤ length site
    pub table-good : is_good (table_in table) ≡ true
    pub whole : good_table_in table ≡ true
    pub few : n ≤ max_sites
    pub listed : is_taken (judge_book book) ≡ true
    pub good : layout.Good n (length (commands_of book)) (take site_size site)

  -- The log is whole entries, the position is within it, and the entries before that are good.
  pub record JudgedLog (site log : List ℕ) : Type 0 where
    pub whole : length log % entry_size ≡ 0
    pub position : (head_of (take site_size site)).position ≤ entries_in log
    pub before : good_to log n (length (commands_of book)) (head_of (take site_size site)).position ≡ true

  -- By the demands on a lent site.
  pub lent_judged : (enough formed : Bool) (entries : ℕ) (site : List ℕ) → Met (for_lent table book enough formed entries site)
      → (enough ≡ true) × (formed ≡ true) × Judged site × ((head_of (take site_size site)).position ≤ entries)
  unfolding head_of
  lent_judged enough formed entries site m =
      let t = right (leb table_size (length table)) (is_good (table_in table)) m.1.0 in
      let g = site_good (take site_size site) n (length (commands_of book)) entries m.1.1.1.1.0 in (
        left enough (leb site_size (length site)) m.0,
        m.1.1.1.0,
        record {
          sized = leb-true site_size (length site) (right enough (leb site_size (length site)) m.0);
          table-good = t;
          whole = m.1.0;
          few = (good_limits (table_in table) t).sites;
          listed = m.1.1.0;
          good = g.0;
        },
        g.1,
      )

  pub site_judged : (enough formed : Bool) (site : List ℕ) {k : ℕ} → k ≡ code_of (verdict (for_lent table book enough formed any_position site)) → k ≡ 0
      → (enough ≡ true) × (formed ≡ true) × Judged site
  site_judged enough formed site q z =
      let w = lent_judged enough formed any_position site (met (for_lent table book enough formed any_position site) q z) in (w.0, w.1, w.2)

  pub log_judged : (enough : Bool) (site log : List ℕ) {k : ℕ} → k ≡ code_of (verdict (for_site_and_log table book enough site log)) → k ≡ 0
      → (enough ≡ true) × Judged site × JudgedLog site log
  log_judged enough site log q z =
      let m = met (for_site_and_log table book enough site log) q z in
      let w = lent_judged enough (is_whole log) (entries_in log) site (m.0, (m.1.0, (m.1.1.0, (m.1.1.1.0, (m.1.1.1.1.0, tt))))) in
      (w.0, w.2, record { whole = eqb-true (length log % entry_size) 0 w.1; position = w.3; before = m.1.1.1.1.1.0 })

  -- ---- the entries before the site's position

  module _ (enough : Bool) (site log : List ℕ) {j : Result Rules Refusal} (q : j ≡ judged_as (verdict (for_lent table book enough (is_whole log) (entries_in log) site)) (rules_of table book)) where
    abbrev lent : Demands
    lent = for_lent table book enough (is_whole log) (entries_in log) site

    abbrev read : Bool
    read = good_to log n (length (commands_of book)) (head_of (take site_size site)).position

    pub log_refused : {r : Refusal} → j ≡ Err r → Err r ≡ judged_as (verdict (for_site_and_log table book enough site log)) (rules_of table book)
    log_refused h = after_refused lent (read else Range ⨾ granted) (rules_of table book) q h

    module _ {x : Rules} (h : j ≡ Ok x) where
      log_lent : (enough ≡ true) × (is_whole log ≡ true) × Judged site × ((head_of (take site_size site)).position ≤ entries_in log)
      log_lent = lent_judged enough (is_whole log) (entries_in log) site (met lent (good_code (verdict lent) (rules_of table book) q h) refl)

      same : (x.table.sites ≡ n) × (x.commands ≡ length (commands_of book))
      same = good_sites table book (verdict lent) q h

      pub log_sized : site_size ≤ length site
      log_sized = log_lent.2.sized

      pub log_few : x.table.sites ≤ max_sites
      log_few = subst (λ (k : ℕ). k ≤ max_sites) (sym same.0) log_lent.2.few

      module _ {p : ℕ} (ep : p ≡ (head_of (take site_size site)).position) where
        pub log_position : p * entry_size ≤ length log
        log_position = let g = log_lent.3 in omega arith

        module _ {u : Bool} (eu : u ≡ good_to log x.table.sites x.commands p) where
          read_by : read ≡ u
          read_by = (λ i. good_to log (sym same.0 i) (sym same.1 i) (sym ep i)) ∙ sym eu

          after-lent : {r : Verdict} → verdict (read else Range ⨾ granted) ≡ r → judged_as r x ≡ judged_as (verdict (for_site_and_log table book enough site log)) (rules_of table book)
          after-lent w = after_judged lent (read else Range ⨾ granted) (rules_of table book) q h w

          pub log_entries : not u ≡ true → Err Range ≡ judged_as (verdict (for_site_and_log table book enough site log)) (rules_of table book)
          log_entries y = after-lent {r = Err Range} (λ i. verdict ((read_by ∙ not-true u y) i else Range ⨾ granted))

          pub log_taken : not u ≡ false → Ok x ≡ judged_as (verdict (for_site_and_log table book enough site log)) (rules_of table book)
          log_taken y = after-lent {r = accepted} (λ i. verdict ((read_by ∙ not-false u y) i else Range ⨾ granted))

-- ---- the noted places of a call that was judged

-- Words for the places of the longest book before any is noted, and that there is room in them.
abbrev pub no_places : List ℕ
no_places = replicate {A = ℕ} max_commands 0

pub full_room : max_commands ≤ 64
full_room = omega arith

-- A book that is taken was counted.
counted : (s : List ℕ) → is_taken (judge_book s) ≡ true → (n : ℕ) × (measure_book s ≡ Some n)
counted s e = go (measure_book s) refl
  where
    go : (m : Option ℕ) → measure_book s ≡ m → (n : ℕ) × (measure_book s ≡ Some n)
    go (Some n) h = (n, h)
    go None h = absurd (never (is_taken (judge_book s)) e (ap is_taken (sym (not-counted s h).0)))

module _ (table book : List ℕ) (enough : Bool) (site places : List ℕ) {after : List ℕ} (room : max_commands ≤ length places)
    (e : after ≡ places_after table book (enough && leb site_size (length site)) places) where
  noted : (enough && leb site_size (length site)) ≡ true → Judged table book site → Placed book after
  noted h j =
      let m = counted book j.listed in
      note_noted book places room m.1
      (e ∙ (λ i. pick (is_taken (verdict (h i else Size ⨾ j.whole i else Table ⨾ granted))) (sets places 0 (noted_places book)) places))

  pub site_noted : {k : ℕ} → k ≡ code_of (verdict (for_site table book enough site)) → k ≡ 0 → Placed book after
  site_noted q z = noted (met (for_site table book enough site) q z).0 (site_judged table book enough true site q z).2

  log_noted : (log : List ℕ) {k : ℕ} → k ≡ code_of (verdict (for_site_and_log table book enough site log)) → k ≡ 0 → Placed book after
  log_noted log q z = noted (met (for_site_and_log table book enough site log) q z).0 (log_judged table book enough site log q z).1

  -- What is past the places is as it was.
  past_places : drop max_commands after ≡ drop max_commands places
  past_places = ap (drop {A = ℕ} max_commands) e ∙ past_noted (is_taken (verdict (for_first table (enough && leb site_size (length site))))) book places

  -- A site and a log that are good: the commands are counted and their places noted, and nothing past these.
  pub log_placed : (log : List ℕ) {j : Result Rules Refusal} {x : Rules} → j ≡ judged_as (verdict (for_site_and_log table book enough site log)) (rules_of table book) → j ≡ Ok x
      → (drop max_commands after ≡ drop max_commands places) × (x.commands ≡ length (commands_of book)) × Placed book after
  log_placed log q h =
      let v = verdict (for_site_and_log table book enough site log) in
      (past_places, (good_rules table book v q h).1, log_noted log (good_code v (rules_of table book) q h) refl)
