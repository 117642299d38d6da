-- What a fresh site and the calls that receive answer: one law an answer.
-- Assumes nothing.
use mathlib.Core.Path.{◌≡◌, refl, sym, ap, subst, ◌∙◌}
use Rattle.std.specs.Prelude.{Err, Ok, Result}
use mathlib.Core.Bool.{Bool, true, false, not, ◌&&◌}
use mathlib.Core.List.{List, ◌++◌}
use Prim.Native.Nat.{ℕ, ◌≤◌, ◌<◌}
use native.Mathlib.Omega.{arith}
use lib.Dec.{leb, ltb}
use lib.ListN.{length, take, drop}
use borrow.Author.Tests.{lt-ltb, le-ltb, ltb-true, le-leb, lt-leb, leb-true}
use Rattle.theory.specs.Counting.{left, right, not-true, not-false}
use Rattle.refusals.specs.declared.Refusal.{Refusal}
use Rattle.refusals.specs.declared.Refusal.TheVariants.{Range, Size}
use Rattle.refusals.specs.Refusals.{number_of, code_of}
use Rattle.sets.specs.declared.Set.{Set}
use Rattle.sets.specs.Sets.{capacity, within_of}
use Rattle.table.specs.declared.Rules.{Rules}
use Rattle.table.specs.declared.SiteTable.{SiteTable}
use Rattle.table.specs.Table.{max_sites, table_in}
use Rattle.register.specs.declared.Command.{Command}
use Rattle.commands.specs.Book.{commands_of}
use Rattle.commands.proofs.Walk.{few_commands}
use Rattle.protocol.specs.System.{Demands, granted, ◌else◌⨾◌, verdict}
use Rattle.protocol.specs.Site as protocol
use Rattle.system.specs.Dash.{dash}
use Rattle.layout.specs.Layout.{site_size, site_rounds}
use Rattle.layout.specs.Good.{Holds}
use Rattle.message.specs.declared.Kind.{Kind}
use Rattle.message.specs.declared.Kind.TheVariants.{Acknowledgment, Check}
use Rattle.message.specs.declared.Message.{Message}
use Rattle.message.specs.Messages.{is_message, message_of}
use Rattle.site.specs.Steps.{Commanded}
use Rattle.judging.specs.Outcomes.{outcome, ◌then◌}
use Rattle.judging.specs.Judging.{rules_of, judged_as, for_site, for_site_and_message}
use Rattle.judging.proofs.Demands.{then_taken, then_refused, answered-taken, answered_refused, last_refused, last_taken}
use Rattle.judging.proofs.Laws.{Judged, site_judged, good_code, good_rules, refused_code}
use Rattle.judging.proofs.Steps.{written}
use Rattle.engine.specs.Calls.{fresh_call, receive_command_call, TookMessage, message_in_range, for_receive, with_message, receive_call}

-- ---- a fresh site

module _ (site : List ℕ) (t : SiteTable) (book : List Command) where
  pub fresh_refused : {k : ℕ} → length site < site_size → k ≡ number_of Size → outcome k site ≡ fresh_call t book site
  unfolding fresh_call
  fresh_refused h ek = (λ i. outcome (ek i) site) ∙ answered_refused Size _ site (λ i. verdict (lt-leb site_size (length site) h i else Size ⨾ granted))

  pub fresh-taken : {b : List ℕ} → site_size ≤ length site → Holds t book 0 (take site_size site) b (protocol.fresh (dash t book)) → outcome 0 (b ++ drop site_size site) ≡ fresh_call t book site
  unfolding fresh_call
  fresh-taken h o =
      (λ i. outcome 0 (written site h t book o i))
      ∙ answered-taken _ site (λ i. verdict (le-leb site_size (length site) h i else Size ⨾ granted))

-- Several demands with one refusal are one demand.
four : (r : Refusal) (a b c d : Bool) → verdict (a else r ⨾ b else r ⨾ c else r ⨾ d else r ⨾ granted) ≡ verdict (a && b && c && d else r ⨾ granted)
four r false b c d = refl
four r true false c d = refl
four r true true false d = refl
four r true true true false = refl
four r true true true true = refl

module _ (table book site : List ℕ) {j : Result Rules Refusal}
    (e : j ≡ judged_as (verdict (for_site table book true site)) (rules_of table book)) where
  module _ {x : Rules} (h : j ≡ Ok x) where
    code : 0 ≡ code_of (verdict (for_site table book true site))
    code = good_code (verdict (for_site table book true site)) (rules_of table book) e h

    judged : Judged table book site
    judged = (site_judged table book true true site code refl).2

    pub sized : site_size ≤ length site
    sized = judged.sized

    counted : x.commands ≡ length (commands_of book)
    counted = (good_rules table book (verdict (for_site table book true site)) e h).1

  -- ---- a command

  module _ (m : ℕ) where
    pub command_refused : {r : Refusal} {k : ℕ} → j ≡ Err r → k ≡ number_of r → outcome k site ≡ receive_command_call table book site m
    unfolding receive_command_call
    command_refused h ek =
        let w = refused_code (verdict (for_site table book true site)) (rules_of table book) e h ek in
        then_refused (for_site table book true site) (ltb m (length (commands_of book)) else Range ⨾ granted) _ site w.0 w.1

    module _ {x : Rules} (good : j ≡ Ok x) where
      pub command_below : m < x.commands → m < capacity
      command_below h = let l = few_commands book in let c = counted good in omega arith

      pub command_range : {k : ℕ} → x.commands ≤ m → k ≡ number_of Range → outcome k site ≡ receive_command_call table book site m
      unfolding receive_command_call
      command_range h ek =
          let c = counted good in
          (λ i. outcome (ek i) site)
          ∙ last_refused (for_site table book true site) (ltb m (length (commands_of book))) Range _ site (code good) refl (le-ltb m (length (commands_of book)) (omega arith))

      pub command_taken : {b : List ℕ} → m < x.commands → Commanded m (take site_size site) b → outcome 0 (b ++ drop site_size site) ≡ receive_command_call table book site m
      unfolding receive_command_call
      command_taken h o =
          let c = counted good in
          (λ i. outcome 0 (written site (sized good) (table_in table) (commands_of book) (o (table_in table) (commands_of book) (judged good).good (omega arith)) i))
          ∙ last_taken (for_site table book true site) (ltb m (length (commands_of book))) Range _ site (code good) refl (lt-ltb m (length (commands_of book)) (omega arith))

-- ---- a message

-- It is taken in by its kind.
pub took_by : (k k' : Kind) (sender round : ℕ) (x : Set) (b b' : List ℕ) → k ≡ k' → TookMessage k' sender round x b b' → TookMessage k sender round x b b'
took_by k k' sender round x b b' e o = subst (λ (y : Kind). TookMessage y sender round x b b') (sym e) o

module _ (table book site message : List ℕ) (sender : ℕ) {formed : Bool} (ef : formed ≡ is_message message) {j : Result Rules Refusal}
    (e : j ≡ judged_as (verdict (for_site_and_message table book formed site)) (rules_of table book)) where
  abbrev d : Demands
  d = for_site_and_message table book (is_message message) site

  -- What the judge answered, by the message.
  told : j ≡ judged_as (verdict d) (rules_of table book)
  told = e ∙ (λ i. judged_as (verdict (for_site_and_message table book (ef i) site)) (rules_of table book))

  abbrev round : ℕ
  round = (message_of message).round

  abbrev set : Set
  set = (message_of message).set

  pub message_refused : {r : Refusal} {k : ℕ} → j ≡ Err r → k ≡ number_of r → outcome k site ≡ receive_call table book site sender message
  unfolding receive_call
  message_refused h ek =
      let w = refused_code (verdict d) (rules_of table book) told h ek in
      then_refused d (for_receive table book sender round set) _ site w.0 w.1

  module _ {x : Rules} (good : j ≡ Ok x) where
    message_judged : (true ≡ true) × (is_message message ≡ true) × Judged table book site
    message_judged = site_judged table book true (is_message message) site (good_code (verdict d) (rules_of table book) told good) refl

    pub message_formed : is_message message ≡ true
    message_formed = message_judged.1

    pub message_sized : site_size ≤ length site
    message_sized = message_judged.2.sized

    rules : (x.table ≡ table_in table) × (x.commands ≡ length (commands_of book))
    rules = good_rules table book (verdict d) told good

    module _ {said : Message} (es : said ≡ message_of message) {t : Bool} (et : t ≡ message_in_range said sender x) where
      -- The demands on a message are one test.
      in_range : (ltb sender (table_in table).sites && leb 1 round && leb round site_rounds && within_of set (length (commands_of book))) ≡ t
      in_range = (λ i. message_in_range (sym es i) sender (record { table = sym rules.0 i; commands = sym rules.1 i })) ∙ sym et

      all_four : verdict (d then for_receive table book sender round set) ≡ verdict (t else Range ⨾ granted)
      all_four =
          then_taken d (for_receive table book sender round set) (good_code (verdict d) (rules_of table book) told good) refl
          ∙ four Range (ltb sender (table_in table).sites) (leb 1 round) (leb round site_rounds) (within_of set (length (commands_of book)))
          ∙ (λ i. verdict (in_range i else Range ⨾ granted))

      pub message_range : {k : ℕ} → not t ≡ true → k ≡ number_of Range → outcome k site ≡ receive_call table book site sender message
      unfolding receive_call
      message_range h ek = (λ i. outcome (ek i) site) ∙ answered_refused Range _ site (all_four ∙ (λ i. verdict (not-true t h i else Range ⨾ granted)))

      module _ (h : not t ≡ false) where
        met : (ltb sender (table_in table).sites && leb 1 round && leb round site_rounds && within_of set (length (commands_of book))) ≡ true
        met = in_range ∙ not-false t h

        first : (ltb sender (table_in table).sites && leb 1 round && leb round site_rounds) ≡ true
        first = left (ltb sender (table_in table).sites && leb 1 round && leb round site_rounds) (within_of set (length (commands_of book))) met

        sender_below : sender < (table_in table).sites
        sender_below = ltb-true sender (table_in table).sites (left (ltb sender (table_in table).sites) (leb 1 round) (left (ltb sender (table_in table).sites && leb 1 round) (leb round site_rounds) first))

        pub message_ready : (sender < max_sites) × (1 ≤ said.round) × (said.round ≤ site_rounds)
        message_ready =
            let l = sender_below in
            let w = message_judged.2.few in
            let q = ap (λ (m : Message). m.round) es in
            let a = leb-true 1 round (right (ltb sender (table_in table).sites) (leb 1 round) (left (ltb sender (table_in table).sites && leb 1 round) (leb round site_rounds) first)) in
            let b = leb-true round site_rounds (right (ltb sender (table_in table).sites && leb 1 round) (leb round site_rounds) first) in
            (omega arith, omega arith, omega arith)

        pub message_taken : (b : List ℕ) → TookMessage said.kind sender said.round said.set (take site_size site) b
            → outcome 0 (b ++ drop site_size site) ≡ receive_call table book site sender message
        unfolding receive_call
        message_taken b o =
            (λ i. outcome 0 (by_kind (message_of message).kind (subst (λ (m : Message). TookMessage m.kind sender m.round m.set (take site_size site) b) es o) i))
            ∙ answered-taken _ site (all_four ∙ (λ i. verdict (not-false t h i else Range ⨾ granted)))
          where
            known-set : within_of set (length (commands_of book)) ≡ true
            known-set = right (ltb sender (table_in table).sites && leb 1 round && leb round site_rounds) (within_of set (length (commands_of book))) met

            by_kind : (k : Kind) → TookMessage k sender round set (take site_size site) b → b ++ drop site_size site ≡ with_message table book site sender k round set
            by_kind Acknowledgment o =
                written site message_sized (table_in table) (commands_of book) (o (table_in table) (commands_of book) message_judged.2.good sender_below known-set)
            by_kind Check o = written site message_sized (table_in table) (commands_of book) (o (table_in table) (commands_of book) message_judged.2.good known-set)
