-- What a turn writes, and what its call answers: one law an answer.
-- Assumes nothing.
use mathlib.Core.Path.{◌≡◌, refl, sym, ap, ◌∙◌}
use Rattle.std.specs.Prelude.{Err, Ok, Result}
use mathlib.Core.Bool.{Bool, true, false, ◌&&◌}
use mathlib.Core.List.{List, ◌++◌}
use Prim.Native.Nat.{ℕ, ◌/◌, ◌≤◌, ◌<◌}
use native.Mathlib.Omega.{arith}
use lib.Dec.{leb, ltb}
use lib.ListN.{length, take, drop, get_or, replicate}
use borrow.Author.Tests.{lt-ltb, le-ltb, leb-true}
use Rattle.theory.specs.Sets.{pick}
use Rattle.theory.specs.Counting.{left, right}
use Rattle.wire.specs.Wire.{splice}
use Rattle.refusals.specs.declared.Refusal.{Refusal}
use Rattle.refusals.specs.declared.Refusal.TheVariants.{Range}
use Rattle.refusals.specs.Refusals.{Verdict}
use Rattle.refusals.specs.Refusals.{number_of, code_of, settled}
use Rattle.sets.specs.declared.Set.{Set}
use Rattle.sets.specs.Sets.{capacity, in_set, set_of}
use Rattle.sets.proofs.Laws.{in_without}
use Rattle.table.specs.Table.{table_in}
use Rattle.table.specs.declared.Rules.{Rules}
use Rattle.commands.specs.Book.{max_commands, commands_of, Placed}
use Rattle.conflicts.specs.Conflicts.{conflict_rows, rows_in}
use Rattle.conflicts.proofs.Laws.{none_noted, all_noted, rows_part}
use Rattle.protocol.specs.System as protocols
use Rattle.protocol.specs.System.{System, Demands, ◌else◌⨾◌, verdict}
use Rattle.protocol.specs.Recovery.{entries}
use Rattle.protocol.specs.Site as protocol
use Rattle.system.specs.Dash.{dash}
use Rattle.calm.specs.Rows.{free_by}
use Rattle.calm.proofs.Same.{free-rows}
use Rattle.entries.specs.declared.Entry.{Entry}
use Rattle.entries.specs.Entries.{entry_size, entry_bytes, write_entry, log_to, log_of}
use Rattle.layout.specs.declared.Proposal.{Proposal}
use Rattle.layout.specs.Layout.{site_size, head_of}
use Rattle.layout.specs.Good.{HoldsOver}
use Rattle.message.specs.declared.Kind.TheVariants.{Acknowledgment, Check}
use Rattle.message.specs.Messages.{message_size, message_bytes}
use Rattle.site.specs.declared.Turn.{Turn}
use Rattle.site.specs.declared.Turn.TheVariants as turn
use Rattle.site.specs.Steps.{undelivered_of, answer_to, TookTurn}
use Rattle.site.proofs.Turning.{third_entry}
use Rattle.judging.specs.Outcomes.{Outcome, outcome, answered, ◌then◌}
use Rattle.judging.specs.Judging.{system_of, span_in, site_in, with_site, rules_of, judged_as, for_site_and_log, places_after}
use Rattle.judging.proofs.Demands.{then_taken, then_refused, answered_refused}
use Rattle.judging.proofs.Laws.{Judged, log_judged, log_placed, good_code, good_sites, refused_code}
use Rattle.judging.proofs.Steps.{written, as_before}
use Rattle.turning.specs.Turning.{Sendings, sendings, buffers, TurnTaken, entry_for, entry_of, sent_by, turned, sent, turn_call}

-- ---- the turn of a site

pub take_told : (rows log : List ℕ) (own : ℕ) (b : List ℕ) {u : Set} {free : Bool} {round k : ℕ} {answer : Result Turn Refusal} {b' : List ℕ} → u ≡ undelivered_of (head_of b) → free ≡ free_by rows (in_set u)
    → round ≡ (head_of b).round → k ≡ entries own round (log_to log (length log / entry_size)) → TookTurn free (leb 2 k) b answer b' → TurnTaken rows log own b answer b'
unfolding head_of log_of
take_told rows log own b {k = k} eu ef er ek o t book e good =
    o t (commands_of book) own (log_to log (length log / entry_size)) good
    (ef
    ∙ (λ i. free_by (e i) (in_set (eu i)))
    ∙ free-rows book t (in_set (undelivered_of (head_of b)))
    ∙ ap (protocols.free (dash t (commands_of book))) (λ i m. in_without (head_of b).received (head_of b).delivered m i))
    (third_entry k ∙ ap (λ (n : ℕ). ltb n 2) (ek ∙ ap (λ (r : ℕ). entries own r (log_to log (length log / entry_size))) er))

-- ---- what is sent, by the turn

-- An entry at the start of a buffer.
pub entry_first : (b : List ℕ) (e : Entry) {l : List ℕ} → l ≡ write_entry b 0 e → l ≡ splice b 0 (entry_bytes e)
unfolding write_entry
entry_first b e h = h

module _ (own round : ℕ) (m e : List ℕ) where
  pub sent_acknowledged : (x : Set) {a : Turn} {l : List ℕ} → a ≡ turn.Acknowledged x → l ≡ splice m 0 (message_bytes (record { kind = Acknowledgment; round = round; set = x }))
      → sendings l e ≡ sent own round a m e
  unfolding sent
  sent_acknowledged x {a} ea el = (λ i. sendings (el i) e) ∙ ap (λ (y : Turn). sent own round y m e) (sym ea)

  pub sent-proposed : (x : Set) (p : Proposal) {a : Turn} {y : Entry} {l k : List ℕ} → a ≡ turn.Proposed x p → y ≡ entry_of own round p
      → l ≡ splice m 0 (message_bytes (record { kind = Check; round = round; set = x })) → k ≡ write_entry e 0 y → sendings l k ≡ sent own round a m e
  unfolding sent
  sent-proposed x p {y = y} ea ey el ek =
      (λ i. sendings (el i) ((entry_first e y ek ∙ ap (λ (z : Entry). splice e 0 (entry_bytes z)) ey) i))
      ∙ ap (λ (y : Turn). sent own round y m e) (sym ea)

  -- What a call answers and sends, by the turn or its refusal.
  abbrev pub answered_turn : Result Turn Refusal → Outcome Sendings
  answered_turn (Ok x) = outcome 0 (sent own round x m e)
  answered_turn (Err r) = outcome (number_of r) (sendings m e)

-- ---- the call

module _ (table book site log : List ℕ) (own : ℕ) (m e : List ℕ) {j : Result Rules Refusal}
    (q : j ≡ judged_as (verdict (for_site_and_log table book (leb message_size (length m) && leb entry_size (length e)) site log)) (rules_of table book)) where
  abbrev enough : Bool
  enough = leb message_size (length m) && leb entry_size (length e)

  abbrev judge : Demands
  judge = for_site_and_log table book enough site log

  abbrev S : System
  S = system_of table book

  abbrev s : protocol.Site S
  s = site_in table book site

  abbrev rest : Demands
  rest = ltb own (table_in table).sites else Range ⨾ protocol.for_turn S own s (log_of log)

  pub turn_refused : {r : Refusal} {k : ℕ} → j ≡ Err r → k ≡ number_of r → outcome k (buffers site m e) ≡ turn_call table book site log own m e
  unfolding turn_call
  turn_refused h ek =
      let w = refused_code (verdict judge) (rules_of table book) q h ek in
      then_refused judge rest _ (buffers site m e) w.0 w.1

  module _ {x : Rules} (h : j ≡ Ok x) where
    code : 0 ≡ code_of (verdict judge)
    code = good_code (verdict judge) (rules_of table book) q h

    judged : Judged table book site
    judged = (log_judged table book enough site log code refl).1

    ruled : x.table.sites ≡ (table_in table).sites
    ruled = (good_sites table book (verdict judge) q h).0

    pub turn_sized : site_size ≤ length site
    turn_sized = judged.sized

    module _ {after : List ℕ} (w : after ≡ places_after table book (enough && leb site_size (length site)) none_noted) where
      -- The commands are counted and their places noted, and no row yet.
      pub turn_placed : (rows_in after ≡ replicate max_commands 0) × (x.commands ≡ length (commands_of book)) × Placed book after
      turn_placed = log_placed table book enough site none_noted (omega arith) w log q h

      -- Then the rows, as a part of the noted words.
      pub turn_rows : {noted : List ℕ} → noted ≡ take max_commands after ++ conflict_rows book → take max_commands (rows_in noted) ≡ conflict_rows book
      turn_rows {noted} en = let r = (all_noted book after turn_placed.0 turn_placed.2 en).rows in rows_part book noted r max_commands (omega arith) ∙ r

    pub turn_room : (message_size ≤ length m) × (entry_size ≤ length e)
    turn_room =
        let w = (log_judged table book enough site log code refl).0 in (
          leb-true message_size (length m) (left (leb message_size (length m)) (leb entry_size (length e)) w),
          leb-true entry_size (length e) (right (leb message_size (length m)) (leb entry_size (length e)) w),
        )

    first : (t : Bool) → ltb own (table_in table).sites ≡ t → verdict (judge then rest) ≡ verdict (t else Range ⨾ protocol.for_turn S own s (log_of log))
    first t z = then_taken judge rest code refl ∙ (λ i. verdict (z i else Range ⨾ protocol.for_turn S own s (log_of log)))

    pub turn_range : {k : ℕ} → x.table.sites ≤ own → k ≡ number_of Range → outcome k (buffers site m e) ≡ turn_call table book site log own m e
    unfolding turn_call
    turn_range l ek = let r = ruled in (λ i. outcome (ek i) (buffers site m e)) ∙ answered_refused Range _ (buffers site m e) (first false (le-ltb own (table_in table).sites (omega arith)))

    module _ (own_below : own < x.table.sites) where
      pub turn_own : own < 256
      turn_own = let l = judged.few in let r = ruled in omega arith

      module _ (small : (i : ℕ) → get_or site i 0 < 256) {round code₁ : ℕ} {b l k : List ℕ} (er : round ≡ (head_of (take site_size site)).round) where
        -- By the verdict and by what the turn does.
        done : (v : Verdict) (a : Bool) → outcome code₁ (sendings l k) ≡ answered_turn own round m e (answer_to (table_in table) (commands_of book) v a s)
            → HoldsOver (table_in table) (commands_of book) (take site_size site) b (settled v (pick a (protocol.acknowledge S s) (protocol.propose S s)) s)
            → outcome code₁ (buffers (b ++ drop site_size site) l k)
            ≡ answered v
            (record {
              site = with_site table book (span_in site) site (pick a (protocol.acknowledge S s) (protocol.propose S s));
              sent =
                  sendings (splice m 0 (message_bytes (record { kind = pick a Acknowledgment Check; round = s.round; set = set_of capacity (protocol.undelivered S s) })))
                  (pick a e (splice e 0 (entry_bytes (entry_for S own s))));
            })
            (buffers site m e)
        unfolding sent
        done (Ok _) true z w =
            (λ i. outcome (z i).code (record { site = written site judged.sized (table_in table) (commands_of book) w i; sent = (z i).left }))
            ∙ (λ i. outcome 0
            (record {
              site = with_site table book (span_in site) site (protocol.acknowledge S s);
              sent = sendings (splice m 0 (message_bytes (record { kind = Acknowledgment; round = er i; set = set_of capacity (protocol.undelivered S s) }))) e;
            }))
        done (Ok _) false z w =
            (λ i. outcome (z i).code (record { site = written site judged.sized (table_in table) (commands_of book) w i; sent = (z i).left }))
            ∙ (λ i. outcome 0
            (record {
              site = with_site table book (span_in site) site (protocol.propose S s);
              sent =
                  sendings (splice m 0 (message_bytes (record { kind = Check; round = er i; set = set_of capacity (protocol.undelivered S s) })))
                  (splice e 0 (entry_bytes (record { site = own; round = er i; nc = set_of capacity s.pending; c = set_of capacity (protocol.unacknowledged S s) })));
            }))
        done (Err r) a z w = λ i. outcome (z i).code (record { site = as_before table book site judged.good small w i; sent = (z i).left })

        pub turn_done : {rows : List ℕ} {answer : Result Turn Refusal} → rows ≡ conflict_rows book → TurnTaken rows log own (take site_size site) answer b
            → outcome code₁ (sendings l k) ≡ answered_turn own round m e answer → outcome code₁ (buffers (b ++ drop site_size site) l k) ≡ turn_call table book site log own m e
        unfolding turn_call
        turn_done ew o z =
            let w = o (table_in table) book ew judged.good in
            done (verdict (protocol.for_turn S own s (log_of log))) (protocol.acknowledges S s) (z ∙ ap (answered_turn own round m e) w.answer) w.site
            ∙ (λ i. answered (sym (first true (let r = ruled in lt-ltb own (table_in table).sites (omega arith))) i)
            (record { site = with_site table book (span_in site) site (turned S s); sent = sent_by S own s m e }) (buffers site m e))
