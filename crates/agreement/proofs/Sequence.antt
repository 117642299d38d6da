-- A site has delivered a list alike to what its log settles below its round, followed by what it delivered fast.
-- Rests on History, Pending, Acked and the laws of alike sequences.
use Rattle.std.specs.Prelude.{◌≡◌, refl, Bool, true, false, ◌&&◌, ◌||◌, not, ℕ, ◌<◌, eqb, None, Option, Some}
use Rattle.std.proofs.Common.{sym, ◌∙◌, ap, ⊎_elim, arith, eqb-true, ltb-true}
use mathlib.Core.List.{List, [], ◌∷◌, ◌++◌, append_assoc, append-nil}
use Rattle.theory.specs.Sets.{Set, ∅, only, ◌∪◌, ◌∖◌, pick, members}
use Rattle.theory.specs.Counting.{both, left, right, either, never, not-true, true_or}
use Rattle.theory.specs.Members.{members_ext, members-none, members-one}
use Rattle.theory.specs.Traces.{Alike, chain}
use Rattle.theory.specs.TraceLaws.{alike_equal, alike-before, alike-after, merge}
use Rattle.protocol.specs.System.{System, free}
use Rattle.protocol.specs.Recovery.{Log, Tally, decide, nc_set, c_set, proposed}
use Rattle.protocol.specs.StandingLaws.{same_some}
use Rattle.protocol.specs.RecoveryLaws.{free_pair}
use Rattle.protocol.proofs.RecoveryLaws.{nc_free}
use Rattle.protocol.specs.Site.{Site, due, finish, decision, tally_or, is_some, acknowledges}
use Rattle.protocol.specs.World.{World, Step, command, acknowledgment, check, false_acknowledgment, false_check, false_entry, turn, fast_delivery, log_read, round_end, start, demands, change, entry_of, acknowledging_turn, proposing_turn}
use Rattle.protocol.specs.Steps.{Met, put_keeps, turn_keeps}
use Rattle.agreement.specs.History.{History, segment, extend, history, history-next, history_grows, AllSettled, decision_log}
use Rattle.agreement.specs.Pending.{PendingAt, AllPending}
use Rattle.agreement.specs.Promises.{Promises}
use Rattle.agreement.specs.Heard.{AllHeard}
use Rattle.agreement.specs.Acked.{Sizes}
use Rattle.agreement.proofs.Acked.{fast_acked, acked_decided}
use Rattle.agreement.specs.Answers.{commands_of, commands-append, fold_commands}

-- ---- tests

skip_both : (n d f : Bool) → (n && not (d || f)) ≡ (n && not d && not f)
skip_both true true f = refl
skip_both true false f = refl
skip_both false d f = refl

skip_fast : (p n d f : Bool) → (f ≡ true → n ≡ true) → (p && not n && not (d || f)) ≡ (p && not n && not d)
skip_fast true true d f h = refl
skip_fast true false true f h = refl
skip_fast true false false true h = absurd (never false (h refl) refl)
skip_fast true false false false h = refl
skip_fast false n d f h = refl

one_more : (f e : Bool) → (e ≡ true → f ≡ false) → ((f || e) && not f) ≡ e
one_more true true h = absurd (never true refl (h refl))
one_more true false h = refl
one_more false true h = refl
one_more false false h = refl

module _ (S : System) where
  open S use {machine, commands, n_chk, majority}

  -- In a decided round, what was delivered fast comes first, then the rest of NC, then C: alike to the round's segment.
  pub segment-alike : (g fast : Set) (t : Tally)
      → ((m : ℕ) → m < commands → fast m ≡ true → (nc_set S t m ≡ true) × (g m ≡ false))
      → free S (nc_set S t) ≡ true
      → Alike machine
      (members commands fast ++ (members commands (nc_set S t ∖ (g ∪ fast)) ++ members commands (c_set S t ∖ (g ∪ fast))))
      (segment S g t)
  segment-alike g fast t h calm =
      chain
      (alike_equal machine
      ((λ i. F ++ (members_ext commands (nc_set S t ∖ (g ∪ fast)) ((nc_set S t ∖ g) ∖ fast) (λ m l. skip_both (nc_set S t m) (g m) (fast m)) i
      ++ members_ext commands (c_set S t ∖ (g ∪ fast)) (c_set S t ∖ g) (λ m l. skip_fast (proposed S t m) (nc_set S t m) (g m) (fast m) (λ e. (h m l e).0)) i))
      ∙ sym (append_assoc F (members commands ((nc_set S t ∖ g) ∖ fast)) (members commands (c_set S t ∖ g)))))
      (alike-after machine (members commands (c_set S t ∖ g))
      (merge machine commands fast (nc_set S t ∖ g)
      (λ m l e. both (nc_set S t m) (not (g m)) (h m l e).0 (ap not (h m l e).1))
      (λ x y lx ly hx hy. free_pair S (nc_set S t) calm x y lx ly (left (nc_set S t x) (not (g x)) hx) (left (nc_set S t y) (not (g y)) hy))))
    where
      F : List ℕ
      F = members commands fast

  pub record Traced (log : Log) (round : ℕ) (fast : Set) (list : List ℕ) : Type 0 where
    pub past : History
    pub at : history S round log ≡ Some past
    pub alike : Alike machine list (past.sequence ++ members commands fast)

  abbrev pub TracedAt : Log → Site S → Type 0
  TracedAt log s = Traced log s.round s.fast (commands_of s.ledger.deliveries)

  abbrev pub AllTraced : World S → Type 0
  AllTraced w = (i : ℕ) → TracedAt w.log (w.site i)

  traced_grows : (log more : Log) (k : ℕ) (fast : Set) (list : List ℕ) → Traced log k fast list → Traced (log ++ more) k fast list
  traced_grows log more k fast list v = record { past = v.past; at = history_grows S k log more v.past v.at; alike = v.alike }

  pub traced_start : AllTraced (start S)
  unfolding history
  traced_start i =
      record {
        past = record { settled = ∅; sequence = [] };
        at = refl;
        alike = alike_equal machine (sym (members-none commands ∅ (λ m l. refl)));
      }

  pub fast_traced : (log : Log) (s : Site S) (m : ℕ) → m < commands → s.pending m ≡ true → s.fast m ≡ false → PendingAt S s → TracedAt log s
      → Traced log s.round (s.fast ∪ only m) (commands_of (s.ledger.deliveries ++ (record { command = m; answer = machine.answer s.ledger.state m } ∷ [])))
  fast_traced log s m lm pm fm p v =
      record {
        past = v.past;
        at = v.at;
        alike =
            chain (alike_equal machine (commands-append s.ledger.deliveries _))
            (chain (alike-after machine (m ∷ []) v.alike)
            (chain (alike_equal machine (append_assoc v.past.sequence (members commands s.fast) (m ∷ [])))
            (alike-before machine v.past.sequence
            (chain (alike_equal machine (λ i. members commands s.fast ++ single i))
            (merge machine commands s.fast (s.fast ∪ only m) (λ k l e. true_or (s.fast k) (eqb k m) e) (λ x y lx ly hx hy. free_pair S s.pending p.calm x y lx ly (inside x hx) (inside y hy)))))));
      }
    where
      inside : (x : ℕ) → (s.fast ∪ only m) x ≡ true → s.pending x ≡ true
      inside x h = ⊎_elim (p.holds x) (λ e. ap s.pending (eqb-true x m e) ∙ pm) (either (s.fast x) (eqb x m) h)

      single : m ∷ [] ≡ members commands ((s.fast ∪ only m) ∖ s.fast)
      single = sym (members-one commands ((s.fast ∪ only m) ∖ s.fast) m lm (λ k l. one_more (s.fast k) (eqb k m) (λ e. ap s.fast (eqb-true k m e) ∙ fm)))

  module _ (f : ℕ) (sizes : Sizes S f) where
    pub finish_traced : (w : World S) (i : ℕ) (o : Option Tally) → decision S (w.site i) w.log ≡ o → is_some o ≡ true
        → AllSettled S w → AllPending S w → Promises S w → AllHeard S w → TracedAt w.log (w.site i) → TracedAt w.log (finish S (tally_or o) (w.site i))
    finish_traced w i None e h settled pending promises heard v = absurd (never false h refl)
    finish_traced w i (Some t) e h settled pending promises heard v =
        record {
          past = extend S v.past t;
          at = history-next S s.round w.log v.past t v.at decided;
          alike =
              chain (alike_equal machine (fold_commands S s.ledger (due S t s)))
              (chain (alike-after machine (due S t s) v.alike)
              (chain (alike_equal machine (append_assoc v.past.sequence (members commands s.fast) (due S t s)))
              (chain (alike-before machine v.past.sequence
              (chain (alike_equal machine (λ k. members commands s.fast ++ (members commands (nc_set S t ∖ (same_set k ∪ s.fast)) ++ members commands (c_set S t ∖ (same_set k ∪ s.fast)))))
              (segment-alike v.past.settled s.fast t fast_in_lem (nc_free S (omega (arith, sizes.quorums.overlap)) s.round w.log t decided))))
              (alike_equal machine (sym ((λ k. (v.past.sequence ++ segment S v.past.settled t) ++ members-none commands ∅ (λ m l. refl) k) ∙ append-nil (v.past.sequence ++ segment S v.past.settled t)))))));
        }
      where
        s : Site S
        s = w.site i

        decided : decide S s.round w.log ≡ Some t
        decided = decision_log S s w.log t e

        same_set : s.delivered ≡ v.past.settled
        same_set = sym (ap (λ (h : History). h.settled) (same_some (sym v.at ∙ (settled i).at)) ∙ (settled i).same)

        fast_in_lem : (m : ℕ) → m < commands → s.fast m ≡ true → (nc_set S t m ≡ true) × (v.past.settled m ≡ false)
        fast_in_lem m l k = (
          acked_decided S f sizes w promises s.round m t (fast_acked S w heard i m k) decided,
          sym (ap (λ (x : Set). x m) same_set) ∙ not-true (s.delivered m) (right (s.received m) (not (s.delivered m)) ((pending i).inside m ((pending i).holds m k))),
        )

    touch : (w : World S) (i : ℕ) (s : Site S) → AllTraced w → TracedAt w.log s → (j : ℕ) → TracedAt w.log (pick (eqb j i) s (w.site j))
    touch w i s v h = put_keeps S (λ j s. TracedAt w.log s) w.site i s h (λ j e. v j)

    pub traced_keeps : (w : World S) (t : Step) → AllSettled S w → AllPending S w → Promises S w → AllHeard S w → AllTraced w → Met (demands S w t) → AllTraced (change S w t)
    traced_keeps w (command i m) settled pending promises heard v h = touch w i _ v (v i)
    traced_keeps w (acknowledgment i j r a) settled pending promises heard v h = touch w i _ v (v i)
    traced_keeps w (check i j r) settled pending promises heard v h = touch w i _ v (v i)
    traced_keeps w (false_acknowledgment i j r x) settled pending promises heard v h = touch w i _ v (v i)
    traced_keeps w (false_check i j r x) settled pending promises heard v h = touch w i _ v (v i)
    traced_keeps w (false_entry j r nc c) settled pending promises heard v h = λ i. traced_grows w.log (_ ∷ []) _ _ _ (v i)
    traced_keeps w (turn i) settled pending promises heard v h =
        turn_keeps S AllTraced (acknowledges S (w.site i)) {w = acknowledging_turn S i (w.site i) w} {v = proposing_turn S i (w.site i) w}
        (λ e. touch w i _ v (v i)) (λ e j. traced_grows w.log (entry_of S i (w.site i) ∷ []) _ _ _ (touch w i _ v (v i) j))
    traced_keeps w (fast_delivery i m) settled pending promises heard v h =
        touch w i _ v (fast_traced w.log (w.site i) m (ltb-true m commands h.1.0) h.1.1.1.0 (not-true ((w.site i).fast m) h.1.1.1.1.0) (pending i) (v i))
    traced_keeps w (log_read i) settled pending promises heard v h = touch w i _ v (v i)
    traced_keeps w (round_end i) settled pending promises heard v h =
        touch w i _ v (finish_traced w i (decision S (w.site i) w.log) refl h.1.1.1.0 settled pending promises heard (v i))
