-- What a log settles: the commands of the rounds that it decides, and their order. Every site has delivered what its log settles.
-- Rests on RecoveryLaws.
use Rattle.std.specs.Prelude.{◌≡◌, true, eqb, take, drop, None, Option, Some}
use Rattle.std.proofs.Math.Path.{refl, ap}
use Rattle.std.proofs.Common.{sym, ◌∙◌, subst, take-append-drop}
use mathlib.Core.List.{List, [], ◌∷◌, ◌++◌, append_assoc, append-nil}
use Prim.Native.Nat.{ℕ, zero, suc, ◌+◌, ◌≤◌}
use native.Mathlib.Omega.{arith}
use Rattle.theory.specs.Sets.{Set, ∅, ◌∪◌, ◌∖◌, pick, members}
use Rattle.protocol.specs.System.{System}
use Rattle.protocol.specs.Recovery.{Log, Tally, decide, nc_set, c_set}
use Rattle.protocol.specs.StandingLaws.{same_some, none-some}
use Rattle.protocol.specs.RecoveryLaws.{decide_grows}
use Rattle.protocol.specs.Site.{Site, finish, decision, tally_or, is_some, acknowledges}
use Rattle.protocol.specs.World.{World, Step, command, acknowledgment, check, false_acknowledgment, false_check, false_entry, turn, fast_delivery, log_read, round_end, start, demands, change, entry_of, acknowledging_turn, proposing_turn}
use Rattle.protocol.specs.Steps.{Met, put_keeps, turn_keeps}

-- The commands of the rounds before some round, as a set and in their order.
pub record History : Type 0 where
  pub settled : Set
  pub sequence : List ℕ

module _ (S : System) where
  open S use {commands}

  -- What a decided round adds to what was settled before: NC, then C, each in number order.
  abbrev pub segment : Set → Tally → List ℕ
  segment g t = members commands (nc_set S t ∖ g) ++ members commands (c_set S t ∖ g)

  abbrev pub extend : History → Tally → History
  extend h t = record { settled = h.settled ∪ (nc_set S t ∪ c_set S t); sequence = h.sequence ++ segment h.settled t }

  abbrev pub join : Option History → Option Tally → Option History
  join None t = None
  join (Some h) None = None
  join (Some h) (Some t) = Some (extend h t)

  -- What the rounds below k settle; none where one of them is not decided.
  unfoldable pub history : ℕ → Log → Option History
  history zero l = None
  history (suc zero) l = Some (record { settled = ∅; sequence = [] })
  history (suc (suc k)) l = join (history (suc k) l) (decide S (suc k) l)

  join-some : (o : Option History) (d : Option Tally) (h : History) → join o d ≡ Some h
      → (g : History) × (t : Tally) × (o ≡ Some g) × (d ≡ Some t) × (extend g t ≡ h)
  join-some None d h e = none-some e
  join-some (Some g) None h e = none-some e
  join-some (Some g) (Some t) h e = (g, t, refl, refl, same_some e)

  -- A history of a later round is that of an earlier one, extended.
  pub history_last : (k : ℕ) (l : Log) (h : History) → history (suc (suc k)) l ≡ Some h
      → (g : History) × (t : Tally) × (history (suc k) l ≡ Some g) × (decide S (suc k) l ≡ Some t) × (extend g t ≡ h)
  unfolding history
  history_last k l h e = join-some (history (suc k) l) (decide S (suc k) l) h e

  pub history-next : (k : ℕ) (l : Log) (h : History) (t : Tally) → history k l ≡ Some h → decide S k l ≡ Some t → history (suc k) l ≡ Some (extend h t)
  unfolding history
  history-next zero l h t e d = none-some e
  history-next (suc k) l h t e d = λ i. join (e i) (d i)

  pub history_grows : (k : ℕ) (l more : Log) (h : History) → history k l ≡ Some h → history k (l ++ more) ≡ Some h
  unfolding history
  history_grows zero l more h e = none-some e
  history_grows (suc zero) l more h e = e
  history_grows (suc (suc k)) l more h e =
      let w = join-some (history (suc k) l) (decide S (suc k) l) h e in
      (λ i. join (history_grows (suc k) l more w.0 w.2 i) (decide_grows S (suc k) l more w.1 w.3 i)) ∙ ap Some w.4

  pub history_positive : (k : ℕ) (l : Log) (h : History) → history k l ≡ Some h → 1 ≤ k
  unfolding history
  history_positive zero l h e = none-some e
  history_positive (suc k) l h e = omega arith

  -- An earlier history is a first part of a later one.
  pub history_part : (d k : ℕ) (l : Log) (g h : History) → history k l ≡ Some g → history (d + k) l ≡ Some h → (tail : List ℕ) × (h.sequence ≡ g.sequence ++ tail)
  history_part zero k l g h eg eh =
      let same : g ≡ h = same_some (sym eg ∙ subst (λ (x : ℕ). history x l ≡ Some h) (omega arith) eh) in
      ([], ap (λ (x : History). x.sequence) (sym same) ∙ sym (append-nil g.sequence))
  history_part (suc d) zero l g h eg eh = absurd (let z = history_positive zero l g eg in omega arith)
  history_part (suc d) (suc k) l g h eg eh =
      let w = history_last (d + k) l h (subst (λ (x : ℕ). history x l ≡ Some h) (omega arith) eh) in
      let p = history_part d (suc k) l g w.0 eg (subst (λ (x : ℕ). history x l ≡ Some w.0) (omega arith) w.2) in (
        p.0 ++ segment w.0.settled w.1,
        ap (λ (x : History). x.sequence) (sym w.4) ∙ ap (λ (x : List ℕ). x ++ segment w.0.settled w.1) p.1
            ∙ append_assoc g.sequence p.0 (segment w.0.settled w.1),
      )

  -- A round below one with a history is decided.
  pub history_decided : (d k : ℕ) (l : Log) (g h : History) → history k l ≡ Some g → history (suc d + k) l ≡ Some h → (t : Tally) × (decide S k l ≡ Some t)
  history_decided d zero l g h eg eh = absurd (let z = history_positive zero l g eg in omega arith)
  history_decided zero (suc k) l g h eg eh =
      let w = history_last k l h (subst (λ (x : ℕ). history x l ≡ Some h) (omega arith) eh) in (w.1, w.3)
  history_decided (suc d) (suc k) l g h eg eh =
      let w = history_last (suc d + k) l h (subst (λ (x : ℕ). history x l ≡ Some h) (omega arith) eh) in
      history_decided d (suc k) l g w.0 eg (subst (λ (x : ℕ). history x l ≡ Some w.0) (omega arith) w.2)

  -- A site has delivered, in the rounds before its own, what the log settles below its round.
  pub record Settled (log : Log) (round : ℕ) (delivered : Set) : Type 0 where
    pub past : History
    pub at : history round log ≡ Some past
    pub same : past.settled ≡ delivered

  abbrev pub SettledAt : Log → Site S → Type 0
  SettledAt log s = Settled log s.round s.delivered

  abbrev pub AllSettled : World S → Type 0
  AllSettled w = (i : ℕ) → SettledAt w.log (w.site i)

  -- A decision by the entries read is the decision of the whole log.
  pub decision_log : (s : Site S) (log : Log) (t : Tally) → decision S s log ≡ Some t → decide S s.round log ≡ Some t
  decision_log s log t e =
      subst (λ (l : Log). decide S s.round l ≡ Some t) (take-append-drop s.position log)
      (decide_grows S s.round (take s.position log) (drop s.position log) t e)

  settled_grows : (log more : Log) (k : ℕ) (g : Set) → Settled log k g → Settled (log ++ more) k g
  settled_grows log more k g v = record { past = v.past; at = history_grows k log more v.past v.at; same = v.same }

  finish_settles : (s : Site S) (log : Log) (o : Option Tally) → decision S s log ≡ o → is_some o ≡ true → SettledAt log s
      → SettledAt log (finish S (tally_or o) s)
  finish_settles s log None e h v = absurd (let z : ◌≡◌ {A = ℕ} 0 1 = cc (sym h) in omega arith)
  finish_settles s log (Some t) e h v =
      record {
        past = extend v.past t;
        at = history-next s.round log v.past t v.at (decision_log s log t e);
        same = λ i. v.same i ∪ (nc_set S t ∪ c_set S t);
      }

  pub settled-start : AllSettled (start S)
  unfolding history
  settled-start i = record { past = record { settled = ∅; sequence = [] }; at = refl; same = refl }

  touch : (w : World S) (i : ℕ) (s : Site S) → AllSettled w → SettledAt w.log s → (j : ℕ) → SettledAt w.log (pick (eqb j i) s (w.site j))
  touch w i s v h = put_keeps S (λ j s. SettledAt w.log s) w.site i s h (λ j e. v j)

  pub settled_keeps : (w : World S) (t : Step) → AllSettled w → Met (demands S w t) → AllSettled (change S w t)
  settled_keeps w (command i m) v h = touch w i _ v (v i)
  settled_keeps w (acknowledgment i j r a) v h = touch w i _ v (v i)
  settled_keeps w (check i j r) v h = touch w i _ v (v i)
  settled_keeps w (false_acknowledgment i j r x) v h = touch w i _ v (v i)
  settled_keeps w (false_check i j r x) v h = touch w i _ v (v i)
  settled_keeps w (false_entry j r nc c) v h = λ i. settled_grows w.log (_ ∷ []) _ _ (v i)
  settled_keeps w (turn i) v h =
      turn_keeps S AllSettled (acknowledges S (w.site i)) {w = acknowledging_turn S i (w.site i) w} {v = proposing_turn S i (w.site i) w}
      (λ e. touch w i _ v (v i)) (λ e j. settled_grows w.log (entry_of S i (w.site i) ∷ []) _ _ (touch w i _ v (v i) j))
  settled_keeps w (fast_delivery i m) v h = touch w i _ v (v i)
  settled_keeps w (log_read i) v h = touch w i _ v (v i)
  settled_keeps w (round_end i) v h = touch w i _ v (finish_settles (w.site i) w.log (decision S (w.site i) w.log) refl h.1.1.1.0 (v i))
