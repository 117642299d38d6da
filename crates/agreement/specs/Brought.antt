-- A correct site proposes only where two commands conflict: its entry brings two conflicting commands that the log has not settled.
-- Rests on History.
use Rattle.std.specs.Prelude.{◌≡◌, refl, Bool, true, false, ◌&&◌, ◌||◌, not, [], ◌∷◌, ◌++◌, ◌⊎◌, ℕ, zero, suc, ◌<◌, Some}
use Rattle.std.proofs.Common.{sym, ◌∙◌, ap, subst, inl, inr, ⊎_elim, arith}
use Rattle.theory.specs.Sets.{Set, ◌∪◌, all}
use Rattle.theory.specs.Counting.{left, right, never, not-true, not-false, known}
use Rattle.protocol.specs.System.{System, correct, free}
use Rattle.protocol.specs.Recovery.{Entry, Log}
use Rattle.protocol.specs.StandingLaws.{Logged, logged_split}
use Rattle.protocol.specs.Site.{Site, undelivered, acknowledges}
use Rattle.protocol.specs.World.{World, Step, command, acknowledgment, check, false_acknowledgment, false_check, false_entry, turn, fast_delivery, log_read, round_end, start, demands, change, entry_of, acknowledging_turn, proposing_turn}
use Rattle.protocol.specs.Steps.{Met, not_both, turn_keeps}
use Rattle.agreement.specs.History.{History, history, history_grows, SettledAt, AllSettled}

-- Where not all satisfy a test, one fails it.
some-not : (n : ℕ) (p : ℕ → Bool) → all n p ≡ false → (m : ℕ) × (m < n) × (p m ≡ false)
unfolding all
some-not zero p h = absurd (never true refl h)
some-not (suc n) p h = go (known (p n)) (some-not n p)
  where
    front : (a b : Bool) → (a && b) ≡ false → b ≡ true → a ≡ false
    front true b h e = absurd (never b e h)
    front false b h e = refl

    go : (p n ≡ true) ⊎ (p n ≡ false) → (all n p ≡ false → (m : ℕ) × (m < n) × (p m ≡ false)) → (m : ℕ) × (m < suc n) × (p m ≡ false)
    go (inl e) r = let w = r (front (all n p) (p n) h e) in (w.0, omega (arith, w.1), w.2)
    go (inr e) r = (n, omega arith, e)

module _ (S : System) where
  open S use {machine, commands}

  -- Two conflicting commands of an entry that are not settled below its round.
  pub record Brings (log : Log) (e : Entry) : Type 0 where
    pub past : History
    pub at : history S e.round log ≡ Some past
    pub one : ℕ
    pub two : ℕ
    pub below : (one < commands) × (two < commands)
    pub conflict : machine.conflict one two ≡ true
    pub proposed : ((e.nc ∪ e.c) one ≡ true) × ((e.nc ∪ e.c) two ≡ true)
    pub new : (past.settled one ≡ false) × (past.settled two ≡ false)

  abbrev pub Brought : World S → Type 0
  Brought w = (e : Entry) → Logged e w.log → correct S e.site ≡ true → Brings w.log e

  brings_more : (log more : Log) (e : Entry) → Brings log e → Brings (log ++ more) e
  brings_more log more e b =
      record {
        past = b.past;
        at = history_grows S e.round log more b.past b.at;
        one = b.one;
        two = b.two;
        below = b.below;
        conflict = b.conflict;
        proposed = b.proposed;
        new = b.new;
      }

  not_free : (x : Set) → free S x ≡ false
      → (a : ℕ) × (b : ℕ) × (a < commands) × (b < commands) × (x a ≡ true) × (x b ≡ true) × (machine.conflict a b ≡ true)
  not_free x h =
      let r = some-not commands (λ a. all commands (λ b. not (x a && (x b && machine.conflict a b)))) h in
      let c = some-not commands (λ b. not (x r.0 && (x b && machine.conflict r.0 b))) r.2 in
      let t = not-false (x r.0 && (x c.0 && machine.conflict r.0 c.0)) c.2 in
      let u = right (x r.0) (x c.0 && machine.conflict r.0 c.0) t in (
        r.0,
        c.0,
        r.1,
        c.1,
        left (x r.0) (x c.0 && machine.conflict r.0 c.0) t,
        left (x c.0) (machine.conflict r.0 c.0) u,
        right (x c.0) (machine.conflict r.0 c.0) u,
      )

  -- What is undelivered is in the NC or the C that is proposed.
  split_proposal : (r d p : Bool) → (r && not d) ≡ true → (p || r && not (d || p)) ≡ true
  split_proposal true d true h = refl
  split_proposal true true false h = h
  split_proposal true false false h = refl
  split_proposal false d p h = absurd (never false h refl)

  proposal_brings : (log more : Log) (i : ℕ) (s : Site S) → SettledAt S log s → acknowledges S s ≡ false → Brings (log ++ more) (entry_of S i s)
  proposal_brings log more i s v h =
      let k = not_free (undelivered S s) h in
      let new : (m : ℕ) → undelivered S s m ≡ true → v.past.settled m ≡ false =
      λ m e. ap (λ (x : Set). x m) v.same ∙ not-true (s.delivered m) (right (s.received m) (not (s.delivered m)) e) in
      record {
        past = v.past;
        at = history_grows S s.round log more v.past v.at;
        one = k.0;
        two = k.1;
        below = (k.2, k.3);
        conflict = k.6;
        proposed = (
          split_proposal (s.received k.0) (s.delivered k.0) (s.pending k.0) k.4,
          split_proposal (s.received k.1) (s.delivered k.1) (s.pending k.1) k.5,
        );
        new = (new k.0 k.4, new k.1 k.5);
      }

  pub brought_start : Brought (start S)
  brought_start e l = absurd l

  pub brought_keeps : (w : World S) (t : Step) → AllSettled S w → Brought w → Met (demands S w t) → Brought (change S w t)
  brought_keeps w (command i m) g v h = v
  brought_keeps w (acknowledgment i j r a) g v h = v
  brought_keeps w (check i j r) g v h = v
  brought_keeps w (false_acknowledgment i j r x) g v h = v
  brought_keeps w (false_check i j r x) g v h = v
  brought_keeps w (false_entry j r nc c) g v h = λ e l k.
      ⊎_elim (λ z. brings_more w.log (_ ∷ []) e (v e z k))
      (λ z. absurd (not_both (System.faulty S e.site) k (ap (λ (x : Entry). System.faulty S x.site) z ∙ h.1.1.1.1.1.0)))
      (logged_split e (record { site = j; round = r; nc = nc; c = c }) w.log l)
  brought_keeps w (turn i) g v h =
      turn_keeps S Brought (acknowledges S (w.site i)) {w = acknowledging_turn S i (w.site i) w} {v = proposing_turn S i (w.site i) w}
      (λ z. v)
      (λ z e l k. ⊎_elim (λ y. brings_more w.log (entry_of S i (w.site i) ∷ []) e (v e y k))
      (λ y. subst (λ (x : Entry). Brings (w.log ++ (entry_of S i (w.site i) ∷ [])) x) (sym y) (proposal_brings w.log (entry_of S i (w.site i) ∷ []) i (w.site i) (g i) z))
      (logged_split e (entry_of S i (w.site i)) w.log l))
  brought_keeps w (fast_delivery i m) g v h = v
  brought_keeps w (log_read i) g v h = v
  brought_keeps w (round_end i) g v h = v
