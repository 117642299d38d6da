-- What is pending at a site has been received and not been delivered in an earlier round, is free of conflicts, and holds what was delivered fast.
-- Rests on RecoveryLaws.
use Rattle.std.specs.Prelude.{◌≡◌, refl, Bool, true, false, ◌&&◌, ◌||◌, not, ℕ, eqb}
use Rattle.std.proofs.Common.{◌∙◌, ap, ⊎_elim, eqb-true}
use Rattle.theory.specs.Sets.{Set, ∅, only, ◌∪◌, ◌∖◌, pick}
use Rattle.theory.specs.Counting.{either, never}
use Rattle.protocol.specs.System.{System, free}
use Rattle.protocol.specs.RecoveryLaws.{free_of}
use Rattle.protocol.specs.Site.{Site, acknowledges}
use Rattle.protocol.specs.World.{World, Step, command, acknowledgment, check, false_acknowledgment, false_check, false_entry, turn, fast_delivery, log_read, round_end, start, demands, change, acknowledging_turn, proposing_turn}
use Rattle.protocol.specs.Steps.{Met, put_keeps, turn_keeps}

-- More received leaves what was undelivered so.
pub more_received : (r x d : Bool) → (r && not d) ≡ true → ((r || x) && not d) ≡ true
more_received true x d h = h
more_received false x d h = absurd (never false h refl)

module _ (S : System) where
  pub record Pending (received delivered pending fast : Set) : Type 0 where
    pub inside : (m : ℕ) → pending m ≡ true → (received ∖ delivered) m ≡ true
    pub calm : free S pending ≡ true
    pub holds : (m : ℕ) → fast m ≡ true → pending m ≡ true

  abbrev pub PendingAt : Site S → Type 0
  PendingAt s = Pending s.received s.delivered s.pending s.fast

  abbrev pub AllPending : World S → Type 0
  AllPending w = (i : ℕ) → PendingAt (w.site i)

  pub free_empty : free S ∅ ≡ true
  free_empty = free_of S ∅ (λ a b la lb ha hb. absurd (never false ha refl))

  receives : (s : Site S) (x : Set) → PendingAt s → Pending (s.received ∪ x) s.delivered s.pending s.fast
  receives s x v =
      record { inside = λ m h. more_received (s.received m) (x m) (s.delivered m) (v.inside m h); calm = v.calm; holds = v.holds }

  fast_more : (s : Site S) (m : ℕ) → s.pending m ≡ true → PendingAt s → Pending s.received s.delivered s.pending (s.fast ∪ only m)
  fast_more s m p v =
      record {
        inside = v.inside;
        calm = v.calm;
        holds = λ k h. ⊎_elim (v.holds k) (λ e. ap s.pending (eqb-true k m e) ∙ p) (either (s.fast k) (eqb k m) h);
      }

  nothing : (received delivered : Set) → Pending received delivered ∅ ∅
  nothing received delivered = record { inside = λ m h. absurd (never false h refl); calm = free_empty; holds = λ m h. h }

  pub pending_start : AllPending (start S)
  pending_start i = nothing ∅ ∅

  touch : (w : World S) (i : ℕ) (s : Site S) → AllPending w → PendingAt s → (j : ℕ) → PendingAt (pick (eqb j i) s (w.site j))
  touch w i s v h = put_keeps S (λ j s. PendingAt s) w.site i s h (λ j e. v j)

  pub pending_keeps : (w : World S) (t : Step) → AllPending w → Met (demands S w t) → AllPending (change S w t)
  pending_keeps w (command i m) v h = touch w i _ v (receives (w.site i) _ (v i))
  pending_keeps w (acknowledgment i j r a) v h = touch w i _ v (receives (w.site i) _ (v i))
  pending_keeps w (check i j r) v h = touch w i _ v (receives (w.site i) _ (v i))
  pending_keeps w (false_acknowledgment i j r x) v h = touch w i _ v (receives (w.site i) _ (v i))
  pending_keeps w (false_check i j r x) v h = touch w i _ v (receives (w.site i) _ (v i))
  pending_keeps w (false_entry j r nc c) v h = v
  pending_keeps w (turn i) v h =
      turn_keeps S AllPending (acknowledges S (w.site i)) {w = acknowledging_turn S i (w.site i) w} {v = proposing_turn S i (w.site i) w}
      (λ e. touch w i _ v (record { inside = λ m k. k; calm = e; holds = λ m k. (v i).inside m ((v i).holds m k) }))
      (λ e. touch w i _ v (v i))
  pending_keeps w (fast_delivery i m) v h = touch w i _ v (fast_more (w.site i) m h.1.1.1.0 (v i))
  pending_keeps w (log_read i) v h = touch w i _ v (v i)
  pending_keeps w (round_end i) v h = touch w i _ v (nothing _ _)
