-- A waiting site's pending set stays as it was until the round ends.
-- Rests on Steps.
use Rattle.std.specs.Prelude.{◌≡◌, refl, Bool, true, false, ℕ, eqb}
use Rattle.std.proofs.Common.{sym, ◌∙◌, ap, arith, eqb-true}
use Rattle.theory.specs.Sets.{pick}
use Rattle.theory.specs.Counting.{never}
use Rattle.protocol.specs.System.{System}
use Rattle.protocol.specs.Site.{Site, Phase, acknowledging, waiting, is_acknowledging, is_waiting, acknowledge, propose, finish, decision, tally_or, acknowledges}
use Rattle.protocol.specs.World.{World, Step, command, acknowledgment, check, false_acknowledgment, false_check, false_entry, turn, fast_delivery, log_read, round_end, demands, change, acknowledging_turn, proposing_turn}
use Rattle.protocol.specs.Steps.{Met, turn_keeps}

-- A site does not acknowledge and wait at once.
pub not-waiting : (p : Phase) → is_acknowledging p ≡ true → is_waiting p ≡ true → ⊥
not-waiting acknowledging h k = never false k refl
not-waiting (waiting p) h k = never false h refl

module _ (S : System) where
  -- The site that a step is not of, or one whose pending the step leaves, has the pending that it had.
  left_alone : (w : World S) (i i' : ℕ) (s : Site S) → s.pending ≡ (w.site i').pending → (pick (eqb i i') s (w.site i)).pending ≡ (w.site i).pending
  left_alone w i i' s h = go (eqb i i') refl
    where
      go : (b : Bool) → eqb i i' ≡ b → (pick b s (w.site i)).pending ≡ (w.site i).pending
      go true e = h ∙ ap (λ (k : ℕ). (w.site k).pending) (sym (eqb-true i i' e))
      go false e = refl

  unless : (w : World S) (i i' : ℕ) (s : Site S) → (i ≡ i' → s.pending ≡ (w.site i).pending)
      → (pick (eqb i i') s (w.site i)).pending ≡ (w.site i).pending
  unless w i i' s h = go (eqb i i') refl
    where
      go : (b : Bool) → eqb i i' ≡ b → (pick b s (w.site i)).pending ≡ (w.site i).pending
      go true e = h (eqb-true i i' e)
      go false e = refl

  -- After every step that is not refused: a site that waited and is still in its round has the same pending set.
  pub pending_stays : (w : World S) (t : Step) → Met (demands S w t) → (i : ℕ) → is_waiting (w.site i).phase ≡ true
      → ((change S w t).site i).round ≡ (w.site i).round → ((change S w t).site i).pending ≡ (w.site i).pending
  pending_stays w (command i' m) h i k e = left_alone w i i' _ refl
  pending_stays w (acknowledgment i' j r a) h i k e = left_alone w i i' _ refl
  pending_stays w (check i' j r) h i k e = left_alone w i i' _ refl
  pending_stays w (false_acknowledgment i' j r x) h i k e = left_alone w i i' _ refl
  pending_stays w (false_check i' j r x) h i k e = left_alone w i i' _ refl
  pending_stays w (false_entry j r nc c) h i k e = refl
  pending_stays w (turn i') h i k e =
      turn_keeps S (λ (v : World S). (v.site i).pending ≡ (w.site i).pending) (acknowledges S (w.site i')) {w = acknowledging_turn S i' (w.site i') w} {v = proposing_turn S i' (w.site i') w}
      (λ z. unless w i i' (acknowledge S (w.site i')) (λ q. absurd (not-waiting (w.site i).phase (ap (λ (n : ℕ). is_acknowledging (w.site n).phase) q ∙ h.1.1.0) k)))
      (λ z. left_alone w i i' (propose S (w.site i')) refl)
  pending_stays w (fast_delivery i' m) h i k e = left_alone w i i' _ refl
  pending_stays w (log_read i') h i k e = left_alone w i i' _ refl
  pending_stays w (round_end i') h i k e = ended (eqb i i') refl e
    where
      after : Site S
      after = finish S (tally_or (decision S (w.site i') w.log)) (w.site i')

      ended : (b : Bool) → eqb i i' ≡ b → (pick b after (w.site i)).round ≡ (w.site i).round → (pick b after (w.site i)).pending ≡ (w.site i).pending
      ended true eb q = absurd (let z = ap (λ (n : ℕ). (w.site n).round) (eqb-true i i' eb) in omega arith)
      ended false eb q = refl
