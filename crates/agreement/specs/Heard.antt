-- What a site keeps under a correct sender was acknowledged by it, and what it delivered fast in its round has nAck senders.
-- Rests on Promises' `said`.
use Rattle.std.specs.Prelude.{◌≡◌, refl, Bool, true, false, ◌&&◌, ◌||◌, List, [], ◌∷◌, ◌++◌, ℕ, zero, suc, pred, ◌≤◌, eqb, leb}
use Rattle.std.proofs.Common.{sym, ◌∙◌, ap, subst, ⊎_elim, arith, eqb-true, leb-true}
use Rattle.theory.specs.Sets.{Set, only, ◌∪◌, pick, count}
use Rattle.theory.specs.Counting.{left, right, true_or, or_true, either, never, count_mono}
use Rattle.theory.specs.Lists.{nth}
use Rattle.protocol.specs.System.{System, correct}
use Rattle.protocol.specs.Site.{Site, senders, acknowledges, undelivered}
use Rattle.protocol.specs.World.{World, Step, command, acknowledgment, check, false_acknowledgment, false_check, false_entry, turn, fast_delivery, log_read, round_end, start, demands, change, or_empty, acknowledging_turn, proposing_turn}
use Rattle.protocol.specs.Steps.{Met, not_both, put_keeps, turn_keeps}
use Rattle.agreement.specs.Promises.{said, said_more}

-- An acknowledgment that was sent is part of what was said.
nth-said : (l : List Set) (a m : ℕ) → or_empty (nth l a) m ≡ true → said l m ≡ true
unfolding said
nth-said [] a m h = h
nth-said (x ∷ l) zero m h = true_or (x m) (said l m) h
nth-said (x ∷ l) (suc a) m h = or_true (x m) (said l m) (nth-said l a m h)

module _ (S : System) where
  open S use {sites, faulty, n_ack}

  pub record Heard (acks : ℕ → ℕ → List Set) (heard : ℕ → ℕ → Set) (fast : Set) (k : ℕ) : Type 0 where
    pub sent : (j r m : ℕ) → correct S j ≡ true → heard j r m ≡ true → said (acks j r) m ≡ true
    pub enough : (m : ℕ) → fast m ≡ true → n_ack ≤ count sites (λ j. heard j k m)

  abbrev pub HeardAt : (ℕ → ℕ → List Set) → Site S → Type 0
  HeardAt acks s = Heard acks s.heard s.fast s.round

  abbrev pub AllHeard : World S → Type 0
  AllHeard w = (i : ℕ) → HeardAt w.acks (w.site i)

  -- One acknowledgment more is kept, and was sent where its sender is correct.
  hears : (acks : ℕ → ℕ → List Set) (s : Site S) (j r : ℕ) (x : Set) → (correct S j ≡ true → (m : ℕ) → x m ≡ true → said (acks j r) m ≡ true)
      → HeardAt acks s → Heard acks (λ j' r' m. s.heard j' r' m || eqb j' j && eqb r' r && x m) s.fast s.round
  hears acks s j r x h v =
      record {
        sent = λ j' r' m c k. ⊎_elim (v.sent j' r' m c) (λ z. new j' r' m c z) (either (s.heard j' r' m) (eqb j' j && eqb r' r && x m) k);
        enough = λ m k. omega (
          arith,
          v.enough m k,
          count_mono sites (λ j'. s.heard j' s.round m) (λ j'. s.heard j' s.round m || eqb j' j && eqb s.round r && x m)
              (λ j' l z. true_or (s.heard j' s.round m) (eqb j' j && eqb s.round r && x m) z),
        );
      }
    where
      new : (j' r' m : ℕ) → correct S j' ≡ true → (eqb j' j && eqb r' r && x m) ≡ true → said (acks j' r') m ≡ true
      new j' r' m c z =
          let front = left (eqb j' j && eqb r' r) (x m) z in
          let ej = eqb-true j' j (left (eqb j' j) (eqb r' r) front) in
          let er = eqb-true r' r (right (eqb j' j) (eqb r' r) front) in
          (λ i. said (acks (ej i) (er i)) m) ∙ h (ap (correct S) (sym ej) ∙ c) m (right (eqb j' j && eqb r' r) (x m) z)

  -- More was said.
  says_more : (acks more : ℕ → ℕ → List Set) → ((j r m : ℕ) → said (acks j r) m ≡ true → said (more j r) m ≡ true)
      → (heard : ℕ → ℕ → Set) (fast : Set) (k : ℕ) → Heard acks heard fast k → Heard more heard fast k
  says_more acks more h heard fast k v = record { sent = λ j r m c z. h j r m (v.sent j r m c z); enough = v.enough }

  -- The acknowledgments after one more of site i in round k.
  pub acks_grow : (w : World S) (i k : ℕ) (x : Set) (j r m : ℕ) → said (w.acks j r) m ≡ true
      → said (pick (eqb j i && eqb r k) (w.acks j r ++ (x ∷ [])) (w.acks j r)) m ≡ true
  acks_grow w i k x j r m h = go (eqb j i && eqb r k)
    where
      go : (b : Bool) → said (pick b (w.acks j r ++ (x ∷ [])) (w.acks j r)) m ≡ true
      go true = said_more (w.acks j r) x m ∙ true_or (said (w.acks j r) m) (x m) h
      go false = h

  delivers_fast : (acks : ℕ → ℕ → List Set) (s : Site S) (m : ℕ) → leb n_ack (senders S s m) ≡ true → HeardAt acks s
      → Heard acks s.heard (s.fast ∪ only m) s.round
  delivers_fast acks s m h v =
      record {
        sent = v.sent;
        enough = λ k z. ⊎_elim (v.enough k)
            (λ (e : eqb k m ≡ true). subst (λ (x : ℕ). n_ack ≤ senders S s x) (sym (eqb-true k m e)) (leb-true n_ack (senders S s m) h))
            (either (s.fast k) (eqb k m) z);
      }

  pub heard_start : AllHeard (start S)
  heard_start i = record { sent = λ j r m c h. absurd (never false h refl); enough = λ m h. absurd (never false h refl) }

  touch : (w : World S) (i : ℕ) (s : Site S) → AllHeard w → HeardAt w.acks s → (j : ℕ) → HeardAt w.acks (pick (eqb j i) s (w.site j))
  touch w i s v h = put_keeps S (λ j s. HeardAt w.acks s) w.site i s h (λ j e. v j)

  pub heard_keeps : (w : World S) (t : Step) → AllHeard w → Met (demands S w t) → AllHeard (change S w t)
  heard_keeps w (command i m) v h = touch w i _ v (v i)
  heard_keeps w (acknowledgment i j r a) v h =
      touch w i _ v (hears w.acks (w.site i) j r _ (λ c m k. nth-said (w.acks j r) (pred a) m k) (v i))
  heard_keeps w (check i j r) v h = touch w i _ v (v i)
  heard_keeps w (false_acknowledgment i j r x) v h =
      touch w i _ v (hears w.acks (w.site i) j r x (λ c. absurd (not_both (faulty j) c h.1.1.1.1.1.1.0)) (v i))
  heard_keeps w (false_check i j r x) v h = touch w i _ v (v i)
  heard_keeps w (false_entry j r nc c) v h = v
  heard_keeps w (turn i) v h =
      turn_keeps S AllHeard (acknowledges S (w.site i)) {w = acknowledging_turn S i (w.site i) w} {v = proposing_turn S i (w.site i) w}
      (λ e j. says_more w.acks _ (acks_grow w i (w.site i).round (undelivered S (w.site i))) _ _ _ (touch w i _ v (v i) j))
      (λ e. touch w i _ v (v i))
  heard_keeps w (fast_delivery i m) v h = touch w i _ v (delivers_fast w.acks (w.site i) m h.1.1.1.1.1.0 (v i))
  heard_keeps w (log_read i) v h = touch w i _ v (v i)
  heard_keeps w (round_end i) v h = touch w i _ v (record { sent = (v i).sent; enough = λ m k. absurd (never false k refl) })
