-- What a correct site has acknowledged binds it: it is pending in that round, free of conflicts, and in the NC of its proposal.
-- Rests on Pending and RecoveryLaws.
use Rattle.std.specs.Prelude.{◌≡◌, refl, Bool, true, ◌&&◌, ◌||◌, List, [], ◌∷◌, ◌++◌, ◌⊎◌, ℕ, suc, ◌<◌, eqb}
use Rattle.std.proofs.Common.{sym, ◌∙◌, ap, subst, inl, inr, ⊎_elim, arith, eqb-true, eq-eqb}
use Rattle.std.proofs.Math.Bool.{false}
use Rattle.theory.specs.Sets.{Set, ∅, pick}
use Rattle.theory.specs.Counting.{either, never}
use Rattle.protocol.specs.System.{System, correct}
use Rattle.protocol.specs.Recovery.{Entry, Log}
use Rattle.protocol.specs.StandingLaws.{Logged, logged_split}
use Rattle.protocol.specs.RecoveryLaws.{free_pair}
use Rattle.protocol.specs.WaitingLaws.{not-waiting}
use Rattle.protocol.specs.Site.{Site, is_acknowledging, is_waiting, undelivered, acknowledges, acknowledge, propose}
use Rattle.protocol.specs.World.{World, Step, command, acknowledgment, check, false_acknowledgment, false_check, false_entry, turn, fast_delivery, log_read, round_end, start, demands, change, entry_of, acknowledging_turn, proposing_turn}
use Rattle.protocol.specs.Steps.{Met, not_both, put_keeps, turn_keeps}
use Rattle.agreement.specs.Pending.{PendingAt, AllPending}

-- The commands of some acknowledgments.
unfoldable pub said : List Set → Set
said [] m = false
said (x ∷ l) m = x m || said l m

pub said_more : (l : List Set) (x : Set) (m : ℕ) → said (l ++ (x ∷ [])) m ≡ (said l m || x m)
unfolding said
said_more [] x m = go (x m)
  where
    go : (b : Bool) → (b || false) ≡ b
    go true = refl
    go false = refl
said_more (y ∷ l) x m = go (y m) (said_more l x m)
  where
    go : (b : Bool) → said (l ++ (x ∷ [])) m ≡ (said l m || x m) → (b || said (l ++ (x ∷ [])) m) ≡ (b || said l m || x m)
    go true h = refl
    go false h = h

module _ (S : System) where
  open S use {machine, commands}

  pub record Promise (log : Log) (acks : ℕ → List Set) (j k : ℕ) (pending : Set) (waits : Bool) : Type 0 where
    -- what it said in a round is over, or of this round and pending
    pub current : (r m : ℕ) → said (acks r) m ≡ true → (r < k) ⊎ ((r ≡ k) × (pending m ≡ true))
    -- what it said in a round is free of conflicts
    pub calm : (r a b : ℕ) → a < commands → b < commands → said (acks r) a ≡ true → said (acks r) b ≡ true → machine.conflict a b ≡ false
    -- an entry of its own is of an earlier round, or of this round and it waits
    pub spoke : (e : Entry) → Logged e log → e.site ≡ j → (e.round < k) ⊎ ((e.round ≡ k) × (waits ≡ true))
    -- the NC of an entry of its own has all that it said in that round
    pub kept : (e : Entry) → Logged e log → e.site ≡ j → (m : ℕ) → said (acks e.round) m ≡ true → e.nc m ≡ true

  abbrev pub PromiseAt : Log → (ℕ → ℕ → List Set) → ℕ → Site S → Type 0
  PromiseAt log acks j s = Promise log (acks j) j s.round s.pending (is_waiting s.phase)

  abbrev pub Promises : World S → Type 0
  Promises w = (j : ℕ) → correct S j ≡ true → PromiseAt w.log w.acks j (w.site j)

  -- The acknowledgments of round k with one more.
  abbrev grown : (ℕ → List Set) → ℕ → Set → ℕ → List Set
  grown acks k x r = pick (eqb r k) (acks r ++ (x ∷ [])) (acks r)

  -- What is said after one acknowledgment more was said before, or is in it and of its round.
  grown-said : (acks : ℕ → List Set) (k : ℕ) (x : Set) (r m : ℕ) → said (grown acks k x r) m ≡ true → (said (acks r) m ≡ true) ⊎ ((r ≡ k) × (x m ≡ true))
  grown-said acks k x r m = go (eqb r k) refl
    where
      go : (b : Bool) → eqb r k ≡ b → said (pick b (acks r ++ (x ∷ [])) (acks r)) m ≡ true → (said (acks r) m ≡ true) ⊎ ((r ≡ k) × (x m ≡ true))
      go true e h = ⊎_elim (λ z. inl z) (λ z. inr (eqb-true r k e, z)) (either (said (acks r) m) (x m) (sym (said_more (acks r) x m) ∙ h))
      go false e h = inl h

  acknowledge_keeps : (log : Log) (acks : ℕ → List Set) (j : ℕ) (s : Site S) → PendingAt S s → acknowledges S s ≡ true → is_acknowledging s.phase ≡ true
      → Promise log acks j s.round s.pending (is_waiting s.phase)
      → Promise log (grown acks s.round (undelivered S s)) j s.round (undelivered S s) (is_waiting s.phase)
  acknowledge_keeps log acks j s p f a v =
      record {
        current = λ r m h. ⊎_elim (λ z. old r m (v.current r m z)) (λ z. inr z) (grown-said acks s.round (undelivered S s) r m h);
        calm = λ r a b la lb ha hb.
            calm r a b la lb (grown-said acks s.round (undelivered S s) r a ha) (grown-said acks s.round (undelivered S s) r b hb);
        spoke = v.spoke;
        kept = λ e l ej m h. ⊎_elim (v.kept e l ej m) (λ z. late e l ej z.0) (grown-said acks s.round (undelivered S s) e.round m h);
      }
    where
      old : (r m : ℕ) → (r < s.round) ⊎ ((r ≡ s.round) × (s.pending m ≡ true)) → (r < s.round) ⊎ ((r ≡ s.round) × (undelivered S s m ≡ true))
      old r m (inl h) = inl h
      old r m (inr h) = inr (h.0, p.inside m h.1)

      -- what was said in this round is undelivered
      here : (m : ℕ) → said (acks s.round) m ≡ true → undelivered S s m ≡ true
      here m h = ⊎_elim (λ z. absurd (omega arith)) (λ z. p.inside m z.1) (v.current s.round m h)

      new : (r m : ℕ) → r ≡ s.round → (said (acks r) m ≡ true) ⊎ ((r ≡ s.round) × (undelivered S s m ≡ true)) → undelivered S s m ≡ true
      new r m e (inl h) = here m (subst (λ (x : ℕ). said (acks x) m ≡ true) e h)
      new r m e (inr h) = h.1

      calm : (r a b : ℕ) → a < commands → b < commands → (said (acks r) a ≡ true) ⊎ ((r ≡ s.round) × (undelivered S s a ≡ true))
          → (said (acks r) b ≡ true) ⊎ ((r ≡ s.round) × (undelivered S s b ≡ true)) → machine.conflict a b ≡ false
      calm r a b la lb (inl ha) (inl hb) = v.calm r a b la lb ha hb
      calm r a b la lb (inl ha) (inr hb) = free_pair S (undelivered S s) f a b la lb (new r a hb.0 (inl ha)) hb.1
      calm r a b la lb (inr ha) hb = free_pair S (undelivered S s) f a b la lb ha.1 (new r b ha.0 hb)

      -- it has no entry of this round yet
      late : (e : Entry) → Logged e log → e.site ≡ j → e.round ≡ s.round → {A : Type 0} → A
      late e l ej er = ⊎_elim (λ z. absurd (omega arith)) (λ z. absurd (not-waiting s.phase a z.1)) (v.spoke e l ej)

  propose_keeps : (log : Log) (acks : ℕ → List Set) (j : ℕ) (s : Site S)
      → Promise log acks j s.round s.pending (is_waiting s.phase)
      → Promise (log ++ (entry_of S j s ∷ [])) acks j s.round s.pending true
  propose_keeps log acks j s v =
      record {
        current = v.current;
        calm = v.calm;
        spoke = λ e l ej. ⊎_elim (λ z. old e (v.spoke e z ej)) (λ z. inr (ap (λ (x : Entry). x.round) z, refl)) (logged_split e (entry_of S j s) log l);
        kept = λ e l ej m h. ⊎_elim (λ z. v.kept e z ej m h) (λ z. new e z m h) (logged_split e (entry_of S j s) log l);
      }
    where
      old : (e : Entry) → (e.round < s.round) ⊎ ((e.round ≡ s.round) × (is_waiting s.phase ≡ true)) → (e.round < s.round) ⊎ ((e.round ≡ s.round) × (true ≡ true))
      old e (inl h) = inl h
      old e (inr h) = inr (h.0, refl)

      new : (e : Entry) → e ≡ entry_of S j s → (m : ℕ) → said (acks e.round) m ≡ true → e.nc m ≡ true
      new e q m h =
          ap (λ (x : Entry). x.nc m) q
          ∙ ⊎_elim (λ z. absurd (omega arith)) (λ z. z.1)
          (v.current s.round m (subst (λ (x : Entry). said (acks x.round) m ≡ true) q h))

  -- An entry of another site changes nothing.
  other_keeps : (log : Log) (acks : ℕ → List Set) (j k : ℕ) (pending : Set) (waits : Bool) (x : Entry) → (x.site ≡ j → ⊥)
      → Promise log acks j k pending waits → Promise (log ++ (x ∷ [])) acks j k pending waits
  other_keeps log acks j k pending waits x apart v =
      record {
        current = v.current;
        calm = v.calm;
        spoke = λ e l ej. ⊎_elim (λ z. v.spoke e z ej) (λ z. absurd (apart (sym (ap (λ (y : Entry). y.site) z) ∙ ej))) (logged_split e x log l);
        kept = λ e l ej. ⊎_elim (λ z. v.kept e z ej) (λ z. absurd (apart (sym (ap (λ (y : Entry). y.site) z) ∙ ej))) (logged_split e x log l);
      }

  finish_keeps : (log : Log) (acks : ℕ → List Set) (j k : ℕ) (pending : Set) (waits : Bool) → Promise log acks j k pending waits → Promise log acks j (suc k) ∅ false
  finish_keeps log acks j k pending waits v =
      record {
        current = λ r m h. inl (⊎_elim (λ z. omega arith) (λ (z : (r ≡ k) × (pending m ≡ true)). omega (arith, z.0)) (v.current r m h));
        calm = v.calm;
        spoke = λ e l ej. inl (⊎_elim (λ z. omega arith) (λ (z : (e.round ≡ k) × (waits ≡ true)). omega (arith, z.0)) (v.spoke e l ej));
        kept = v.kept;
      }

  pub promises_start : Promises (start S)
  unfolding said
  promises_start j h =
      record {
        current = λ r m k. absurd (never false k refl);
        calm = λ r a b la lb ha hb. absurd (never false ha refl);
        spoke = λ e l. absurd l;
        kept = λ e l. absurd l;
      }

  touch : (w : World S) (i : ℕ) (s : Site S) → Promises w → (correct S i ≡ true → PromiseAt w.log w.acks i s) → (j : ℕ) → correct S j ≡ true → PromiseAt w.log w.acks j (pick (eqb j i) s (w.site j))
  touch w i s v h = put_keeps S (λ j s. correct S j ≡ true → PromiseAt w.log w.acks j s) w.site i s h (λ j e. v j)

  acknowledging_turn_lem : (w : World S) (i : ℕ) → Promises w → PendingAt S (w.site i) → correct S i ≡ true → is_acknowledging (w.site i).phase ≡ true → acknowledges S (w.site i) ≡ true
      → Promises (acknowledging_turn S i (w.site i) w)
  acknowledging_turn_lem w i v p ci a f j c = go (eqb j i) refl
    where
      s : Site S
      s = w.site i

      go : (b : Bool) → eqb j i ≡ b
          → PromiseAt w.log (λ x r. pick (b && eqb r s.round) (w.acks x r ++ (undelivered S s ∷ [])) (w.acks x r)) j
          (pick b (acknowledge S s) (w.site j))
      go true e =
          subst (λ (x : ℕ). Promise w.log (grown (w.acks x) s.round (undelivered S s)) x s.round (undelivered S s) (is_waiting s.phase))
          (sym (eqb-true j i e)) (acknowledge_keeps w.log (w.acks i) i s p f a (v i ci))
      go false e = v j c

  proposing_turn_lem : (w : World S) (i : ℕ) → Promises w → correct S i ≡ true → Promises (proposing_turn S i (w.site i) w)
  proposing_turn_lem w i v ci j c = go (eqb j i) refl
    where
      s : Site S
      s = w.site i

      go : (b : Bool) → eqb j i ≡ b
          → PromiseAt (w.log ++ (entry_of S i s ∷ [])) w.acks j (pick b (propose S s) (w.site j))
      go true e =
          subst (λ (x : ℕ). Promise (w.log ++ (entry_of S i s ∷ [])) (w.acks x) x s.round s.pending true) (sym (eqb-true j i e))
          (propose_keeps w.log (w.acks i) i s (v i ci))
      go false e = other_keeps w.log (w.acks j) j _ _ _ (entry_of S i s) (λ q. never (eqb j i) (eq-eqb j i (sym q)) e) (v j c)

  pub promises_keep : (w : World S) (t : Step) → AllPending S w → Promises w → Met (demands S w t) → Promises (change S w t)
  promises_keep w (command i m) p v h = touch w i _ v (v i)
  promises_keep w (acknowledgment i j r a) p v h = touch w i _ v (v i)
  promises_keep w (check i j r) p v h = touch w i _ v (v i)
  promises_keep w (false_acknowledgment i j r x) p v h = touch w i _ v (v i)
  promises_keep w (false_check i j r x) p v h = touch w i _ v (v i)
  promises_keep w (false_entry j r nc c) p v h =
      λ i k. other_keeps w.log (w.acks i) i _ _ _ (record { site = j; round = r; nc = nc; c = c })
      (λ e. not_both (System.faulty S i) k (ap (System.faulty S) (sym e) ∙ h.1.1.1.1.1.0)) (v i k)
  promises_keep w (turn i) p v h =
      turn_keeps S Promises (acknowledges S (w.site i)) {w = acknowledging_turn S i (w.site i) w} {v = proposing_turn S i (w.site i) w}
      (λ e. acknowledging_turn_lem w i v (p i) h.1.0 h.1.1.0 e) (λ e. proposing_turn_lem w i v h.1.0)
  promises_keep w (fast_delivery i m) p v h = touch w i _ v (v i)
  promises_keep w (log_read i) p v h = touch w i _ v (v i)
  promises_keep w (round_end i) p v h = touch w i _ v (λ c. finish_keeps w.log (w.acks i) i _ _ _ (v i c))
