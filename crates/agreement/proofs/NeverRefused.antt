-- No run meets refusal 8 or 9, and no correct site's append is a third entry.
-- Rests on Bound and Sequence.
use Rattle.std.specs.Prelude.{◌≡◌, refl, Bool, true, false, ◌&&◌, ◌||◌, not, List, [], ◌∷◌, ◌++◌, ℕ, suc, ◌+◌, ◌≤◌, ◌<◌, eqb, leb, ltb, length, Err, Some}
use Rattle.std.proofs.Common.{sym, ◌∙◌, ap, inl, inr, ⊎_elim, arith, length-append, eqb-true, eq-eqb, ltb-true, lt-ltb, le-leb}
use Rattle.refusals.specs.declared.Refusal.{Refusal}
use Rattle.refusals.specs.Refusals.{Verdict}
use Rattle.theory.specs.Sets.{Set, ∅, only, ◌∪◌, one, any, count, members}
use Rattle.theory.specs.Counting.{both, left, right, true_or, or_true, either, neither, never, not-true, any_some, count_le, count_mono, count_split, count_at, count-all}
use Rattle.theory.specs.Lists.{contents, distinct}
use Rattle.theory.specs.ListLaws.{contents-append, distinct_append}
use Rattle.theory.specs.Members.{members_in, members-distinct}
use Rattle.theory.specs.Machine.{Exchange, Delivery}
use Rattle.theory.specs.TraceLaws.{alike-length}
use Rattle.protocol.specs.System.{System, Demands, granted, ◌else◌⨾◌, verdict, correct}
use Rattle.protocol.specs.Recovery.{Entry, Log, Tally, entries}
use Rattle.protocol.specs.StandingLaws.{Logged, same_some}
use Rattle.protocol.specs.WaitingLaws.{not-waiting}
use Rattle.protocol.specs.Site.{is_acknowledging, is_some, unacknowledged, acknowledges, room, due, finish, decision, tally_or}
use Rattle.protocol.specs.World.{World, Step, command, acknowledgment, check, false_acknowledgment, false_check, false_entry, turn, fast_delivery, log_read, round_end, start, play, demands, judge}
use Rattle.protocol.specs.Steps.{refused_taken}
use Rattle.agreement.specs.History.{History, history}
use Rattle.agreement.specs.HistoryLaws.{Sound, history_sound}
use Rattle.agreement.specs.Acked.{Sizes}
use Rattle.agreement.specs.Answers.{commands_of, fold_commands}
use Rattle.agreement.proofs.Sequence.{Traced, fast_traced, finish_traced}
use Rattle.agreement.proofs.Invariant.{Good, good_play}
use Rattle.agreement.specs.Brought.{Brought}
use Rattle.agreement.specs.Bound.{Limits}
use Rattle.agreement.proofs.Bound.{round_delivered, brought_play}
use Rattle.agreement.specs.NeverRefused.{is_full, is_third, is_last_round, NeverRefused}

-- ---- refusals

-- A refusal of some kind is never the answer: each demand of that kind holds wherever those before it hold.
abbrev Spared : (Refusal → Bool) → Demands → Type 0
Spared p granted = Unit {0}
Spared p (b else q ⨾ ds) = (p q ≡ true → b ≡ true) × (b ≡ true → Spared p ds)

same_refusal : {q r : Refusal} → ◌≡◌ {A = Verdict} (Err q) (Err r) → q ≡ r
same_refusal e = cc

spared : (p : Refusal → Bool) (ds : Demands) → Spared p ds → (r : Refusal) → verdict ds ≡ Err r → p r ≡ false
spared p granted h r e = refused_taken (sym e)
spared p (true else q ⨾ ds) h r e = spared p ds (h.1 refl) r e
spared p (false else q ⨾ ds) h r e = ap p (sym (same_refusal e)) ∙ go (p q) h.0
  where
    go : (b : Bool) → (b ≡ true → false ≡ true) → b ≡ false
    go true k = sym (k refl)
    go false k = refl

-- No demand of that kind is made.
abbrev mentions : (Refusal → Bool) → Demands → Bool
mentions p granted = false
mentions p (b else q ⨾ ds) = p q || mentions p ds

unmentioned : (p : Refusal → Bool) (ds : Demands) → mentions p ds ≡ false → Spared p ds
unmentioned p granted h = tt
unmentioned p (b else q ⨾ ds) h =
    ((λ e. absurd (never (p q) e (neither (p q) (mentions p ds) h).0)), λ e. unmentioned p ds (neither (p q) (mentions p ds) h).1)

-- A demand of another kind.
quiet : {A : Type 0} → false ≡ true → A
quiet e = absurd (never false e refl)

-- ---- lists

-- A list without repetition of numbers below n has at most n of them.
distinct-count : (n : ℕ) (l : List ℕ) → distinct l ≡ true → ((m : ℕ) → contents l m ≡ true → m < n) → length l ≤ count n (contents l)
distinct-count n [] h b = omega arith
distinct-count n (x ∷ l) h b =
    omega (
      arith,
      distinct-count n l (right (not (contents l x)) (distinct l) h) (λ m k. b m (or_true (eqb m x) (contents l m) k)),
      count_split n (contents (x ∷ l)) (contents l),
      count_mono n (contents l) (λ m. contents (x ∷ l) m && contents l m) (λ m k e. both (contents (x ∷ l) m) (contents l m) (or_true (eqb m x) (contents l m) e) e),
      count_at n (λ m. contents (x ∷ l) m && not (contents l m)) x (b x here) (both (contents (x ∷ l) x) (not (contents l x)) here (left (not (contents l x)) (distinct l) h)),
    )
  where
    here : contents (x ∷ l) x ≡ true
    here = true_or (eqb x x) (contents l x) (eq-eqb x x refl)

length-commands : {A : Type 0} (l : List (Delivery A)) → length (commands_of l) ≡ length l
length-commands [] = refl
length-commands (d ∷ l) = ap suc (length-commands l)

-- A log without an entry of a site and round counts none.
no_entries : (j r : ℕ) (l : Log) → ((e : Entry) → Logged e l → e.site ≡ j → e.round ≡ r → ⊥) → entries j r l ≡ 0
unfolding entries
no_entries j r [] h = refl
no_entries j r (x ∷ l) h = omega (arith, ap one (absent (eqb x.site j && eqb x.round r) refl), no_entries j r l (λ e k. h e (inr k)))
  where
    absent : (b : Bool) → (eqb x.site j && eqb x.round r) ≡ b → b ≡ false
    absent true e =
        absurd (h x (inl refl) (eqb-true x.site j (left (eqb x.site j) (eqb x.round r) e)) (eqb-true x.round r (right (eqb x.site j) (eqb x.round r) e)))
    absent false e = refl

module _ (S : System) (f : ℕ) (sizes : Sizes S f) where
  open S use {machine, commands, rounds}

  -- A site has recorded at most as many deliveries as there are commands.
  list_room : (log : Log) (k : ℕ) (fast : Set) (list : List ℕ) (v : Traced S log k fast list)
      → ((h : History) → history S k log ≡ Some h → (m : ℕ) → fast m ≡ true → h.settled m ≡ false) → length list ≤ commands
  list_room log k fast list v h =
      omega (arith, alike-length machine v.alike, distinct-count commands l once below, count_le commands (contents l))
    where
      l : List ℕ
      l = v.past.sequence ++ members commands fast

      s : Sound S v.past
      s = history_sound S k log v.past v.at

      apart : (m : ℕ) (b : Bool) → contents (members commands fast) m ≡ b → v.past.settled m ≡ true → b ≡ false
      apart m true e z = absurd (never (v.past.settled m) z (h v.past v.at m (members_in commands fast m e).1))
      apart m false e z = refl

      once : distinct l ≡ true
      once = distinct_append v.past.sequence (members commands fast) s.once (members-distinct commands fast) (λ m z. apart m (contents (members commands fast) m) refl (s.member m z).1)

      below : (m : ℕ) → contents l m ≡ true → m < commands
      below m z =
          ⊎_elim (λ y. (s.member m y).0) (λ y. (members_in commands fast m y).0)
          (either (contents v.past.sequence m) (contents (members commands fast) m) (sym (contents-append v.past.sequence (members commands fast) m) ∙ z))

  module _ (w : World S) (good : Good S w) where
    -- What is pending at a site is not settled below its round.
    pending_new : (i : ℕ) (h : History) → history S (w.site i).round w.log ≡ Some h → (m : ℕ) → (w.site i).pending m ≡ true → h.settled m ≡ false
    pending_new i h e m p =
        ap (λ (x : History). x.settled m) (same_some (sym e ∙ (good.settled i).at)) ∙ ap (λ (x : Set). x m) (good.settled i).same
        ∙ not-true ((w.site i).delivered m) (right ((w.site i).received m) (not ((w.site i).delivered m)) ((good.pending i).inside m p))

    room_fast : (i m : ℕ) → ltb m commands ≡ true → (w.site i).pending m ≡ true → not ((w.site i).fast m) ≡ true → room S (w.site i) 1 ≡ true
    room_fast i m lm pm fm =
        le-leb (length (w.site i).ledger.deliveries + 1) commands
        (omega (
          arith,
          sym (length-commands ((w.site i).ledger.deliveries ++ new)),
          length-append (w.site i).ledger.deliveries new,
          list_room w.log (w.site i).round ((w.site i).fast ∪ only m) (commands_of ((w.site i).ledger.deliveries ++ new)) v
              (λ h e k z. pending_new i h e k (⊎_elim ((good.pending i).holds k) (λ y. ap (w.site i).pending (eqb-true k m y) ∙ pm) (either ((w.site i).fast k) (eqb k m) z))),
        ))
      where
        new : List (Delivery machine.Answer)
        new = record { command = m; answer = machine.answer (w.site i).ledger.state m } ∷ []

        v : Traced S w.log (w.site i).round ((w.site i).fast ∪ only m) (commands_of ((w.site i).ledger.deliveries ++ new))
        v = fast_traced S w.log (w.site i) m (ltb-true m commands lm) pm (not-true ((w.site i).fast m) fm) (good.pending i) (good.traced i)

    -- There is room for what a decided round delivers.
    room_end : (i : ℕ) → is_some (decision S (w.site i) w.log) ≡ true → room S (w.site i) (length (due S (tally_or (decision S (w.site i) w.log)) (w.site i))) ≡ true
    room_end i h =
        le-leb (length (w.site i).ledger.deliveries + length (due S t (w.site i))) commands
        (omega (
          arith,
          length-commands (w.site i).ledger.deliveries,
          ap length (fold_commands S (w.site i).ledger (due S t (w.site i))),
          length-append (commands_of (w.site i).ledger.deliveries) (due S t (w.site i)),
          list_room w.log (suc (w.site i).round) ∅ (commands_of (finish S t (w.site i)).ledger.deliveries) v (λ h e m z. absurd (never false z refl)),
        ))
      where
        t : Tally
        t = tally_or (decision S (w.site i) w.log)

        v : Traced S w.log (suc (w.site i).round) ∅ (commands_of (finish S (tally_or (decision S (w.site i) w.log)) (w.site i)).ledger.deliveries)
        v = finish_traced S f sizes w i (decision S (w.site i) w.log) refl h good.settled good.pending good.promises good.heard (good.traced i)

    -- Refusal 9 is never met.
    pub no_full : (t : Step) (r : Refusal) → judge S w t ≡ Err r → is_full r ≡ false
    no_full t r e = spared is_full (demands S w t) (full_spared t) r e
      where
        full_spared : (t : Step) → Spared is_full (demands S w t)
        full_spared (command i m) = unmentioned is_full (demands S w (command i m)) refl
        full_spared (acknowledgment i j r a) = unmentioned is_full (demands S w (acknowledgment i j r a)) refl
        full_spared (check i j r) = unmentioned is_full (demands S w (check i j r)) refl
        full_spared (false_acknowledgment i j r x) = unmentioned is_full (demands S w (false_acknowledgment i j r x)) refl
        full_spared (false_check i j r x) = unmentioned is_full (demands S w (false_check i j r x)) refl
        full_spared (false_entry j r nc c) = unmentioned is_full (demands S w (false_entry j r nc c)) refl
        full_spared (turn i) = unmentioned is_full (demands S w (turn i)) refl
        full_spared (fast_delivery i m) =
            (quiet, λ a. (quiet, λ b. (quiet, λ c. (quiet, λ d. (quiet, λ e. (quiet, λ g. ((λ z. room_fast i m b d e), λ z. tt)))))))
        full_spared (log_read i) = unmentioned is_full (demands S w (log_read i)) refl
        full_spared (round_end i) = (quiet, λ a. (quiet, λ b. (quiet, λ c. (quiet, λ d. ((λ z. room_end i d), λ z. tt)))))

    -- A correct site that acknowledges has no entry of its round in the log.
    unspoken : (i : ℕ) → correct S i ≡ true → is_acknowledging (w.site i).phase ≡ true → entries i (w.site i).round w.log ≡ 0
    unspoken i b c =
        no_entries i (w.site i).round w.log
        (λ x l ex er. ⊎_elim (λ z. omega arith) (λ z. not-waiting (w.site i).phase c z.1) ((good.promises i b).spoke x l ex))

    -- So its append is never a third entry.
    pub no_third : (i : ℕ) (r : Refusal) → judge S w (turn i) ≡ Err r → is_third r ≡ false
    no_third i r e =
        spared is_third (demands S w (turn i))
        (quiet, λ a. (quiet, λ b. (quiet, λ c. (quiet, λ d. ((λ z. or_true (acknowledges S (w.site i)) (ltb (entries i (w.site i).round w.log) 2) (first b c)), λ z. (quiet, λ y. tt))))))
        r e
      where
        first : correct S i ≡ true → is_acknowledging (w.site i).phase ≡ true → ltb (entries i (w.site i).round w.log) 2 ≡ true
        first b c = lt-ltb (entries i (w.site i).round w.log) 2 (omega (arith, unspoken i b c))

    -- In the round after the last that the log takes everything is delivered, so no turn is enabled there: refusal 8 is never met.
    pub no_last_round : Exchange machine → Limits S → Brought S w → (t : Step) (r : Refusal) → judge S w t ≡ Err r → is_last_round r ≡ false
    no_last_round law limits brought t r e = spared is_last_round (demands S w t) (rounds_spared t) r e
      where
        early : (i : ℕ) → any commands (unacknowledged S (w.site i)) ≡ true → leb (w.site i).round rounds ≡ true
        early i h =
            let z = any_some commands (unacknowledged S (w.site i)) h in
            let m = z.0 in
            let undelivered = (neither ((w.site i).delivered m) ((w.site i).pending m)
            (not-true ((w.site i).delivered m || (w.site i).pending m) (right ((w.site i).received m) (not ((w.site i).delivered m || (w.site i).pending m)) z.2))).0 in
            le-leb (w.site i).round rounds
            (omega (
              arith,
              limits.fits,
              limits.enough,
              round_delivered S f sizes law w good.settled brought i,
              count_split commands (λ k. true) (w.site i).delivered,
              count-all commands (λ k. true) (λ k l. refl),
              count_at commands (λ k. not ((w.site i).delivered k)) m z.1 (ap not undelivered),
            ))

        rounds_spared : (t : Step) → Spared is_last_round (demands S w t)
        rounds_spared (command i m) = unmentioned is_last_round (demands S w (command i m)) refl
        rounds_spared (acknowledgment i j r a) = unmentioned is_last_round (demands S w (acknowledgment i j r a)) refl
        rounds_spared (check i j r) = unmentioned is_last_round (demands S w (check i j r)) refl
        rounds_spared (false_acknowledgment i j r x) = unmentioned is_last_round (demands S w (false_acknowledgment i j r x)) refl
        rounds_spared (false_check i j r x) = unmentioned is_last_round (demands S w (false_check i j r x)) refl
        rounds_spared (false_entry j r nc c) = unmentioned is_last_round (demands S w (false_entry j r nc c)) refl
        rounds_spared (turn i) =
            (quiet, λ a. (quiet, λ b. (quiet, λ c. (quiet, λ d. (quiet, λ e. ((λ z. or_true (acknowledges S (w.site i)) (leb (w.site i).round rounds) (early i d)), λ z. tt))))))
        rounds_spared (fast_delivery i m) = unmentioned is_last_round (demands S w (fast_delivery i m)) refl
        rounds_spared (log_read i) = unmentioned is_last_round (demands S w (log_read i)) refl
        rounds_spared (round_end i) = unmentioned is_last_round (demands S w (round_end i)) refl

  -- The same of every run.
  pub never_refused : Exchange machine → Limits S → (steps : List Step) → NeverRefused S steps
  never_refused law limits steps =
      let w = play S (start S) steps in
      let good = good_play S f sizes steps in
      record { nine = no_full w good; third = no_third w good; eight = no_last_round w good law limits (brought_play S f sizes law steps) }
