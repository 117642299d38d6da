-- How much a run writes: at most as many acknowledgments of a site in a round as there are commands, and at most two log entries a site and round.
-- Rests on Invariant.
use Rattle.std.specs.Prelude.{◌≡◌, refl, Bool, true, false, ◌&&◌, ◌||◌, not, List, [], ◌∷◌, ◌++◌, ◌⊎◌, ℕ, zero, suc, ◌+◌, ◌*◌, ◌≤◌, ◌<◌, eqb, leb, ltb, length}
use Rattle.std.proofs.Common.{◌∙◌, ap, subst, inl, inr, ⊎_elim, suc-mul, length-append, eqb-true, eq-eqb, ltb-true, leb-true}
use native.Mathlib.Omega.{arith}
use Rattle.theory.specs.Sets.{Set, pick, one, count}
use Rattle.theory.specs.Counting.{both, left, right, true_or, or_true, neither, never, not-true, last_or_below, any_some, count_le, count_mono, count_split, count_at}
use Rattle.protocol.specs.System.{System}
use Rattle.protocol.specs.Recovery.{Entry, Log, entries}
use Rattle.protocol.specs.StandingLaws.{entries-more}
use Rattle.protocol.specs.Site.{undelivered, unacknowledged, acknowledges}
use Rattle.protocol.specs.World.{World, Step, command, acknowledgment, check, false_acknowledgment, false_check, false_entry, turn, fast_delivery, log_read, round_end, start, play, demands, change, entry_of, acknowledging_turn, proposing_turn}
use Rattle.protocol.specs.Steps.{Met, play_keeps, turn_keeps}
use Rattle.agreement.specs.History.{history_positive}
use Rattle.agreement.specs.Promises.{said, said_more}
use Rattle.agreement.specs.Acked.{Sizes}
use Rattle.agreement.proofs.Invariant.{Good, good_start, good_keeps}

-- ---- sums

-- The sum of f over the numbers below n.
abbrev sum : ℕ → (ℕ → ℕ) → ℕ
sum zero f = 0
sum (suc n) f = sum n f + f n

sum_mono : (n : ℕ) (f g : ℕ → ℕ) → ((m : ℕ) → m < n → f m ≤ g m) → sum n f ≤ sum n g
sum_mono zero f g h = omega arith
sum_mono (suc n) f g h = omega (arith, sum_mono n f g (λ m l. h m (omega arith)), h n (omega arith))

-- One place that is larger by one makes the sum larger by one.
sum_one : (n : ℕ) (f g : ℕ → ℕ) (a : ℕ) → a < n → ((m : ℕ) → m < n → f m ≤ g m) → f a + 1 ≤ g a → sum n f + 1 ≤ sum n g
sum_one zero f g a l h k = absurd (omega arith)
sum_one (suc n) f g a l h k = go (last_or_below a n l) (λ b. sum_one n f g a b (λ m z. h m (omega arith)) k)
  where
    go : (a ≡ n) ⊎ (a < n) → (a < n → sum n f + 1 ≤ sum n g) → (sum n f + f n) + 1 ≤ sum n g + g n
    go (inl e) r =
        let here : f n + 1 ≤ g n = subst (λ (x : ℕ). f x + 1 ≤ g x) e k in
        omega (arith, sum_mono n f g (λ m z. h m (omega arith)))
    go (inr b) r = omega (arith, r b, h n (omega arith))

-- A sum of numbers that are at most c.
sum_most : (n c : ℕ) (f : ℕ → ℕ) → ((m : ℕ) → m < n → f m ≤ c) → sum n f ≤ n * c
sum_most zero c f h = omega arith
sum_most (suc n) c f h =
    let step : suc n * c ≡ n * c + c = suc-mul n c in
    omega (arith, sum_most n c f (λ m l. h m (omega arith)), h n (omega arith))

module _ (S : System) where
  open S use {commands, sites, rounds}

  pub record Capacity (acks : ℕ → ℕ → List Set) (log : Log) : Type 0 where
    -- each acknowledgment of a round brought a command more
    pub said : (j r : ℕ) → length (acks j r) ≤ count commands (said (acks j r))
    -- at most two entries of a site in a round
    pub twice : (j r : ℕ) → entries j r log ≤ 2
    -- all entries are in range
    pub within : length log ≤ sum sites (λ j. sum rounds (λ r. entries j (suc r) log))

  abbrev pub CapacityAt : World S → Type 0
  CapacityAt w = Capacity w.acks w.log

  -- The log with an entry in range more, of a site that has fewer than two of that round.
  append-within : (acks : ℕ → ℕ → List Set) (log : Log) (e : Entry) → e.site < sites → 1 ≤ e.round → e.round ≤ rounds
      → entries e.site e.round log < 2 → Capacity acks log → Capacity acks (log ++ (e ∷ []))
  append-within acks log e ls l1 lr few v =
      record {
        said = v.said;
        twice = λ j r. two j r (eqb e.site j && eqb e.round r) refl (entries-more j r log e);
        within =
            let n = length-append log (e ∷ []) in
            omega (
              arith,
              v.within,
              sum_one sites (λ j. sum rounds (λ r. entries j (suc r) log)) (λ j. sum rounds (λ r. entries j (suc r) (log ++ (e ∷ [])))) e.site ls
                  (λ j l. sum_mono rounds (λ r. entries j (suc r) log) (λ r. entries j (suc r) (log ++ (e ∷ []))) (λ r k. grows j (suc r)))
                  (here e.round refl l1 lr),
            );
      }
    where
      grows : (j r : ℕ) → entries j r log ≤ entries j r (log ++ (e ∷ []))
      grows j r = omega (arith, entries-more j r log e)

      two : (j r : ℕ) (b : Bool) → (eqb e.site j && eqb e.round r) ≡ b → entries j r (log ++ (e ∷ [])) ≡ entries j r log + one b → entries j r (log ++ (e ∷ [])) ≤ 2
      two j r true eb n =
          let ej = eqb-true e.site j (left (eqb e.site j) (eqb e.round r) eb) in
          let er = eqb-true e.round r (right (eqb e.site j) (eqb e.round r) eb) in
          let f : entries j r log < 2 = subst (λ (x : ℕ). entries x r log < 2) ej (subst (λ (x : ℕ). entries e.site x log < 2) er few) in
          omega arith
      two j r false eb n = omega (arith, v.twice j r)

      same : (eqb e.site e.site && eqb e.round e.round) ≡ true
      same = both (eqb e.site e.site) (eqb e.round e.round) (eq-eqb e.site e.site refl) (eq-eqb e.round e.round refl)

      more : entries e.site e.round log + 1 ≤ entries e.site e.round (log ++ (e ∷ []))
      more = omega (arith, entries-more e.site e.round log e, ap one same)

      here : (k : ℕ) → e.round ≡ k → 1 ≤ k → k ≤ rounds → sum rounds (λ r. entries e.site (suc r) log) + 1 ≤ sum rounds (λ r. entries e.site (suc r) (log ++ (e ∷ [])))
      here zero q h l = absurd (omega arith)
      here (suc k) q h l =
          sum_one rounds (λ r. entries e.site (suc r) log) (λ r. entries e.site (suc r) (log ++ (e ∷ []))) k (omega arith) (λ r z. grows e.site (suc r))
          (subst (λ (x : ℕ). entries e.site x log + 1 ≤ entries e.site x (log ++ (e ∷ []))) q more)

  -- One acknowledgment more, of a set with a command that was not said before.
  acks_within : (w : World S) (i k : ℕ) (x : Set) (m : ℕ) → m < commands → x m ≡ true → said (w.acks i k) m ≡ false → CapacityAt w
      → Capacity (λ j r. pick (eqb j i && eqb r k) (w.acks j r ++ (x ∷ [])) (w.acks j r)) w.log
  acks_within w i k x m lm hx hs v =
      record { said = λ j r. go j r (eqb j i && eqb r k) refl; twice = v.twice; within = v.within }
    where
      larger : (l : List Set) → said l m ≡ false → length l ≤ count commands (said l) → length (l ++ (x ∷ [])) ≤ count commands (said (l ++ (x ∷ [])))
      larger l h n =
          omega (
            arith,
            length-append l (x ∷ []),
            count_split commands (said (l ++ (x ∷ []))) (said l),
            count_mono commands (said l) (λ a. said (l ++ (x ∷ [])) a && said l a)
                (λ a b z. both (said (l ++ (x ∷ [])) a) (said l a) (said_more l x a ∙ true_or (said l a) (x a) z) z),
            count_at commands (λ a. said (l ++ (x ∷ [])) a && not (said l a)) m lm
                (both (said (l ++ (x ∷ [])) m) (not (said l m)) (said_more l x m ∙ or_true (said l m) (x m) hx) (ap not h)),
          )

      go : (j r : ℕ) (b : Bool) → (eqb j i && eqb r k) ≡ b
          → length (pick b (w.acks j r ++ (x ∷ [])) (w.acks j r)) ≤ count commands (said (pick b (w.acks j r ++ (x ∷ [])) (w.acks j r)))
      go j r true e =
          let ej = eqb-true j i (left (eqb j i) (eqb r k) e) in
          let er = eqb-true r k (right (eqb j i) (eqb r k) e) in
          larger (w.acks j r) ((λ z. said (w.acks (ej z) (er z)) m) ∙ hs) (v.said j r)
      go j r false e = v.said j r

  pub capacity-start : CapacityAt (start S)
  unfolding entries
  capacity-start = record { said = λ j r. omega arith; twice = λ j r. omega arith; within = omega arith }

  turn_capacity : (w : World S) (i : ℕ) → Good S w → CapacityAt w → Met (demands S w (turn i)) → CapacityAt (change S w (turn i))
  turn_capacity w i g v h =
      turn_keeps S CapacityAt (acknowledges S (w.site i)) {w = acknowledging_turn S i (w.site i) w} {v = proposing_turn S i (w.site i) w}
      (λ e. acks_within w i (w.site i).round (undelivered S (w.site i)) m z.1 fresh unsaid v)
      (λ e. append-within w.acks w.log (entry_of S i (w.site i)) (ltb-true i sites h.0)
      (history_positive S (w.site i).round w.log (g.settled i).past (g.settled i).at)
      (leb-true (w.site i).round rounds (second (acknowledges S (w.site i)) (leb (w.site i).round rounds) e h.1.1.1.1.1.0))
      (ltb-true (entries i (w.site i).round w.log) 2 (second (acknowledges S (w.site i)) (ltb (entries i (w.site i).round w.log) 2) e h.1.1.1.1.0)) v)
    where
      second : (a b : Bool) → a ≡ false → (a || b) ≡ true → b ≡ true
      second true b e k = absurd (never true refl e)
      second false b e k = k

      z : (m : ℕ) × (m < commands) × (unacknowledged S (w.site i) m ≡ true)
      z = any_some commands (unacknowledged S (w.site i)) h.1.1.1.0

      m : ℕ
      m = z.0

      outside : ((w.site i).delivered m ≡ false) × ((w.site i).pending m ≡ false)
      outside =
          neither ((w.site i).delivered m) ((w.site i).pending m)
          (not-true ((w.site i).delivered m || (w.site i).pending m) (right ((w.site i).received m) (not ((w.site i).delivered m || (w.site i).pending m)) z.2))

      fresh : undelivered S (w.site i) m ≡ true
      fresh = both ((w.site i).received m) (not ((w.site i).delivered m)) (left ((w.site i).received m) (not ((w.site i).delivered m || (w.site i).pending m)) z.2) (ap not outside.0)

      unsaid : said (w.acks i (w.site i).round) m ≡ false
      unsaid = go (said (w.acks i (w.site i).round) m) refl
        where
          go : (b : Bool) → said (w.acks i (w.site i).round) m ≡ b → b ≡ false
          go true e =
              absurd (⊎_elim (λ y. omega arith) (λ y. never ((w.site i).pending m) y.1 outside.1) ((g.promises i h.1.0).current (w.site i).round m e))
          go false e = refl

  pub capacity_keeps : (w : World S) (t : Step) → Good S w → CapacityAt w → Met (demands S w t) → CapacityAt (change S w t)
  capacity_keeps w (command i m) g v h = v
  capacity_keeps w (acknowledgment i j r a) g v h = v
  capacity_keeps w (check i j r) g v h = v
  capacity_keeps w (false_acknowledgment i j r x) g v h = v
  capacity_keeps w (false_check i j r x) g v h = v
  capacity_keeps w (false_entry j r nc c) g v h =
      append-within w.acks w.log (record { site = j; round = r; nc = nc; c = c }) (ltb-true j sites h.0) (leb-true 1 r h.1.0) (leb-true r rounds h.1.1.0)
      (ltb-true (entries j r w.log) 2 h.1.1.1.1.1.1.0) v
  capacity_keeps w (turn i) g v h = turn_capacity w i g v h
  capacity_keeps w (fast_delivery i m) g v h = v
  capacity_keeps w (log_read i) g v h = v
  capacity_keeps w (round_end i) g v h = v

  module _ (f : ℕ) (sizes : Sizes S f) (steps : List Step) where
    pub capacity-play : CapacityAt (play S (start S) steps)
    capacity-play =
        (play_keeps S (λ (w : World S). Good S w × CapacityAt w) (λ w t v h. (good_keeps S f sizes w t v.0 h, capacity_keeps w t v.0 v.1 h)) (start S) steps
        (good_start S, capacity-start)).1

    -- A site sends at most as many acknowledgments in a round as there are commands.
    pub acks_bound : (j r : ℕ) → length ((play S (start S) steps).acks j r) ≤ commands
    acks_bound j r = omega (arith, capacity-play.said j r, count_le commands (said ((play S (start S) steps).acks j r)))

    -- The log has at most two entries a site and round.
    pub log_bound : length (play S (start S) steps).log ≤ sites * (rounds * 2)
    log_bound =
        omega (
          arith,
          capacity-play.within,
          sum_most sites (rounds * 2) (λ j. sum rounds (λ r. entries j (suc r) (play S (start S) steps).log))
              (λ j l. sum_most rounds 2 (λ r. entries j (suc r) (play S (start S) steps).log) (λ r k. capacity-play.twice j (suc r))),
        )
