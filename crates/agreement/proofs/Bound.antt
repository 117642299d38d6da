-- The bound on rounds: each decided round brings at least two commands that were not settled before, so a site's round is at most
-- capacity / 2 + 1. Rests on Brought and Invariant.
use Rattle.std.specs.Prelude.{◌≡◌, refl, Bool, true, false, ◌&&◌, ◌||◌, not, List, ◌≢◌, ℕ, zero, suc, ◌+◌, ◌*◌, ◌≤◌, ◌<◌, eqb, Some}
use Rattle.std.proofs.Common.{sym, ◌∙◌, ap, arith, eqb-true, eq-eqb}
use Rattle.theory.specs.Sets.{Set, ◌∪◌, count}
use Rattle.theory.specs.Counting.{both, true_or, or_true, never, any_at, count_le, count_mono, count_split, count_at, correct_member}
use Rattle.theory.specs.Machine.{Exchange}
use Rattle.protocol.specs.System.{System, correct}
use Rattle.protocol.specs.Recovery.{Standing, absent, valid, excluded, is_valid, nc_of, c_of, Tally, decide, nc_set, c_set}
use Rattle.protocol.specs.StandingLaws.{Backed, Backing, same_some}
use Rattle.protocol.proofs.StandingLaws.{decided_backed}
use Rattle.protocol.specs.RecoveryLaws.{decided_count, proposed_decided}
use Rattle.protocol.specs.World.{World, Step, start, play}
use Rattle.protocol.specs.Steps.{play_keeps}
use Rattle.agreement.specs.History.{History, extend, history, history_last, AllSettled, settled-start, settled_keeps}
use Rattle.agreement.specs.Acked.{Sizes}
use Rattle.agreement.specs.Brought.{Brought, brought_start, brought_keeps}
use Rattle.agreement.proofs.Invariant.{good_play}
use Rattle.agreement.specs.Bound.{Limits}

-- Two different members make a count of at least two.
count_pair : (n : ℕ) (p : Set) (a b : ℕ) → a < n → b < n → a ≢ b → p a ≡ true → p b ≡ true → 2 ≤ count n p
count_pair n p a b la lb d ha hb =
    omega (
      arith,
      count_split n p (λ m. eqb m a),
      count_at n (λ m. p m && eqb m a) a la (both (p a) (eqb a a) ha (eq-eqb a a refl)),
      count_at n (λ m. p m && not (eqb m a)) b lb (both (p b) (not (eqb b a)) hb (ap not (other (eqb b a) refl))),
    )
  where
    other : (c : Bool) → eqb b a ≡ c → c ≡ false
    other true e = absurd (d (sym (eqb-true b a e)))
    other false e = refl

-- A set that has two members more is larger by two.
count_two : (n : ℕ) (p q : Set) (a b : ℕ) → a < n → b < n → a ≢ b → ((m : ℕ) → m < n → p m ≡ true → q m ≡ true)
    → p a ≡ false → p b ≡ false → q a ≡ true → q b ≡ true → count n p + 2 ≤ count n q
count_two n p q a b la lb d sub pa pb qa qb =
    omega (
      arith,
      count_split n q p,
      count_mono n p (λ m. q m && p m) (λ m l h. both (q m) (p m) (sub m l h) h),
      count_pair n (λ m. q m && not (p m)) a b la lb d (both (q a) (not (p a)) qa (ap not pa)) (both (q b) (not (p b)) qb (ap not pb)),
    )

module _ (S : System) (f : ℕ) (sizes : Sizes S f) (law : Exchange S.machine) where
  open S use {machine, commands, sites, faulty, n_chk, rounds}

  -- Two commands that conflict are different.
  apart : (a b : ℕ) → machine.conflict a b ≡ true → a ≢ b
  apart a b h e = never (machine.conflict a b) h (ap (machine.conflict a) (sym e) ∙ law.irreflexive a)

  -- A decided round has a correct valid source, whose entry brings two commands that were not settled before.
  pub round_brings : (w : World S) → Brought S w → (k : ℕ) (g : History) (t : Tally) → history S k w.log ≡ Some g → decide S k w.log ≡ Some t
      → count commands g.settled + 2 ≤ count commands (extend S g t).settled
  round_brings w v k g t eg et =
      let z = correct_member sites f (λ j. is_valid (t j)) faulty sizes.few (omega (arith, sizes.quorums.correct, decided_count S k w.log t et)) in
      source z.0 z.1 (ap not z.3) (t z.0) refl z.2 (decided_backed S k w.log t et z.0)
    where
      grown : (b : ℕ) → g.settled b ≡ true → (g.settled b || (nc_set S t ∪ c_set S t) b) ≡ true
      grown b h = true_or (g.settled b) ((nc_set S t ∪ c_set S t) b) h

      source : (j : ℕ) → j < sites → correct S j ≡ true → (s : Standing) → t j ≡ s → is_valid s ≡ true → Backed S j k w.log s
          → count commands g.settled + 2 ≤ count commands (extend S g t).settled
      source j l c absent e h b = absurd (never false h refl)
      source j l c excluded e h b = absurd (never false h refl)
      source j l c (valid nc cs) e h b =
          let p = v b.1.entry b.1.logged (ap (correct S) b.1.source ∙ c) in
          let same : p.past ≡ g = same_some (sym p.at ∙ ap (λ (r : ℕ). history S r w.log) b.1.at ∙ eg) in
          count_two commands g.settled (extend S g t).settled p.one p.two p.below.0 p.below.1 (apart p.one p.two p.conflict)
          (λ m l h. grown m h)
          (ap (λ (x : History). x.settled p.one) (sym same) ∙ p.new.0) (ap (λ (x : History). x.settled p.two) (sym same) ∙ p.new.1)
          (decided p.one b.1 p.proposed.0) (decided p.two b.1 p.proposed.1)
        where
          decided : (m : ℕ) (k : Backing j k nc cs w.log) → (k.entry.nc ∪ k.entry.c) m ≡ true → (g.settled m || (nc_set S t ∪ c_set S t) m) ≡ true
          decided m k h =
              or_true (g.settled m) ((nc_set S t ∪ c_set S t) m)
              (proposed_decided S t m
              (any_at sites (λ j. nc_of (t j) m || c_of (t j) m) j l
              (ap (λ (s : Standing). nc_of s m || c_of s m) e ∙ (λ i. sym k.same_nc i m || sym k.same_c i m) ∙ h)))

  settled-count : (w : World S) → Brought S w → (k : ℕ) (h : History) → history S (suc k) w.log ≡ Some h → 2 * k ≤ count commands h.settled
  settled-count w v zero h e = omega arith
  settled-count w v (suc k) h e =
      let z = history_last S k w.log h e in
      let n = settled-count w v k z.0 z.2 in
      let m = round_brings w v (suc k) z.0 z.1 z.2 z.3 in
      let q = ap (λ (x : History). count commands x.settled) z.4 in
      omega arith

  pub brought_play : (l : List Step) → Brought S (play S (start S) l)
  brought_play l = pair.1
    where
      pair : AllSettled S (play S (start S) l) × Brought S (play S (start S) l)
      pair =
          play_keeps S (λ (w : World S). AllSettled S w × Brought S w) (λ w t g h. (settled_keeps S w t g.0 h, brought_keeps S w t g.0 g.1 h)) (start S) l
          (settled-start S, brought_start S)

  -- What a site has delivered in the rounds before its own is at least two commands a round.
  pub round_delivered : (w : World S) → AllSettled S w → Brought S w → (i : ℕ) → 2 * (w.site i).round ≤ count commands (w.site i).delivered + 2
  round_delivered w g v i = go (w.site i).round (g i).past (g i).at (g i).same
    where
      go : (k : ℕ) (h : History) → history S k w.log ≡ Some h → h.settled ≡ (w.site i).delivered → 2 * k ≤ count commands (w.site i).delivered + 2
      go zero h e q = omega arith
      go (suc k) h e q = omega (arith, settled-count w v k h e, ap (count commands) q)

  -- A site's round is at most one more than the last round of the log.
  pub round_bound : Limits S → (steps : List Step) (i : ℕ) → ((play S (start S) steps).site i).round ≤ suc rounds
  round_bound limits steps i =
      omega (
        arith,
        limits.fits,
        limits.enough,
        count_le commands ((play S (start S) steps).site i).delivered,
        round_delivered (play S (start S) steps) (good_play S f sizes steps).settled (brought_play steps) i,
      )
