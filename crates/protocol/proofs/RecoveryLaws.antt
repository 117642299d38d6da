-- NC rests on a majority of the valid sets: it is free of conflicts, and NC and C hold no command that no valid set has.
-- Rests on the laws of the decision and the quorum lemma.
use Rattle.std.specs.Prelude.{◌≡◌, Bool, ◌&&◌, ◌||◌, not, ℕ, ◌*◌, ◌≤◌, ◌<◌, Some}
use Rattle.std.proofs.Math.Path.{refl}
use Rattle.std.proofs.Common.{⊎_elim, arith}
use Rattle.std.proofs.Math.Bool.{true, false}
use borrow.Author.Tests.{leb-true}
use Rattle.theory.specs.Sets.{◌∪◌, count}
use Rattle.theory.specs.Counting.{left, right, true_or, either, never, any_at, count_mono, count-some, count-sum}
use Rattle.protocol.specs.System.{System, free}
use Rattle.protocol.specs.Recovery.{Log, Standing, absent, valid, excluded, is_valid, nc_of, c_of, Tally, decide, nc_set, proposed, c_set}
use Rattle.protocol.specs.StandingLaws.{Backed}
use Rattle.protocol.proofs.StandingLaws.{decided_backed}
use Rattle.protocol.specs.RecoveryLaws.{free_pair, free_of, decided_count}

module _ (S : System) where
  open S use {machine, commands, sites, n_chk, majority}

  -- A source that has a command in its NC is valid.
  nc_valid : (s : Standing) (m : ℕ) → nc_of s m ≡ true → is_valid s ≡ true
  nc_valid absent m h = h
  nc_valid (valid nc c) m h = refl
  nc_valid excluded m h = h

  -- Two commands in the NC of a source that is valid in a decision do not conflict.
  nc_pair : (r : ℕ) (l : Log) (d : Tally) → decide S r l ≡ Some d → (j a b : ℕ) → a < commands → b < commands
      → nc_of (d j) a ≡ true → nc_of (d j) b ≡ true → machine.conflict a b ≡ false
  nc_pair r l d h j a b la lb = go (d j) (decided_backed S r l d h j)
    where
      go : (s : Standing) → Backed S j r l s → nc_of s a ≡ true → nc_of s b ≡ true → machine.conflict a b ≡ false
      go absent k ha hb = absurd (never false ha refl)
      go (valid nc c) k ha hb = free_pair S nc k.0 a b la lb ha hb
      go excluded k ha hb = absurd (never false ha refl)

  -- A command of NC is in a majority of the valid NC sets.
  pub nc_majority : (d : Tally) (m : ℕ) → nc_set S d m ≡ true → majority ≤ count sites (λ j. nc_of (d j) m)
  nc_majority d m h = omega (arith, leb-true)

  -- Two majorities of the valid sources have one in common, so no two commands of NC conflict.
  pub nc_free : n_chk < 2 * majority → (r : ℕ) (l : Log) (d : Tally) → decide S r l ≡ Some d → free S (nc_set S d) ≡ true
  nc_free q r l d h = free_of S (nc_set S d) pair
    where
      pair : (a b : ℕ) → a < commands → b < commands → nc_set S d a ≡ true → nc_set S d b ≡ true → machine.conflict a b ≡ false
      pair a b la lb ha hb =
          let pa : ℕ → Bool = λ j. nc_of (d j) a in
          let pb : ℕ → Bool = λ j. nc_of (d j) b in
          let ka = nc_majority d a ha in
          let kb = nc_majority d b hb in
          let few = count_mono sites (λ j. pa j || pb j) (λ j. is_valid (d j))
          (λ j lj hj. ⊎_elim (nc_valid (d j) a) (nc_valid (d j) b) (either (pa j) (pb j) hj)) in
          let w = count-some sites (λ j. pa j && pb j) (omega (arith, count-sum sites pa pb, decided_count S r l d h)) in
          nc_pair r l d h w.0 a b la lb (left (pa w.0) (pb w.0) w.2) (right (pa w.0) (pb w.0) w.2)

  -- NC and C hold no command that no valid set has.
  pub decided_proposed : 0 < majority → (d : Tally) (m : ℕ) → (nc_set S d ∪ c_set S d) m ≡ true → proposed S d m ≡ true
  decided_proposed q d m h = ⊎_elim from_nc (left (proposed S d m) (not (nc_set S d m))) (either (nc_set S d m) (c_set S d m) h)
    where
      from_nc : nc_set S d m ≡ true → proposed S d m ≡ true
      from_nc k =
          let few = nc_majority d m k in
          let w = count-some sites (λ j. nc_of (d j) m) (omega arith) in
          any_at sites (λ j. nc_of (d j) m || c_of (d j) m) w.0 w.1 (true_or (nc_of (d w.0) m) (c_of (d w.0) m) w.2)
