-- What is never refused: the statement. It is proved in proofs/NeverRefused.antt.
-- Assumes nothing.
use Rattle.std.specs.Prelude.{◌≡◌, Bool, false, List, ℕ, eqb, Err}
use Rattle.refusals.specs.Refusals.{rank}
use Rattle.refusals.specs.declared.Refusal.{Refusal}
use Rattle.refusals.specs.declared.Refusal.TheVariants.{ThirdEntry, LastRound, Full}
use Rattle.protocol.specs.System.{System}
use Rattle.protocol.specs.World.{Step, turn, start, play, judge}

-- A full record of deliveries, a third entry, a turn in the last round that would propose: told by rank.
abbrev pub is_full : Refusal → Bool
is_full r = eqb (rank r) (rank Full)

abbrev pub is_third : Refusal → Bool
is_third r = eqb (rank r) (rank ThirdEntry)

abbrev pub is_last_round : Refusal → Bool
is_last_round r = eqb (rank r) (rank LastRound)

-- What no run meets.
pub record NeverRefused (S : System) (steps : List Step) : Type 0 where
  pub nine : (t : Step) (r : Refusal) → judge S (play S (start S) steps) t ≡ Err r → is_full r ≡ false
  pub third : (i : ℕ) (r : Refusal) → judge S (play S (start S) steps) (turn i) ≡ Err r → is_third r ≡ false
  pub eight : (t : Step) (r : Refusal) → judge S (play S (start S) steps) t ≡ Err r → is_last_round r ≡ false
