-- The quorum sizes of a system, and the commands that nAck sites, each faulty or having acknowledged them in a round, vouch for.
-- Rests on Promises.
use Rattle.std.specs.Prelude.{Bool, ◌||◌, List, ℕ, ◌≤◌}
use Rattle.theory.specs.Sets.{Set, count}
use Rattle.theory.specs.Quorums.{Quorums}
use Rattle.protocol.specs.System.{System}
use Rattle.agreement.specs.Promises.{said}

-- The quorum sizes of a system with at most f faulty sites.
pub record Sizes (S : System) (f : ℕ) : Type 0 where
  pub few : count S.sites S.faulty ≤ f
  pub quorums : Quorums S.sites f S.n_ack S.n_chk S.majority

module _ (S : System) where
  open S use {machine, commands, sites, faulty, n_ack, n_chk, majority}

  -- The sites that vouch for m in round r.
  abbrev pub vouches : (ℕ → ℕ → List Set) → ℕ → ℕ → ℕ → Bool
  vouches acks r m j = faulty j || said (acks j r) m

  abbrev pub Acked : (ℕ → ℕ → List Set) → ℕ → ℕ → Type 0
  Acked acks r m = n_ack ≤ count sites (vouches acks r m)
