-- The inequalities between the number of sites, of faults, and the quorum sizes, on which agreement rests.
-- Assumes nothing.
use Rattle.std.specs.Prelude.{ℕ, ◌+◌, ◌*◌, ◌≤◌, ◌<◌}

-- For n sites of which at most f are faulty: nAck acknowledgments deliver fast, nChk valid entries decide a round,
-- and what a majority of them has among its non-conflicting commands is decided as such.
pub record Quorums (n f n_ack n_chk majority : ℕ) : Type 0 where
  -- what nAck sites acknowledged is in a majority of any nChk entries, faulty sites aside
  pub covers : n + f + majority ≤ n_ack + n_chk
  -- two majorities of nChk entries have one in common
  pub overlap : n_chk < 2 * majority
  -- two sets of nAck sites have a correct one in common
  pub common : n + f < 2 * n_ack
  -- nChk entries have one of a correct site
  pub correct : f < n_chk
  -- the correct sites alone are enough for both
  pub reachable : (n_ack + f ≤ n) × (n_chk + f ≤ n)
