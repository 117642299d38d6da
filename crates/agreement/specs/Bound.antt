-- The limits within which a site's round is bounded.
-- Assumes nothing.
use Rattle.std.specs.Prelude.{◌*◌, ◌≤◌}
use Rattle.protocol.specs.System.{System}

-- A book fits the sets, and the log has rounds enough for it.
pub record Limits (S : System) : Type 0 where
  pub fits : S.commands ≤ S.capacity
  pub enough : S.capacity ≤ 2 * S.rounds
