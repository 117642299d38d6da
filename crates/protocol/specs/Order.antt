-- The demands of each step stand in document 01's order of refusals.
-- Assumes nothing.
use Rattle.std.specs.Prelude.{◌≡◌, refl, Bool, true, ◌&&◌, ℕ, leb}
use Rattle.refusals.specs.Refusals.{rank}
use Rattle.protocol.specs.System.{System, Demands, granted, ◌else◌⨾◌}
use Rattle.protocol.specs.World.{World, Step, command, acknowledgment, check, false_acknowledgment, false_check, false_entry, turn, fast_delivery, log_read, round_end, demands}

-- No demand comes after one of a higher rank.
abbrev pub ordered : ℕ → Demands → Bool
ordered k granted = true
ordered k (b else r ⨾ ds) = leb k (rank r) && ordered (rank r) ds

module _ (S : System) where
  pub in_order : (w : World S) (t : Step) → ordered 0 (demands S w t) ≡ true
  in_order w (command i m) = refl
  in_order w (acknowledgment i j r a) = refl
  in_order w (check i j r) = refl
  in_order w (false_acknowledgment i j r x) = refl
  in_order w (false_check i j r x) = refl
  in_order w (false_entry j r nc c) = refl
  in_order w (turn i) = refl
  in_order w (fast_delivery i m) = refl
  in_order w (log_read i) = refl
  in_order w (round_end i) = refl
