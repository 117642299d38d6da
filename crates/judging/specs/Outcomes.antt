-- What a call answers and leaves. It asks a list of demands: taken, it answers 0 and leaves what the step makes; refused, it answers the
-- number of the first demand that does not hold, and everything is as it was.
-- Assumes nothing.
use Rattle.std.specs.Prelude.{ℕ, Err, Ok}
use Rattle.refusals.specs.Refusals.{Verdict}
use Rattle.refusals.specs.Refusals.{number_of}
use Rattle.protocol.specs.System.{Demands, granted, ◌else◌⨾◌}

-- The number that a call answers, and what it leaves of the buffers that it may write.
pub record Outcome (A : Type 0) : Type 0 where
  pub code : ℕ
  pub left : A

abbrev pub outcome : {A : Type 0} → ℕ → A → Outcome A
outcome k a = record { code = k; left = a }

-- The outcome of a call by its verdict: what the step makes, or what was there before.
abbrev pub answered : {A : Type 0} → Verdict → (later before : A) → Outcome A
answered (Ok _) later before = outcome 0 later
answered (Err r) later before = outcome (number_of r) before

-- Some demands, and after them others.
infixr 20 ◌then◌
abbrev pub ◌then◌ : Demands → Demands → Demands
◌then◌ granted e = e
◌then◌ (t else r ⨾ d) e = t else r ⨾ ◌then◌ d e
