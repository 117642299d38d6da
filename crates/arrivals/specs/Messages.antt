-- What is asked of every message, whoever sent it.
-- Assumes nothing.
use Rattle.std.specs.Prelude.{Bool, ◌&&◌, not, ℕ, leb, ltb, Err}
use Rattle.refusals.specs.Refusals.{Verdict, accepted}
use Rattle.refusals.specs.declared.Refusal.TheVariants.{Range, Role}
use Rattle.theory.specs.Sets.{pick}
use Rattle.table.specs.declared.SiteTable.{SiteTable}
use Rattle.table.specs.Table.{faulty_of}
use Rattle.layout.specs.Layout.{site_rounds}

-- The receiver, the sender and the round are in range.
abbrev pub in_ranges : SiteTable → ℕ → ℕ → ℕ → Bool
in_ranges t i j r = ltb i t.sites && ltb j t.sites && leb 1 r && leb r site_rounds

-- The verdict on a message from j to i, by whether its other operands are in range and whether its sender has the role that it is to have.
abbrev pub message_verdict : SiteTable → ℕ → ℕ → ℕ → Bool → Bool → Verdict
message_verdict t i j r other role =
    pick (in_ranges t i j r && other) (pick (not (faulty_of t i) && role) accepted (Err Role)) (Err Range)
