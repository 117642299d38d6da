-- A site that lent bytes can hold.
-- Assumes nothing.
use Rattle.std.specs.Prelude.{◌≡◌, Bool, false, List, [], ◌∷◌, ℕ, ◌^◌, ◌≤◌, ◌<◌, ℤ, length}
use Rattle.std.specs.Int.{w32}
use Rattle.std.proofs.Common.{SFits}
use Rattle.theory.specs.Machine.{Delivery}
use Rattle.sets.specs.Sets.{capacity}
use Rattle.table.specs.declared.SiteTable.{SiteTable}
use Rattle.register.specs.declared.Command.{Command}
use Rattle.register.specs.Register.{Within}
use Rattle.register.specs.Lent.{Sized}
use Rattle.protocol.specs.Site as protocol
use Rattle.protocol.specs.Site.{acknowledging, waiting}
use Rattle.system.specs.Dash.{dash}
use Rattle.layout.specs.Layout.{in_table}

-- A set without a command that a word has no bit for.
abbrev pub Held : (ℕ → Bool) → Type 0
Held x = (m : ℕ) → capacity ≤ m → x m ≡ false

abbrev pub HeldPhase : protocol.Phase → Type 0
HeldPhase acknowledging = Unit {0}
HeldPhase (waiting p) = Held p.nc × Held p.c

-- Commands of 1 byte and answers of 4.
abbrev pub HeldDeliveries : List (Delivery ℤ) → Type 0
HeldDeliveries [] = Unit {0}
HeldDeliveries (d ∷ ds) = (d.command < 2 ^ 8) × SFits w32 d.answer × HeldDeliveries ds

-- With k rows in its table of sets heard.
pub record InRange (t : SiteTable) (book : List Command) (k : ℕ) (s : protocol.Site (dash t book)) : Type 0 where
  pub span : k < 2 ^ 16
  pub received : Held s.received
  pub delivered : Held s.delivered
  pub pending : Held s.pending
  pub fast : Held s.fast
  pub round : s.round < 2 ^ 8
  pub phase : HeldPhase s.phase
  pub position : s.position < 2 ^ 16
  -- nothing is heard but of 11 senders and of rounds that there are rows for
  pub heard : (j r : ℕ) → Held (s.heard j r)
  pub silent : (j r m : ℕ) → in_table k j r ≡ false → s.heard j r m ≡ false
  pub readings : Within s.ledger.state
  pub register : Sized s.ledger.state
  pub few : length s.ledger.deliveries ≤ capacity
  pub deliveries : HeldDeliveries s.ledger.deliveries
