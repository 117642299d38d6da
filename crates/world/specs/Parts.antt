-- What a function promises that is lent only some of the buffers.
-- Assumes nothing.
use Rattle.std.specs.Prelude.{◌≡◌, List, ℕ, ◌*◌, ◌<◌, length, get_or}
use Rattle.refusals.specs.Refusals.{Verdict}
use Rattle.wire.specs.Wire.{splice}
use Rattle.table.specs.declared.SiteTable.{SiteTable}
use Rattle.register.specs.declared.Command.{Command}
use Rattle.protocol.specs.World.{Step}
use Rattle.layout.specs.Layout.{site_at, site_size}
use Rattle.world.specs.World.{Buffers, GoodWorld, Outcome}

abbrev pub lent : List ℕ → List ℕ → ℕ → List ℕ → Buffers
lent sites log entries sent = record { sites = sites; log = log; entries = entries; sent = sent }

-- The bytes of site i became others, of which something is promised; no other site's changed.
pub record AtSite (i : ℕ) (promise : List ℕ → List ℕ → Type 0) (sites after : List ℕ) : Type 0 where
  pub new : List ℕ
  pub size : length new ≡ site_size
  pub bytes : after ≡ splice sites (i * site_size) new
  pub did : promise (site_at sites i) new

-- A step that changes sites only, by what was sent.
abbrev pub Arrived : SiteTable → ℕ → Step → List ℕ → List ℕ → Verdict → List ℕ → Type 0
Arrived t commands u sent sites v after =
    (book : List Command) (log : List ℕ) (entries : ℕ) → commands ≡ length book → GoodWorld t (length book) (lent sites log entries sent)
    → Outcome t book u (lent sites log entries sent) v (lent after log entries sent)

-- A step that changes the log only, which has n entries after it.
abbrev pub Entered : SiteTable → ℕ → Step → List ℕ → ℕ → Verdict → List ℕ → ℕ → Type 0
Entered t commands u log entries v after n =
    (book : List Command) (sites sent : List ℕ) → commands ≡ length book → GoodWorld t (length book) (lent sites log entries sent)
    → ((k : ℕ) → get_or sites k 0 < 256)
    → Outcome t book u (lent sites log entries sent) v (lent sites after n sent)
