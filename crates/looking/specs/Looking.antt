-- The calls that look at a lent site and write what they find: what each answers and leaves of the buffer for it.
-- Assumes nothing.
use Rattle.std.specs.Prelude.{List, [], ◌++◌, ℕ, leb, ltb, ℤ, length, None, Option, Some}
use Rattle.theory.specs.Sets.{one}
use Rattle.theory.specs.Lists.{nth}
use Rattle.theory.specs.Machine.{Delivery}
use Rattle.wire.specs.Wire.{bytes, splice}
use Rattle.refusals.specs.declared.Refusal.TheVariants.{Range}
use Rattle.register.specs.Register.{bikes}
use Rattle.register.specs.Lent.{bike_size, bike_bytes}
use Rattle.protocol.specs.System.{System, granted, ◌else◌⨾◌, verdict}
use Rattle.protocol.specs.Site.{Site, is_waiting, is_some}
use Rattle.layout.specs.declared.Site as layout
use Rattle.layout.specs.Layout.{phase_number, delivery_size, delivery_bytes}
use Rattle.judging.specs.Outcomes.{Outcome, answered, ◌then◌}
use Rattle.judging.specs.Judging.{system_of, site_in, for_site}

-- The bytes of a status.
abbrev pub status_size : ℕ
status_size = 5

-- Round, phase (0 acknowledging, 1 waiting), number of deliveries and log position.
abbrev pub status_bytes : (S : System) → Site S → List ℕ
status_bytes S s = ((bytes 1 s.round ++ bytes 1 (one (is_waiting s.phase))) ++ bytes 1 (length s.ledger.deliveries)) ++ bytes 2 s.position

-- The same of the header that is read of its bytes.
abbrev pub head_status : layout.Site → List ℕ
head_status h = ((bytes 1 h.round ++ bytes 1 (phase_number h.phase)) ++ bytes 1 h.deliveries) ++ bytes 2 h.position

-- Command and answer of a delivery, where there is one.
abbrev pub found_bytes : Option (Delivery ℤ) → List ℕ
found_bytes None = []
found_bytes (Some d) = delivery_bytes d.command d.answer

module _ (table book : List ℕ) where
  unfoldable pub status_call : (site status : List ℕ) → Outcome (List ℕ)
  status_call site status =
      answered (verdict (for_site table book (leb status_size (length status)) site))
      (splice status 0 (status_bytes (system_of table book) (site_in table book site)))
      status

  -- What the register holds of a bike.
  unfoldable pub bike_call : (site : List ℕ) (bike : ℕ) (out : List ℕ) → Outcome (List ℕ)
  bike_call site bike out =
      answered (verdict (for_site table book (leb bike_size (length out)) site then ltb bike bikes else Range ⨾ granted))
      (splice out 0 (bike_bytes ((site_in table book site).ledger.state bike)))
      out

  -- The k-th delivery.
  unfoldable pub delivery_call : (site : List ℕ) (k : ℕ) (out : List ℕ) → Outcome (List ℕ)
  delivery_call site k out =
      answered (verdict (for_site table book (leb delivery_size (length out)) site then is_some (nth (site_in table book site).ledger.deliveries k) else Range ⨾ granted))
      (splice out 0 (found_bytes (nth (site_in table book site).ledger.deliveries k)))
      out
