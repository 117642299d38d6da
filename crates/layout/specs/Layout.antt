-- One site in lent bytes: where each field stands, the site that the bytes are seen as, and the bytes of a site.
-- Assumes nothing.
use Rattle.std.specs.Prelude.{◌≡◌, Bool, ◌&&◌, List, [], ◌∷◌, ◌++◌, ℕ, zero, suc, ◌+◌, ◌*◌, ◌-◌, ◌/◌, ◌%◌, leb, ltb, ℤ, length, take, drop, replicate}
use Rattle.theory.specs.Machine.{Delivery}
use Rattle.theory.specs.Sets.{pick}
use Rattle.wire.specs.Wire.{bytes, read_le, splice}
use Rattle.signed.specs.Signed.{signed32, word32}
use Rattle.sets.specs.declared.Set.{Set}
use Rattle.sets.specs.Sets.{has, capacity, in_set, set_of, empty_of, set_bytes, read_set, write_set, union_of}
use Rattle.table.specs.declared.SiteTable.{SiteTable}
use Rattle.table.specs.Table.{max_sites}
use Rattle.register.specs.declared.Command.{Command}
use Rattle.register.specs.Lent.{register_of, register_bytes}
use Rattle.protocol.specs.Site as protocol
use Rattle.protocol.specs.Site.{acknowledging, waiting}
use Rattle.system.specs.Dash.{dash}
use Rattle.layout.specs.declared.Proposal.{Proposal}
use Rattle.layout.specs.declared.Phase.{Phase}
use Rattle.layout.specs.declared.Phase.TheVariants.{Acknowledging, Waiting}
use Rattle.layout.specs.declared.Site.{Site}
use Rattle.layout.specs.declared.Delivery as declared

-- The bytes of a site.
abbrev pub site_size : ℕ
site_size = 3536

-- Where each field stands. The round takes 1 byte, the log position, the number of recorded deliveries and the span 2 each, a set 8.
-- The phase is a tag of 1 byte, 0 acknowledging and 1 waiting, and two sets.
-- Every number of the header, every set and every number of the register stands at a multiple of its width.
abbrev pub round_place : ℕ
round_place = 0

abbrev pub phase_place : ℕ
phase_place = 1

abbrev pub position_place : ℕ
position_place = 2

abbrev pub count_place : ℕ
count_place = 4

-- The span: for how many rounds the table of sets heard has rows.
abbrev pub span_place : ℕ
span_place = 6

abbrev pub received_place : ℕ
received_place = 8

abbrev pub delivered_place : ℕ
delivered_place = 16

abbrev pub pending_place : ℕ
pending_place = 24

abbrev pub fast_place : ℕ
fast_place = 32

abbrev pub nc_place : ℕ
nc_place = 40

abbrev pub c_place : ℕ
c_place = 48

-- The header ends where the register stands.
abbrev pub register_place : ℕ
register_place = 56

-- Each recorded delivery: the command in 1 byte, its answer in 4.
abbrev pub deliveries_place : ℕ
deliveries_place = 312

-- The table of sets heard is last: a row for each round from 1 on, in it a set for each of 11 senders.
abbrev pub heard_place : ℕ
heard_place = 632

-- The rounds of a site: 1 to 33.
abbrev pub site_rounds : ℕ
site_rounds = 33

-- The bytes of a row.
abbrev pub row_size : ℕ
row_size = 88

abbrev pub delivery_size : ℕ
delivery_size = 5

-- The place after k rows: a site with that span has no bytes from there on.
abbrev pub row_at : ℕ → ℕ
row_at k = heard_place + row_size * k

-- The place of what sender j acknowledged in round r.
abbrev pub cell : ℕ → ℕ → ℕ
cell j r = row_at (r - 1) + set_bytes * j

-- The place of the k-th recorded delivery.
abbrev pub slot : ℕ → ℕ
slot k = deliveries_place + delivery_size * k

-- The bytes of site i, where sites stand end to end.
unfoldable pub site_at : List ℕ → ℕ → List ℕ
site_at sites i = take site_size (drop (i * site_size) sites)

-- ---- what the bytes say

abbrev pub phase_from : ℕ → Set → Set → Phase
phase_from zero nc c = Acknowledging
phase_from (suc n) nc c = Waiting (record { nc = nc; c = c })

-- The header: all fields but what was heard, the register and the deliveries themselves.
unfoldable pub head_of : List ℕ → Site
head_of b =
    record {
      round = read_le 1 b round_place;
      phase = phase_from (read_le 1 b phase_place) (read_set b nc_place) (read_set b c_place);
      position = read_le 2 b position_place;
      deliveries = read_le 2 b count_place;
      span = read_le 2 b span_place;
      received = read_set b received_place;
      delivered = read_set b delivered_place;
      pending = read_set b pending_place;
      fast = read_set b fast_place;
    }

-- A sender and a round that a table of k rows has a set for.
abbrev pub in_table : ℕ → ℕ → ℕ → Bool
in_table k j r = ltb j max_sites && (leb 1 r && leb r k)

-- What each sender acknowledged in each round, by a table of k rows; nothing outside the table.
unfoldable pub heard_in : ℕ → List ℕ → ℕ → ℕ → ℕ → Bool
heard_in k b j r m = in_table k j r && has (read_le set_bytes b (cell j r)) m

-- The same by the rows that the bytes have.
abbrev pub heard_of : List ℕ → ℕ → ℕ → ℕ → Bool
heard_of b = heard_in (read_le 2 b span_place) b

-- How many rows there are where round r was reached from k of them.
abbrev pub span_with : ℕ → ℕ → ℕ
span_with k r = pick (leb r k) k r

-- The bytes with the rows after k of them, up to that of round r, empty.
abbrev pub emptied : List ℕ → ℕ → ℕ → List ℕ
emptied b k r = splice b (row_at k) (replicate (row_at r - row_at k) 0)

-- The bytes with rows up to round r: those that were not there are empty.
abbrev pub reached : List ℕ → ℕ → List ℕ
reached b r = pick (leb r (read_le 2 b span_place)) b (splice (emptied b (read_le 2 b span_place) r) span_place (bytes 2 r))

-- The bytes with an acknowledgment united with what its sender acknowledged in its round, in a table that has the round.
abbrev pub heard_more : List ℕ → ℕ → ℕ → Set → List ℕ
heard_more b j r x = write_set (reached b r) (cell j r) (union_of (read_set (reached b r) (cell j r)) x)

abbrev pub delivery_of : List ℕ → ℕ → Delivery ℤ
delivery_of b k = record { command = read_le 1 b (slot k); answer = signed32 (read_le 4 b (slot k + 1)) }

-- A delivery that was read, as the protocol has it.
abbrev pub delivery_seen : declared.Delivery → Delivery ℤ
delivery_seen d = record { command = d.command; answer = d.answer }

-- The first n recorded deliveries.
unfoldable pub deliveries_of : ℕ → List ℕ → List (Delivery ℤ)
deliveries_of zero b = []
deliveries_of (suc n) b = deliveries_of n b ++ (delivery_of b n ∷ [])

abbrev pub phase_seen : Phase → protocol.Phase
phase_seen Acknowledging = acknowledging
phase_seen (Waiting p) = waiting (record { nc = in_set p.nc; c = in_set p.c })

-- ---- the bytes of what is said

abbrev pub phase_number : Phase → ℕ
phase_number Acknowledging = 0
phase_number (Waiting p) = 1

-- The sets that a phase is waiting with, empty while it acknowledges.
abbrev pub proposal_of : Phase → Proposal
proposal_of Acknowledging = record { nc = empty_of; c = empty_of }
proposal_of (Waiting p) = p

-- The numbers of a header, and its sets.
unfoldable pub numbers_bytes : Site → List ℕ
numbers_bytes h = (((bytes 1 h.round ++ bytes 1 (phase_number h.phase)) ++ bytes 2 h.position) ++ bytes 2 h.deliveries) ++ bytes 2 h.span

unfoldable pub sets_bytes : Site → List ℕ
sets_bytes h =
    ((((bytes 8 h.received.bits ++ bytes 8 h.delivered.bits) ++ bytes 8 h.pending.bits) ++ bytes 8 h.fast.bits)
    ++ bytes 8 (proposal_of h.phase).nc.bits) ++ bytes 8 (proposal_of h.phase).c.bits

abbrev pub head_bytes : Site → List ℕ
head_bytes h = numbers_bytes h ++ sets_bytes h

-- The bytes begin with those of a header.
abbrev pub Begins : Site → List ℕ → Type 0
Begins h b = take register_place b ≡ head_bytes h

-- The bytes with another phase.
abbrev pub phased : List ℕ → Phase → List ℕ
phased b p = write_set (write_set (splice b phase_place (bytes 1 (phase_number p))) nc_place (proposal_of p).nc) c_place (proposal_of p).c

-- The first n of the sets heard: that of sender 0 and round 1 first, then that of sender 1.
unfoldable pub heard_bytes : ℕ → (ℕ → ℕ → ℕ → Bool) → List ℕ
heard_bytes zero h = []
heard_bytes (suc n) h = heard_bytes n h ++ bytes set_bytes (set_of capacity (h (n % max_sites) (n / max_sites + 1))).bits

abbrev pub delivery_bytes : ℕ → ℤ → List ℕ
delivery_bytes m z = bytes 1 m ++ bytes 4 (word32 z)

abbrev pub deliveries_bytes : List (Delivery ℤ) → List ℕ
deliveries_bytes [] = []
deliveries_bytes (d ∷ ds) = delivery_bytes d.command d.answer ++ deliveries_bytes ds

abbrev pub phase_for : protocol.Phase → Phase
phase_for acknowledging = Acknowledging
phase_for (waiting p) = Waiting (record { nc = set_of capacity p.nc; c = set_of capacity p.c })

module _ (t : SiteTable) (book : List Command) where
  -- The register and the first n recorded deliveries.
  abbrev pub ledger_of : ℕ → List ℕ → protocol.Ledger (dash t book)
  ledger_of n b = record { state = register_of b register_place; deliveries = deliveries_of n b }

  -- The site of a header, of what was heard, and of a ledger.
  abbrev pub site_of : Site → (ℕ → ℕ → ℕ → Bool) → protocol.Ledger (dash t book) → protocol.Site (dash t book)
  site_of h heard ledger =
      record {
        received = in_set h.received;
        delivered = in_set h.delivered;
        pending = in_set h.pending;
        fast = in_set h.fast;
        round = h.round;
        phase = phase_seen h.phase;
        position = h.position;
        heard = heard;
        ledger = ledger;
      }

  -- The site that lent bytes are seen as.
  abbrev pub view : List ℕ → protocol.Site (dash t book)
  view b = site_of (head_of b) (heard_of b) (ledger_of (read_le 2 b count_place) b)

  -- The header of a site, with its span.
  abbrev pub head_for : ℕ → protocol.Site (dash t book) → Site
  head_for k s =
      record {
        round = s.round;
        phase = phase_for s.phase;
        position = s.position;
        deliveries = length s.ledger.deliveries;
        span = k;
        received = set_of capacity s.received;
        delivered = set_of capacity s.delivered;
        pending = set_of capacity s.pending;
        fast = set_of capacity s.fast;
      }

  -- The bytes of a site, with so many rows in its table of sets heard.
  abbrev pub encode : ℕ → protocol.Site (dash t book) → List ℕ
  encode k s =
      head_bytes (head_for k s)
      ++ (register_bytes s.ledger.state
      ++ (deliveries_bytes s.ledger.deliveries
      ++ (replicate (delivery_size * (capacity - length s.ledger.deliveries)) 0 ++ heard_bytes (max_sites * k) s.heard)))
