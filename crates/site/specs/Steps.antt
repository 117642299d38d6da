-- What each step of one site promises, at every site table and every book in which the lent bytes are good.
-- Assumes nothing.
use Rattle.std.specs.Prelude.{◌≡◌, Bool, true, false, not, List, ℕ, ◌<◌, leb, ltb, length, take, Err, Ok, Result}
use Rattle.refusals.specs.declared.Refusal.{Refusal}
use Rattle.refusals.specs.Refusals.{settled}
use Rattle.refusals.specs.declared.Refusal.TheVariants.{Disabled, ThirdEntry, LastRound}
use Rattle.refusals.specs.Refusals.{Verdict}
use Rattle.theory.specs.Sets.{pick, only}
use Rattle.sets.specs.declared.Set.{Set}
use Rattle.sets.specs.Sets.{capacity, in_set, set_of, without_of, is_empty_of, within_of}
use Rattle.table.specs.declared.SiteTable.{SiteTable}
use Rattle.register.specs.declared.Command.{Command}
use Rattle.protocol.specs.System.{verdict}
use Rattle.protocol.specs.Recovery.{Log, entries}
use Rattle.protocol.specs.Site as protocol
use Rattle.system.specs.Dash.{dash, last_round}
use Rattle.layout.specs.declared.Phase.{Phase}
use Rattle.layout.specs.declared.Phase.TheVariants.{Acknowledging, Waiting}
use Rattle.layout.specs.declared.Site.{Site}
use Rattle.wire.specs.Wire.{read_le}
use Rattle.layout.specs.Layout.{span_place, span_with, view}
use Rattle.layout.specs.Good.{Good, Holds, HoldsOver}
use Rattle.layout.specs.Step.{Carried}
use Rattle.site.specs.declared.Turn.{Turn}
use Rattle.site.specs.declared.Turn.TheVariants as turn

-- ---- what a turn answers

-- Received without what was delivered, and what of it is not pending.
abbrev pub undelivered_of : Site → Set
undelivered_of h = without_of h.received h.delivered

abbrev pub new_of : Site → Set
new_of h = without_of (undelivered_of h) h.pending

-- What a turn answers in a phase, by the header, the conflict test and whether the site has two entries of its round.
abbrev pub chosen_in : Phase → Site → Bool → Bool → Result Turn Refusal
chosen_in (Waiting p) h free third = Err Disabled
chosen_in Acknowledging h free third =
    pick (is_empty_of (new_of h)) (Err Disabled)
    (pick free (Ok (turn.Acknowledged (undelivered_of h)))
    (pick third (Err ThirdEntry)
    (pick (leb h.round last_round) (Ok (turn.Proposed (undelivered_of h) (record { nc = h.pending; c = new_of h }))) (Err LastRound))))

-- The phase is the header's.
unfoldable pub chosen : Site → Bool → Bool → Result Turn Refusal
chosen h free third = chosen_in h.phase h free third

-- ---- the steps

-- A set within the book joins Received.
abbrev pub Received : Set → List ℕ → List ℕ → Type 0
Received x b b' =
    (t : SiteTable) (book : List Command) → Good t.sites (length book) b → within_of x (length book) ≡ true
    → HoldsOver t book b b' (protocol.receive (dash t book) (in_set x) (view t book b))

-- A command of the book joins Received.
abbrev pub Commanded : ℕ → List ℕ → List ℕ → Type 0
Commanded m b b' =
    (t : SiteTable) (book : List Command) → Good t.sites (length book) b → m < length book
    → HoldsOver t book b b' (protocol.receive (dash t book) (only m) (view t book b))

-- An acknowledgment of a site that there is, within the book, is heard, in a table that has its round.
abbrev pub Heard : ℕ → ℕ → Set → List ℕ → List ℕ → Type 0
Heard j r x b b' =
    (t : SiteTable) (book : List Command) → Good t.sites (length book) b → j < t.sites → within_of x (length book) ≡ true
    → Holds t book (span_with (read_le 2 b span_place) r) b b' (protocol.hear (dash t book) j r (in_set x) (view t book b))

module _ (t : SiteTable) (book : List Command) where
  -- What a turn sends: an acknowledgment, or a check message and an entry's two sets.
  abbrev pub answer_to : Verdict → Bool → protocol.Site (dash t book) → Result Turn Refusal
  answer_to (Ok _) true s = Ok (turn.Acknowledged (set_of capacity (protocol.undelivered (dash t book) s)))
  answer_to (Ok _) false s =
      Ok (turn.Proposed (set_of capacity (protocol.undelivered (dash t book) s))
      (record { nc = set_of capacity s.pending; c = set_of capacity (protocol.unacknowledged (dash t book) s) }))
  answer_to (Err r) free s = Err r

  -- A turn of site i, with its append judged by the whole log.
  pub record Turned (i : ℕ) (log : Log) (s : protocol.Site (dash t book)) (before : List ℕ) (r : Result Turn Refusal) (b : List ℕ) : Type 0 where
    pub answer : r ≡ answer_to (verdict (protocol.for_turn (dash t book) i s log)) (protocol.acknowledges (dash t book) s) s
    pub site :
        HoldsOver t book before b
        (settled (verdict (protocol.for_turn (dash t book) i s log))
        (pick (protocol.acknowledges (dash t book) s) (protocol.acknowledge (dash t book) s) (protocol.propose (dash t book) s))
        s)

-- The turn of any site i, where the conflict test of what is undelivered says `free`, and `third` that the log has two entries of the site and its round.
abbrev pub TookTurn : Bool → Bool → List ℕ → Result Turn Refusal → List ℕ → Type 0
TookTurn free third b r b' =
    (t : SiteTable) (book : List Command) (i : ℕ) (log : Log) → Good t.sites (length book) b
    → free ≡ protocol.acknowledges (dash t book) (view t book b) → not third ≡ ltb (entries i (view t book b).round log) 2
    → Turned t book i log (view t book b) b r b'

-- The next entry of a log is read, where there is one and it is no third of its site and round.
abbrev pub ReadEntry : Bool → Bool → List ℕ → Verdict → List ℕ → Type 0
ReadEntry left third b r b' =
    (t : SiteTable) (book : List Command) (log : Log) → Good t.sites (length book) b
    → left ≡ protocol.is_some (protocol.next (dash t book) (view t book b) log)
    → not third ≡ protocol.no_third (dash t book) (take (view t book b).position log) (protocol.next (dash t book) (view t book b) log)
    → Carried t book (verdict (protocol.for_log_read (dash t book) (view t book b) log)) (protocol.read_entry (dash t book) (view t book b)) (view t book b) b r b'
