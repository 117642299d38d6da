-- One site of algorithm PGB (004, section 4): what it holds, what each step makes of it, and when a step is enabled.
-- Assumes nothing.
use Rattle.std.specs.Prelude.{Bool, true, false, ◌&&◌, ◌||◌, not, ℕ, suc, ◌+◌, eqb, leb, ltb, length, take, None, Option, Some}
use mathlib.Core.List.{List, [], ◌∷◌, ◌++◌, foldl}
use Rattle.refusals.specs.declared.Refusal.TheVariants.{Disabled, ThirdEntry, LastRound, Full}
use Rattle.theory.specs.Sets.{Set, ∅, only, ◌∪◌, ◌∖◌, any, count, members}
use Rattle.theory.specs.Lists.{nth}
use Rattle.theory.specs.Machine.{Delivery}
use Rattle.protocol.specs.System.{System, Demands, granted, ◌else◌⨾◌, free, known}
use Rattle.protocol.specs.Recovery.{Entry, Log, Tally, nobody, entries, decide, nc_set, c_set}

-- What a site proposed (004, line 18).
pub record Proposal : Type 0 where
  pub nc : Set
  pub c : Set

-- A site is either acknowledging, or waiting with the sets it proposed.
pub data Phase : Type 0 where
  acknowledging : Phase
  waiting : Proposal → Phase

abbrev pub is_acknowledging : Phase → Bool
is_acknowledging acknowledging = true
is_acknowledging (waiting p) = false

abbrev pub is_waiting : Phase → Bool
is_waiting acknowledging = false
is_waiting (waiting p) = true

abbrev pub is_some : {A : Type 0} → Option A → Bool
is_some None = false
is_some (Some a) = true

abbrev pub tally_or : Option Tally → Tally
tally_or None = nobody
tally_or (Some t) = t

module _ (S : System) where
  open S use {machine, commands, sites, n_ack, rounds}

  -- The machine's state and the deliveries with their answers, oldest first.
  pub record Ledger : Type 0 where
    pub state : machine.State
    pub deliveries : List (Delivery machine.Answer)

  pub record Site : Type 0 where
    -- 004: Received
    pub received : Set
    -- 004: G_del, delivered in earlier rounds
    pub delivered : Set
    -- 004: pending, acknowledged in this round
    pub pending : Set
    -- 004: gAck_del, delivered fast in this round
    pub fast : Set
    -- 004: k, from 1
    pub round : ℕ
    pub phase : Phase
    -- the log position: how many entries were read
    pub position : ℕ
    -- what each sender has acknowledged in each round
    pub heard : ℕ → ℕ → Set
    pub ledger : Ledger

  -- The site of these fields, in this order.
  abbrev site_of : (received delivered pending fast : Set) (round : ℕ) → Phase → (position : ℕ) → (ℕ → ℕ → Set) → Ledger → Site
  site_of received delivered pending fast round phase position heard ledger =
      record {
        received = received;
        delivered = delivered;
        pending = pending;
        fast = fast;
        round = round;
        phase = phase;
        position = position;
        heard = heard;
        ledger = ledger;
      }

  -- 004, lines 1 and 2, with the initial state of the machine.
  abbrev pub fresh : Site
  fresh =
      record {
        received = ∅;
        delivered = ∅;
        pending = ∅;
        fast = ∅;
        round = 1;
        phase = acknowledging;
        position = 0;
        heard = λ j r. ∅;
        ledger = record { state = machine.initial; deliveries = [] };
      }

  -- Received without G_del.
  abbrev pub undelivered : Site → Set
  undelivered s = s.received ∖ s.delivered

  -- Received without G_del and pending (004, line 12).
  abbrev pub unacknowledged : Site → Set
  unacknowledged s = s.received ∖ (s.delivered ∪ s.pending)

  -- A delivered command is executed on the site's register and its answer recorded.
  abbrev pub deliver : Ledger → ℕ → Ledger
  deliver g m =
      record {
        state = machine.execute g.state m;
        deliveries = g.deliveries ++ (record { command = m; answer = machine.answer g.state m } ∷ []);
      }

  -- The site with one field changed.
  abbrev pub with_received : Set → Site → Site
  with_received x s = site_of x s.delivered s.pending s.fast s.round s.phase s.position s.heard s.ledger

  abbrev pub with_pending : Set → Site → Site
  with_pending x s = site_of s.received s.delivered x s.fast s.round s.phase s.position s.heard s.ledger

  abbrev pub with_fast : Set → Site → Site
  with_fast x s = site_of s.received s.delivered s.pending x s.round s.phase s.position s.heard s.ledger

  abbrev pub with_phase : Phase → Site → Site
  with_phase p s = site_of s.received s.delivered s.pending s.fast s.round p s.position s.heard s.ledger

  abbrev pub with_position : ℕ → Site → Site
  with_position k s = site_of s.received s.delivered s.pending s.fast s.round s.phase k s.heard s.ledger

  abbrev pub with_heard : (ℕ → ℕ → Set) → Site → Site
  with_heard h s = site_of s.received s.delivered s.pending s.fast s.round s.phase s.position h s.ledger

  abbrev pub with_ledger : Ledger → Site → Site
  with_ledger g s = site_of s.received s.delivered s.pending s.fast s.round s.phase s.position s.heard g

  -- A set joins Received, whatever round it came in (004, lines 6, 7, 10 and 11).
  abbrev pub receive : Set → Site → Site
  receive x s = with_received (s.received ∪ x) s

  -- An acknowledgment joins Received and is kept under its sender and its own round, united with what was there (004, lines 8 and 9).
  abbrev pub hear : ℕ → ℕ → Set → Site → Site
  hear j r x s = with_heard (λ j' r' m. s.heard j' r' m || eqb j' j && eqb r' r && x m) (receive x s)

  -- 004, line 14.
  abbrev pub acknowledge : Site → Site
  acknowledge s = with_pending (undelivered s) s

  -- 004, line 18: the site waits with (pending, Received without G_del and pending).
  abbrev pub proposal : Site → Proposal
  proposal s = record { nc = s.pending; c = unacknowledged s }

  abbrev pub propose : Site → Site
  propose s = with_phase (waiting (proposal s)) s

  -- 004, lines 26 to 29.
  abbrev pub deliver_fast : ℕ → Site → Site
  deliver_fast m s = with_ledger (deliver s.ledger m) (with_fast (s.fast ∪ only m) s)

  abbrev pub read_entry : Site → Site
  read_entry s = with_position (suc s.position) s

  -- What a round end delivers (004, lines 20 to 22): NCSet, then CSet, each in number order, skipping G_del and gAck_del.
  abbrev pub due : Tally → Site → List ℕ
  due t s = members commands (nc_set S t ∖ (s.delivered ∪ s.fast)) ++ members commands (c_set S t ∖ (s.delivered ∪ s.fast))

  -- 004, lines 20 to 24.
  abbrev pub finish : Tally → Site → Site
  finish t s =
      record {
        received = s.received;
        delivered = s.delivered ∪ (nc_set S t ∪ c_set S t);
        pending = ∅;
        fast = ∅;
        round = suc s.round;
        phase = acknowledging;
        position = s.position;
        heard = s.heard;
        ledger = foldl deliver s.ledger (due t s);
      }

  -- How many senders have acknowledged m in the site's round.
  abbrev pub senders : Site → ℕ → ℕ
  senders s m = count sites (λ j. s.heard j s.round m)

  -- The decision of the site's round by the entries that it has read.
  abbrev pub decision : Site → Log → Option Tally
  decision s log = decide S s.round (take s.position log)

  -- Whether a site may record k deliveries more: at most as many as there are commands.
  abbrev pub room : Site → ℕ → Bool
  room s k = leb (length s.ledger.deliveries + k) commands

  -- Whether a turn acknowledges (004, line 13); else it proposes.
  abbrev pub acknowledges : Site → Bool
  acknowledges s = free S (undelivered s)

  -- A turn of site i, with its append to the log judged by the whole log.
  abbrev pub for_turn : ℕ → Site → Log → Demands
  for_turn i s log =
      is_acknowledging s.phase else Disabled
      ⨾ any commands (unacknowledged s) else Disabled
      ⨾ acknowledges s || ltb (entries i s.round log) 2 else ThirdEntry
      ⨾ acknowledges s || leb s.round rounds else LastRound
      ⨾ granted

  abbrev pub for_fast_delivery : ℕ → Site → Demands
  for_fast_delivery m s =
      s.pending m else Disabled
      ⨾ not (s.fast m) else Disabled
      ⨾ leb n_ack (senders s m) else Disabled
      ⨾ room s 1 else Full
      ⨾ granted

  -- Site, round and sets of an entry are in range.
  abbrev pub entry_in_range : Entry → Bool
  entry_in_range e = ltb e.site sites && leb 1 e.round && leb e.round rounds && known S e.nc && known S e.c

  -- The next entry, where there is one, is in range.
  abbrev pub next_in_range : Option Entry → Bool
  next_in_range None = true
  next_in_range (Some e) = entry_in_range e

  -- The next entry is no third of its site and round among the entries before it.
  abbrev pub no_third : Log → Option Entry → Bool
  no_third before None = true
  no_third before (Some e) = ltb (entries e.site e.round before) 2

  abbrev pub next : Site → Log → Option Entry
  next s log = nth log s.position

  abbrev pub for_log_read : Site → Log → Demands
  for_log_read s log = is_some (next s log) else Disabled ⨾ no_third (take s.position log) (next s log) else ThirdEntry ⨾ granted

  abbrev pub for_round_end : Site → Log → Demands
  for_round_end s log =
      is_waiting s.phase else Disabled
      ⨾ is_some (decision s log) else Disabled
      ⨾ room s (length (due (tally_or (decision s log)) s)) else Full
      ⨾ granted
