-- The end of a round: the header after it, the code's verdict, and what the step promises.
-- Assumes nothing.
use Rattle.std.specs.Prelude.{◌≡◌, Bool, List, ℕ, ◌+◌, ◌≤◌, leb, length, Err, None, Option, Some}
use Rattle.refusals.specs.declared.Refusal.TheVariants.{Disabled, Full}
use Rattle.refusals.specs.Refusals.{Verdict}
use Rattle.sets.specs.declared.Set.{Set}
use Rattle.sets.specs.Sets.{in_set, empty_of, union_of, without_of, size_of}
use Rattle.table.specs.declared.SiteTable.{SiteTable}
use Rattle.register.specs.declared.Command.{Command}
use Rattle.protocol.specs.System.{granted, ◌else◌⨾◌, verdict}
use Rattle.protocol.specs.Recovery.{Log, Tally, nc_set, c_set}
use Rattle.protocol.specs.Site as protocol
use Rattle.system.specs.Dash.{dash, last_round}
use Rattle.recovery.specs.declared.Sets.{Sets}
use Rattle.layout.specs.declared.Phase.{Phase}
use Rattle.layout.specs.declared.Phase.TheVariants.{Acknowledging, Waiting}
use Rattle.layout.specs.declared.Site.{Site}
use Rattle.layout.specs.Layout.{view}
use Rattle.layout.specs.Good.{Good}
use Rattle.layout.specs.Step.{Carried}

-- What of a set is not yet delivered.
abbrev pub due_of : Site → Set → Set
due_of h x = without_of x (union_of h.delivered h.fast)

-- How many commands of the decided sets are due.
abbrev pub more_of : Site → Sets → ℕ
more_of h x = size_of (due_of h x.nc) + size_of (due_of h x.c)

-- The header after a round that decided two sets, with n deliveries recorded.
abbrev pub ended : Site → Sets → ℕ → Site
ended h x n =
    record {
      round = h.round + 1;
      phase = Acknowledging;
      position = h.position;
      deliveries = n;
      span = h.span;
      received = h.received;
      delivered = union_of h.delivered (union_of x.nc x.c);
      pending = empty_of;
      fast = empty_of;
    }

-- The verdict in a phase, where the round is decided and the record has room for what is due or not.
abbrev pub judged_in : Phase → Bool → Verdict
judged_in Acknowledging room = Err Disabled
judged_in (Waiting p) room = verdict (room else Full ⨾ granted)

-- The phase and the room are the header's.
unfoldable pub judged_end : Site → ℕ → Sets → Verdict
judged_end h commands x = judged_in h.phase (leb (h.deliveries + more_of h x) commands)

module _ (t : SiteTable) (book : List Command) where
  -- The sets are those of the protocol's decision of a round; the last round has no entries.
  pub record ToldSets (x : Sets) (d : Tally) (round : ℕ) : Type 0 where
    pub nc : in_set x.nc ≡ nc_set (dash t book) d
    pub c : in_set x.c ≡ c_set (dash t book) d
    pub last : round ≤ last_round

  -- What is told of the protocol's decision of a round.
  abbrev pub Told : Option Sets → Option Tally → ℕ → Type 0
  Told None None round = Unit {0}
  Told None (Some d) round = ⊥
  Told (Some x) None round = ⊥
  Told (Some x) (Some d) round = ToldSets x d round

-- A round end by a log was carried out on the bytes of a site, or refused.
abbrev pub EndedBy : SiteTable → List Command → Log → List ℕ → Verdict → List ℕ → Type 0
EndedBy t book log b r b' =
    Carried t book (verdict (protocol.for_round_end (dash t book) (view t book b) log))
    (protocol.finish (dash t book) (protocol.tally_or (protocol.decision (dash t book) (view t book b) log)) (view t book b)) (view t book b) b r b'

-- It was, at every site table and by every log of which the decision tells.
abbrev pub RoundEnded : List Command → Option Sets → List ℕ → Verdict → List ℕ → Type 0
RoundEnded book d b r b' =
    (t : SiteTable) (log : Log) → Good t.sites (length book) b
    → Told t book d (protocol.decision (dash t book) (view t book b) log) (view t book b).round → EndedBy t book log b r b'
