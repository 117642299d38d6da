-- The world of all sites in three lent buffers: the sites, the log, and what correct sites have sent. What the buffers say, which are good, and what a step promises of them.
-- Assumes nothing.
use Rattle.std.specs.Prelude.{◌≡◌, Bool, true, not, ◌||◌, List, ℕ, ◌*◌, ◌≤◌, ◌<◌, ltb, length, drop, None, Option, Some}
use Rattle.refusals.specs.Refusals.{is_taken}
use Rattle.refusals.specs.Refusals.{Verdict}
use Rattle.theory.specs.Sets as theory
use Rattle.theory.specs.Sets.{pick, all}
use Rattle.theory.specs.Lists.{nth}
use Rattle.sets.specs.Sets.{capacity, set_of}
use Rattle.table.specs.declared.SiteTable.{SiteTable}
use Rattle.register.specs.declared.Command.{Command}
use Rattle.protocol.specs.Recovery as recovery
use Rattle.protocol.specs.Site as protocol
use Rattle.protocol.specs.World.{World, Step, command, acknowledgment, check, false_acknowledgment, false_check, false_entry, turn, fast_delivery, log_read, round_end, judge, step}
use Rattle.protocol.specs.World as worlds
use Rattle.system.specs.Dash.{dash}
use Rattle.wire.specs.Wire.{read_le}
use Rattle.layout.specs.Layout.{site_at, site_size, span_place, row_at, head_of, view}
use Rattle.layout.specs.Good.{Good, HoldsOver}
use Rattle.entries.specs.declared.Entry.{Entry}
use Rattle.entries.specs.Entries.{entry_size, entry_of, log_to, write_entry, in_range_of}
use Rattle.sent.specs.Sent.{acks_of, checks_of, cell_of, acknowledged_in, checked_in, GoodSent}

-- The most bytes that a log is lent: a site's log position has 2 bytes.
abbrev pub max_log : ℕ
max_log = 65535 * entry_size

-- What is lent: all sites one after the other, the log with so many entries that are meant, and what was sent.
pub record Buffers : Type 0 where
  pub sites : List ℕ
  pub log : List ℕ
  pub entries : ℕ
  pub sent : List ℕ

-- The bytes of a site after a step: what is past its rows is as it was, and it has no fewer rows.
pub record PastKept (before after : List ℕ) : Type 0 where
  pub rows : read_le 2 before span_place ≤ read_le 2 after span_place
  pub past : drop (row_at (read_le 2 after span_place)) after ≡ drop (row_at (read_le 2 after span_place)) before

-- The same of the first n sites.
abbrev pub PastRows : ℕ → List ℕ → List ℕ → Type 0
PastRows n before after = (i : ℕ) → i < n → PastKept (site_at before i) (site_at after i)

-- The commands of a message are in a book of so many.
abbrev pub known_to : ℕ → Option theory.Set → Bool
known_to commands None = true
known_to commands (Some x) = all capacity (λ m. not (x m) || ltb m commands)

-- Buffers that a step is carried out on, for a site table and so many commands.
pub record GoodWorld (t : SiteTable) (commands : ℕ) (b : Buffers) : Type 0 where
  pub size : length b.sites ≡ t.sites * site_size
  pub site : (i : ℕ) → i < t.sites → Good t.sites commands (site_at b.sites i)
  -- no site has read more entries than there are
  pub position : (i : ℕ) → i < t.sites → (head_of (site_at b.sites i)).position ≤ b.entries
  pub room : b.entries * entry_size ≤ length b.log
  pub short : length b.log ≤ max_log
  -- every entry that is meant is in range
  pub logged : (k : ℕ) → k < b.entries → in_range_of t.sites commands (entry_of b.log k) ≡ true
  -- and none is a third of its site and round
  pub twice : (j r : ℕ) → recovery.entries j r (log_to b.log b.entries) ≤ 2
  pub sent : GoodSent b.sent
  pub acks : (j r k : ℕ) → known_to commands (nth (acks_of b.sent j r) k) ≡ true
  pub checks : (j r : ℕ) → known_to commands (checks_of b.sent j r) ≡ true

-- An entry of the protocol in words.
abbrev pub entry_for : recovery.Entry → Entry
entry_for e = record { site = e.site; round = e.round; nc = set_of capacity e.nc; c = set_of capacity e.c }

module _ (t : SiteTable) (book : List Command) where
  -- The world that lent buffers are seen as. There are no sites beyond the table's, and nothing looks there.
  abbrev pub world_of : Buffers → World (dash t book)
  world_of b =
      record {
        site = λ i. pick (ltb i t.sites) (view t book (site_at b.sites i)) (protocol.fresh (dash t book));
        log = log_to b.log b.entries;
        acks = acks_of b.sent;
        checks = checks_of b.sent;
      }

  -- The buffers hold a world: each site's bytes are that site's, they say the world, and they are good.
  pub record HoldsWorld (b : Buffers) (w : World (dash t book)) : Type 0 where
    pub site : (i : ℕ) → i < t.sites → HoldsOver t book (site_at b.sites i) (site_at b.sites i) (w.site i)
    pub says : world_of b ≡ w
    pub good : GoodWorld t (length book) b

  -- The log after a step that is taken: only an entry of a faulty site and a turn that proposes write one, after those that are meant.
  abbrev pub log_written : World (dash t book) → Step → Buffers → List ℕ
  log_written w (command i m) b = b.log
  log_written w (acknowledgment i j r a) b = b.log
  log_written w (check i j r) b = b.log
  log_written w (false_acknowledgment i j r x) b = b.log
  log_written w (false_check i j r x) b = b.log
  log_written w (false_entry j r nc c) b = write_entry b.log b.entries (entry_for (record { site = j; round = r; nc = nc; c = c }))
  log_written w (turn i) b =
      pick (protocol.acknowledges (dash t book) (w.site i)) b.log
      (write_entry b.log b.entries (entry_for (worlds.entry_of (dash t book) i (w.site i))))
  log_written w (fast_delivery i m) b = b.log
  log_written w (log_read i) b = b.log
  log_written w (round_end i) b = b.log

  -- What was sent after a step that is taken: only a turn sends, an acknowledgment or a check message.
  abbrev pub sent_written : World (dash t book) → Step → Buffers → List ℕ
  sent_written w (command i m) b = b.sent
  sent_written w (acknowledgment i j r a) b = b.sent
  sent_written w (check i j r) b = b.sent
  sent_written w (false_acknowledgment i j r x) b = b.sent
  sent_written w (false_check i j r x) b = b.sent
  sent_written w (false_entry j r nc c) b = b.sent
  sent_written w (turn i) b =
      pick (protocol.acknowledges (dash t book) (w.site i))
      (acknowledged_in b.sent (cell_of i (w.site i).round) (set_of capacity (protocol.undelivered (dash t book) (w.site i))))
      (checked_in b.sent (cell_of i (w.site i).round) (set_of capacity (protocol.undelivered (dash t book) (w.site i))))
  sent_written w (fast_delivery i m) b = b.sent
  sent_written w (log_read i) b = b.sent
  sent_written w (round_end i) b = b.sent

  -- A step on lent buffers: the answer is the protocol's verdict, the buffers hold the protocol's world, and the log, what was sent and what is past the rows of each site are told byte by byte.
  -- A step that is refused leaves both as they were.
  pub record Outcome (u : Step) (b : Buffers) (v : Verdict) (after : Buffers) : Type 0 where
    pub verdict : v ≡ judge (dash t book) (world_of b) u
    pub holds : HoldsWorld after (step (dash t book) (world_of b) u)
    pub log : after.log ≡ pick (is_taken (judge (dash t book) (world_of b) u)) (log_written (world_of b) u b) b.log
    pub sent : after.sent ≡ pick (is_taken (judge (dash t book) (world_of b) u)) (sent_written (world_of b) u b) b.sent
    pub past : PastRows t.sites b.sites after.sites
