-- Which lent bytes are a site that a step is carried out on (document 01: else refusal 4), and what a step promises of the bytes.
-- Assumes nothing.
use Rattle.std.specs.Prelude.{◌≡◌, Bool, true, ◌&&◌, ◌||◌, List, ◌++◌, ℕ, ◌+◌, ◌^◌, ◌≤◌, ◌<◌, eqb, leb, ltb, length, drop}
use Rattle.theory.specs.Sets.{all}
use Rattle.wire.specs.Wire.{read_le}
use Rattle.sets.specs.Sets.{capacity, within_of, set_bytes, read_set}
use Rattle.table.specs.declared.SiteTable.{SiteTable}
use Rattle.table.specs.Table.{max_sites}
use Rattle.register.specs.declared.Command.{Command}
use Rattle.register.specs.Register.{Within, is_within}
use Rattle.register.specs.Lent.{register_of}
use Rattle.protocol.specs.Site as protocol
use Rattle.system.specs.Dash.{dash}
use Rattle.layout.specs.declared.Site.{Site}
use Rattle.layout.specs.Layout.{site_size, phase_place, count_place, span_place, position_place, nc_place, c_place, register_place, site_rounds, row_at, in_table, cell, slot, head_of, proposal_of, view, encode}

-- A header that its bytes can hold.
pub record Fit (h : Site) : Type 0 where
  pub round : h.round < 2 ^ 8
  pub deliveries : h.deliveries < 2 ^ 16
  pub span : h.span < 2 ^ 16
  pub position : h.position < 2 ^ 16
  pub received : h.received.bits < 2 ^ 64
  pub delivered : h.delivered.bits < 2 ^ 64
  pub pending : h.pending.bits < 2 ^ 64
  pub fast : h.fast.bits < 2 ^ 64
  pub nc : (proposal_of h.phase).nc.bits < 2 ^ 64
  pub c : (proposal_of h.phase).c.bits < 2 ^ 64

-- A header whose numbers are in range and whose sets are within a book of so many commands.
pub record GoodHead (commands : ℕ) (h : Site) : Type 0 where
  pub first : 1 ≤ h.round
  pub last : h.round ≤ site_rounds
  pub few : h.deliveries ≤ commands
  pub room : h.deliveries ≤ capacity
  pub span : h.span ≤ site_rounds
  pub received : within_of h.received commands ≡ true
  pub delivered : within_of h.delivered commands ≡ true
  pub pending : within_of h.pending commands ≡ true
  pub fast : within_of h.fast commands ≡ true
  pub nc : within_of (proposal_of h.phase).nc commands ≡ true
  pub c : within_of (proposal_of h.phase).c commands ≡ true

-- The tables and the register, with n deliveries recorded and k rows of sets heard.
pub record GoodTables (sites commands n k : ℕ) (b : List ℕ) : Type 0 where
  -- every set heard is within the book,
  pub heard : (j r : ℕ) → in_table k j r ≡ true → within_of (read_set b (cell j r)) commands ≡ true
  -- and those of senders that there are not are empty
  pub silent : (j r : ℕ) → in_table k j r ≡ true → sites ≤ j → read_le set_bytes b (cell j r) ≡ 0
  pub readings : Within (register_of b register_place)
  -- each recorded command is one of the book,
  pub recorded : (k : ℕ) → k < n → read_le 1 b (slot k) < commands
  -- and the rest of the table is 0
  pub rest : (k : ℕ) → n ≤ k → k < capacity → (read_le 1 b (slot k) ≡ 0) × (read_le 4 b (slot k + 1) ≡ 0)

-- Lent bytes that are a site, for so many sites and commands. No consistency between the fields is asked.
pub record Good (sites commands : ℕ) (b : List ℕ) : Type 0 where
  pub size : length b ≡ site_size
  pub tag : read_le 1 b phase_place ≤ 1
  -- nothing is proposed while the site acknowledges
  pub idle : read_le 1 b phase_place ≡ 0 → (read_le set_bytes b nc_place ≡ 0) × (read_le set_bytes b c_place ≡ 0)
  pub head : GoodHead commands (head_of b)
  pub tables : GoodTables sites commands (read_le 2 b count_place) (read_le 2 b span_place) b

-- ---- the same as a test

unfoldable pub good_head : ℕ → Site → Bool
good_head commands h =
    leb 1 h.round && leb h.round site_rounds && leb h.deliveries commands && leb h.deliveries capacity && leb h.span site_rounds
    && within_of h.received commands && within_of h.delivered commands && within_of h.pending commands && within_of h.fast commands
    && within_of (proposal_of h.phase).nc commands && within_of (proposal_of h.phase).c commands

-- The set heard of sender j in round r: within the book, and empty where there is no such sender.
abbrev pub good_cell : ℕ → ℕ → List ℕ → ℕ → ℕ → Bool
good_cell sites commands b j r = within_of (read_set b (cell j r)) commands && (ltb j sites || eqb (read_le set_bytes b (cell j r)) 0)

-- All sets heard, sender by sender.
abbrev pub good_heard : ℕ → ℕ → List ℕ → Bool
good_heard sites commands b = all max_sites (λ j. all (read_le 2 b span_place) (λ i. good_cell sites commands b j (i + 1)))

-- The k-th place for a delivery, where n are recorded.
abbrev pub good_slot : ℕ → ℕ → List ℕ → ℕ → Bool
good_slot commands n b k =
    ltb k n && ltb (read_le 1 b (slot k)) commands || leb n k && eqb (read_le 1 b (slot k)) 0 && eqb (read_le 4 b (slot k + 1)) 0

-- Whether the tag is 0 or 1, and nothing is proposed while it is 0.
abbrev pub good_phase : List ℕ → Bool
good_phase b =
    eqb (read_le 1 b phase_place) 1
    || eqb (read_le 1 b phase_place) 0 && eqb (read_le set_bytes b nc_place) 0 && eqb (read_le set_bytes b c_place) 0

-- Whether lent bytes are a site, whose log position is at most the number of entries lent.
abbrev pub good_site : (sites commands entries : ℕ) → List ℕ → Bool
good_site sites commands entries b =
    eqb (length b) site_size
    && leb (read_le 2 b position_place) entries
    && good_phase b
    && good_head commands (head_of b)
    && good_heard sites commands b
    && is_within (register_of b register_place)
    && all capacity (good_slot commands (read_le 2 b count_place) b)

-- ---- what a step promises

module _ (t : SiteTable) (book : List Command) where
  -- The bytes are those of a site with k rows, they say it, and they are good. Past the site stands what stood there before.
  pub record Holds (k : ℕ) (before b : List ℕ) (s : protocol.Site (dash t book)) : Type 0 where
    pub span : read_le 2 b span_place ≡ k
    pub bytes : b ≡ encode t book k s ++ drop (row_at k) b
    pub past : drop (row_at k) b ≡ drop (row_at k) before
    pub says : view t book b ≡ s
    pub good : Good t.sites (length book) b

  -- The same, where the table of sets heard has the rows that it had before.
  abbrev pub HoldsOver : List ℕ → List ℕ → protocol.Site (dash t book) → Type 0
  HoldsOver before b s = Holds (read_le 2 before span_place) before b s

  -- Lent bytes are good at this site table and book.
  abbrev pub GoodAt : List ℕ → Type 0
  GoodAt b = Good t.sites (length book) b
