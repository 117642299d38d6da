-- What every call judges of what it is lent, in document 01's order 9, 2, 1, 3, 4, and how a lent site is seen and written.
-- Assumes nothing.
use Rattle.std.specs.Prelude.{Bool, true, ◌&&◌, List, ◌++◌, ℕ, ◌/◌, ◌%◌, eqb, leb, length, take, drop, Err, Ok, Result}
use Rattle.refusals.specs.declared.Refusal.{Refusal}
use Rattle.std.proofs.lemmas.List.Edits.{sets}
use Rattle.theory.specs.Sets.{pick}
use Rattle.wire.specs.Wire.{read_le}
use Rattle.refusals.specs.declared.Refusal.TheVariants.{Book, Table, Form, Range, Size}
use Rattle.refusals.specs.Refusals.{Verdict}
use Rattle.refusals.specs.Refusals.{is_taken}
use Rattle.table.specs.declared.Rules.{Rules}
use Rattle.table.specs.Table.{table_in, good_table_in, good_marked_in}
use Rattle.commands.specs.Book.{commands_of, judge_book, noted_places}
use Rattle.protocol.specs.System.{System, Demands, granted, ◌else◌⨾◌, verdict}
use Rattle.protocol.specs.Site as protocol
use Rattle.system.specs.Dash.{dash}
use Rattle.entries.specs.Entries.{entry_size, good_to}
use Rattle.layout.specs.Layout.{site_size, span_place, row_at, view, encode}
use Rattle.layout.specs.Good.{good_site}
use Rattle.judging.specs.Outcomes.{◌then◌}

-- Every log position that a site's bytes can hold is at most this: where no log is lent the position is not judged.
abbrev pub any_position : ℕ
any_position = 65535

-- The entries of a lent log.
abbrev pub entries_in : List ℕ → ℕ
entries_in log = length log / entry_size

-- The log does not end in a cut entry.
abbrev pub is_whole : List ℕ → Bool
is_whole log = eqb (length log % entry_size) 0

-- The rules that a call goes by. One site's engine does not know who is faulty.
abbrev pub rules_of : (table book : List ℕ) → Rules
rules_of table book = record { table = table_in table; commands = length (commands_of book) }

-- What a judge answers: the rules where its verdict is taken, else the refusal.
abbrev pub judged_as : Verdict → Rules → Result Rules Refusal
judged_as (Ok _) rules = Ok rules
judged_as (Err r) rules = Err r

-- The site table with its mask, and the book.
abbrev pub for_marked : List ℕ → Demands
for_marked table = good_marked_in table else Table ⨾ granted

abbrev pub for_book : List ℕ → Demands
for_book book = is_taken (judge_book book) else Book ⨾ granted

-- Sizes and the site table, which every call judges first.
abbrev pub for_first : List ℕ → Bool → Demands
for_first table sized = sized else Size ⨾ good_table_in table else Table ⨾ granted

-- Sizes, the site table and the book, which every call that is lent a site judges before what else it is lent.
abbrev pub for_rules : (table book : List ℕ) → Bool → Demands
for_rules table book sized = for_first table sized then for_book book

-- The noted places after a call was judged: those that a walk through the book reads, where sizes and table let it come to the book.
abbrev pub places_after : (table book : List ℕ) → Bool → List ℕ → List ℕ
places_after table book sized places = pick (is_taken (verdict (for_first table sized))) (sets places 0 (noted_places book)) places

-- How many rows the table of sets heard of a lent site has.
abbrev pub span_in : List ℕ → ℕ
span_in site = read_le 2 (take site_size site) span_place

module _ (table book : List ℕ) where
  -- The system that a site belongs to.
  abbrev pub system_of : System
  system_of = dash (table_in table) (commands_of book)

  -- The site that lent bytes are seen as: their first 3,536 bytes.
  abbrev pub site_in : List ℕ → protocol.Site system_of
  site_in site = view (table_in table) (commands_of book) (take site_size site)

  -- The lent bytes with another site in them, of k rows; what is past it stays.
  abbrev pub with_site : ℕ → List ℕ → protocol.Site system_of → List ℕ
  with_site k site s = encode (table_in table) (commands_of book) k s ++ drop (row_at k) site

  -- The first bytes are a site at this table and book, whose log position is at most a number of entries.
  abbrev pub is_site : (entries : ℕ) → List ℕ → Bool
  is_site entries site = good_site (table_in table).sites (length (commands_of book)) entries (take site_size site)

  -- What a call that is lent a site judges: the other buffers are long enough or not, the log or message that it is lent has its form
  -- or not, and the log has so many entries.
  abbrev pub for_lent : (enough formed : Bool) (entries : ℕ) → List ℕ → Demands
  for_lent enough formed entries site =
      for_rules table book (enough && leb site_size (length site))
      then formed else Form
      ⨾ is_site entries site else Range
      ⨾ granted

  -- Neither a log nor a message is lent.
  abbrev pub for_site : Bool → List ℕ → Demands
  for_site enough site = for_lent enough true any_position site

  -- A message is lent.
  abbrev pub for_site_and_message : Bool → List ℕ → Demands
  for_site_and_message formed site = for_lent true formed any_position site

  -- The log is lent: the entries before the site's position are judged too.
  abbrev pub for_site_and_log : Bool → List ℕ → List ℕ → Demands
  for_site_and_log enough site log =
      for_lent enough (is_whole log) (entries_in log) site
      then good_to log (table_in table).sites (length (commands_of book)) (site_in site).position else Range
      ⨾ granted
