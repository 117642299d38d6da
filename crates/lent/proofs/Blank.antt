-- Bytes whose first are 0, up to the table of sets heard: a fresh site, once its round is written.
-- Assumes nothing.
use mathlib.Core.Path.{◌≡◌, refl, sym, ap, subst, ◌∙◌}
use mathlib.Core.Bool.{Bool, true, false, ◌&&◌}
use mathlib.Core.List.{List, ◌++◌}
use Prim.Native.Nat.{ℕ, ◌+◌, ◌*◌, ◌≤◌}
use native.Mathlib.Omega.{arith}
use lib.Dec.{ltb, lit<, lit≤}
use lib.ListN.{length, take, drop, replicate, length-replicate, length-take}
use borrow.Author.Tests.{ltb-true}
use Rattle.theory.specs.Sets.{pick}
use Rattle.wire.specs.Wire.{bytes, read_le, splice}
use Rattle.wire.proofs.Laws.{length-splice, drop-after}
use Rattle.wire.proofs.Small.{Small, read_zeros}
use Rattle.sets.specs.Sets.{has, empty_of}
use Rattle.sets.proofs.Laws.{in_empty}
use Rattle.table.specs.declared.SiteTable.{SiteTable}
use Rattle.register.specs.declared.Command.{Command}
use Rattle.register.specs.Register.{bikes, bike, initial, Within}
use Rattle.register.specs.Lent.{bike_size, bike_in, register_of}
use Rattle.register.proofs.Laws.{initial-within}
use Rattle.protocol.specs.Site as protocol
use Rattle.system.specs.Dash.{dash}
use Rattle.layout.specs.declared.Phase.TheVariants.{Acknowledging}
use Rattle.layout.specs.declared.Site.{Site}
use Rattle.layout.specs.Layout.{site_size, register_place, heard_place, in_table, cell, slot, numbers_bytes, sets_bytes, head_bytes, heard_in}
use Rattle.layout.specs.Good.{Fit, GoodHead, GoodTables, Holds}
use Rattle.layout.proofs.Senders.{table_bounds}
use Rattle.layout.proofs.Tables.{within_empty}
use Rattle.layout.proofs.Finish.{finish}
use Rattle.lent.proofs.RoundTrip.{deliveries_zero}

-- The header of a fresh site.
abbrev fresh_head : Site
fresh_head =
    record {
      round = 1;
      phase = Acknowledging;
      position = 0;
      deliveries = 0;
      span = 0;
      received = empty_of;
      delivered = empty_of;
      pending = empty_of;
      fast = empty_of;
    }

fresh_fit : Fit fresh_head
fresh_fit =
    record {
      round = lit< tt;
      deliveries = lit< tt;
      span = lit< tt;
      position = lit< tt;
      received = lit< tt;
      delivered = lit< tt;
      pending = lit< tt;
      fast = lit< tt;
      nc = lit< tt;
      c = lit< tt;
    }

fresh_good : (commands : ℕ) → GoodHead commands fresh_head
fresh_good commands =
    let e = within_empty commands in
    record
    { first = lit≤ tt; last = lit≤ tt; few = omega arith; room = lit≤ tt; span = lit≤ tt; received = e; delivered = e; pending = e; fast = e; nc = e; c = e }

-- A table without rows has no set.
no_row : (j r : ℕ) → in_table 0 j r ≡ true → ⊥
no_row j r e = let w = table_bounds 0 j r e in omega (arith, w.1, w.2)

heard_none : (b : List ℕ) → heard_in 0 b ≡ (λ j r m. false)
unfolding heard_in
heard_none b = λ i j r m. point j r m (in_table 0 j r) refl i
  where
    point : (j r m : ℕ) (t : Bool) → in_table 0 j r ≡ t → (t && has (read_le 8 b (cell j r)) m) ≡ false
    point j r m true e = absurd (no_row j r e)
    point j r m false e = refl

module _ (b : List ℕ) (size : length b ≡ site_size) where
  -- The bytes with those before the table of sets heard 0.
  blank : List ℕ
  blank = splice b 0 (replicate heard_place 0)

  zeros : length (replicate {A = ℕ} heard_place 0) ≡ heard_place
  zeros = length-replicate {A = ℕ} heard_place 0

  blank_size : length blank ≡ site_size
  unfolding blank
  blank_size = let q = zeros in length-splice b 0 (replicate heard_place 0) (omega arith) ∙ size

  blank_past : drop heard_place blank ≡ drop heard_place b
  unfolding blank
  blank_past = let q = zeros in drop-after b 0 (replicate heard_place 0) heard_place (omega arith) (omega arith)

  read_blank : (n k : ℕ) → k + n ≤ heard_place → read_le n blank k ≡ 0
  unfolding blank
  read_blank n k h = read_zeros n b 0 heard_place k (omega arith) (omega arith) h

  register_blank : register_of blank register_place ≡ initial
  register_blank = λ i k. point k (ltb k bikes) refl i
    where
      point : (k : ℕ) (t : Bool) → ltb k bikes ≡ t → pick t (bike_in blank (register_place + bike_size * k)) (bike 0 0) ≡ bike 0 0
      point k true e =
          let l = ltb-true k bikes e in
          λ i. bike (read_blank 4 (register_place + bike_size * k) (omega arith) i) (read_blank 4 (register_place + bike_size * k + 4) (omega arith) i)
      point k false e = refl

  tables_blank : (sites commands : ℕ) → GoodTables sites commands 0 0 blank
  tables_blank sites commands =
      record {
        heard = λ j r e. absurd (no_row j r e);
        silent = λ j r e l. absurd (no_row j r e);
        readings = subst Within (sym register_blank) initial-within;
        recorded = λ k h. absurd (omega arith);
        rest = λ k h l. (read_blank 1 (slot k) (omega arith), read_blank 4 (slot k + 1) (omega arith));
      }

  -- The round alone is written of a fresh header: the rest of it is 0.
  round-only : splice blank 0 (bytes 1 1) ≡ splice blank 0 (head_bytes fresh_head)
  unfolding blank splice bytes numbers_bytes sets_bytes
  round-only = refl

  -- What the code leaves where it made the first bytes 0.
  cleared : {new : List ℕ} → new ≡ replicate (length (take heard_place b)) 0 → new ++ drop heard_place b ≡ blank
  unfolding blank splice
  cleared e =
      let q : length (take heard_place b) ≡ heard_place = let n = length-take heard_place b in omega arith in
      ap (λ (l : List ℕ). l ++ drop heard_place b) (e ∙ ap (λ (n : ℕ). replicate n 0) q) ∙ ap (λ (n : ℕ). replicate heard_place 0 ++ drop n b) (sym zeros)

  -- The first round over bytes that are 0 makes a fresh site.
  pub fresh_holds : (t : SiteTable) (book : List Command) {new b' : List ℕ} → new ≡ replicate (length (take heard_place b)) 0
      → b' ≡ splice (new ++ drop heard_place b) 0 (bytes 1 1) → Small b' → Holds t book 0 b b' (protocol.fresh (dash t book))
  fresh_holds t book en eb small =
      finish t book b blank fresh_head blank_size (eb ∙ ap (λ (l : List ℕ). splice l 0 (bytes 1 1)) (cleared en) ∙ round-only) small fresh_fit
      (fresh_good (length book)) (tables_blank t.sites (length book)) blank_past
      (λ i.
      record {
        received = λ m. in_empty m i;
        delivered = λ m. in_empty m i;
        pending = λ m. in_empty m i;
        fast = λ m. in_empty m i;
        round = 1;
        phase = protocol.acknowledging;
        position = 0;
        heard = heard_none blank i;
        ledger = record { state = register_blank i; deliveries = deliveries_zero blank i };
      })
