-- Which writes keep the tables and the register good.
-- Assumes nothing.
use mathlib.Core.Path.{◌≡◌, sym, ap, subst, ◌∙◌}
use mathlib.Core.Bool.{true, not}
use mathlib.Core.Logic.{⊎_elim}
use mathlib.Core.List.{List}
use Prim.Native.Nat.{ℕ, suc, ◌+◌, ◌*◌, ◌-◌, ◌^◌, ◌≤◌, ◌<◌}
use native.Mathlib.Omega.{arith}
use native.Mathlib.Decide.{ℕ_discrete}
use lib.IntN.{ℤ}
use lib.Dec.{eqb}
use lib.ListN.{length, take, drop, get_or}
use lib.Seq.{drop-drop}
use borrow.Author.Tests.{eqb-true}
use mir.Syntax.{w32}
use mir.Val.{SFits}
use Rattle.theory.specs.Counting.{left, either, never, last_or_below}
use Rattle.wire.specs.Wire.{value, read_le, bytes, splice}
use Rattle.wire.proofs.Laws.{length-bytes, length-splice, part_before, drop-after}
use Rattle.sets.specs.declared.Set.{Set}
use Rattle.sets.specs.Sets.{capacity, in_set, empty_of, with_of, union_of, without_of, within_of, read_set, write_set}
use Rattle.sets.proofs.Laws.{in_empty, in_with, in_union, in_without, within_at, within_of_lem, agree_set}
use Rattle.table.specs.Table.{max_sites}
use Rattle.register.specs.declared.Command.{Command}
use Rattle.register.specs.Register.{Within, Valid, bike_of}
use Rattle.register.specs.Lent.{register_of, bike_size, bike_bytes, Executed}
use Rattle.register.proofs.Laws.{kept-within}
use Rattle.register.proofs.Lent.{length-bike}
use Rattle.layout.specs.Layout.{site_size, heard_place, register_place, deliveries_place, site_rounds, row_size, row_at, cell, slot, heard_in, delivery_bytes}
use Rattle.layout.specs.Good.{GoodTables}
use Rattle.wire.proofs.Agree.{Agree, agree_before, agree_after, agree_equal, agree_trans, agree_part}
use Rattle.layout.proofs.Agree.{cell_inside, heard_agree, register_agree}
use Rattle.layout.proofs.Senders.{in_table_lem, table_bounds, kept, here, elsewhere}
use Rattle.layout.proofs.Deliveries.{length_delivery, delivery_back}

-- ---- sets within a book

pub within_empty : (n : ℕ) → within_of empty_of n ≡ true
within_empty n = within_of_lem empty_of n (λ m l h. absurd (never (in_set empty_of m) h (in_empty m)))

pub within-with : (a : Set) (n m : ℕ) → within_of a n ≡ true → m < n → within_of (with_of a m) n ≡ true
within-with a n m h k =
    within_of_lem (with_of a m) n
    (λ j l e. ⊎_elim (λ x. within_at a n h j l x) (λ x. let q = eqb-true j m x in omega arith) (either (in_set a j) (eqb j m) (sym (in_with a m j) ∙ e)))

pub within_union : (a b : Set) (n : ℕ) → within_of a n ≡ true → within_of b n ≡ true → within_of (union_of a b) n ≡ true
within_union a b n h k =
    within_of_lem (union_of a b) n
    (λ m l e. ⊎_elim (λ x. within_at a n h m l x) (λ x. within_at b n k m l x) (either (in_set a m) (in_set b m) (sym (in_union a b m) ∙ e)))

pub within_without : (a b : Set) (n : ℕ) → within_of a n ≡ true → within_of (without_of a b) n ≡ true
within_without a b n h =
    within_of_lem (without_of a b) n (λ m l e. within_at a n h m l (left (in_set a m) (not (in_set b m)) (sym (in_without a b m) ∙ e)))

-- ---- writes outside the tables, and inside each

module _ (sites commands n k : ℕ) where
  -- Nothing but the register changes, and its readings stay in range.
  pub tables_register : {b b' : List ℕ} → n ≤ capacity → Agree b b' heard_place (row_at k) → Agree b b' deliveries_place heard_place → Within (register_of b' register_place)
      → GoodTables sites commands n k b → GoodTables sites commands n k b'
  tables_register l g d w old =
      record {
        heard = λ j r m. let i = cell_inside k j r m in ap (λ (s : Set). within_of s commands) (agree_set (cell j r) g i.0 i.1) ∙ old.heard j r m;
        silent = λ j r m o. let i = cell_inside k j r m in g.reads 8 (cell j r) i.0 i.1 ∙ old.silent j r m o;
        readings = w;
        recorded = λ i m. subst (λ (x : ℕ). x < commands) (sym (d.reads 1 (slot i) (omega arith) (omega arith))) (old.recorded i m);
        rest =
            λ i m o. (
              d.reads 1 (slot i) (omega arith) (omega arith) ∙ (old.rest i m o).0,
              d.reads 4 (slot i + 1) (omega arith) (omega arith) ∙ (old.rest i m o).1,
            );
      }

  -- The tables and the register stay as they are.
  pub tables_agree : {b b' : List ℕ} → n ≤ capacity → Agree b b' register_place (row_at k) → GoodTables sites commands n k b → GoodTables sites commands n k b'
  tables_agree {b} {b'} l g old =
      tables_register l (agree_part heard_place (row_at k) g (omega arith) (omega arith)) (agree_part deliveries_place heard_place g (omega arith) (omega arith))
      (subst Within (sym (register_agree (agree_part register_place deliveries_place g (omega arith) (omega arith)))) old.readings) old

  -- A delivery of a command of the book is recorded at the next place.
  pub tables_recorded : (b : List ℕ) (m : ℕ) (z : ℤ) → length b ≡ site_size → n < capacity → m < commands → m < 256 → SFits w32 z
      → GoodTables sites commands n k b → GoodTables sites commands (suc n) k (splice b (slot n) (delivery_bytes m z))
  tables_recorded b m z size l h s f old =
      let q = length_delivery m z in
      let before : Agree b (splice b (slot n) (delivery_bytes m z)) register_place (slot n) = agree_before b (slot n) (delivery_bytes m z) register_place (omega arith) in
      let after : Agree b (splice b (slot n) (delivery_bytes m z)) (slot (suc n)) (row_at k) =
      agree_after b (slot n) (delivery_bytes m z) (slot (suc n)) (row_at k) (omega arith) (omega arith) in
      let new : read_le 1 (splice b (slot n) (delivery_bytes m z)) (slot n) ≡ m = λ i. (delivery_back b n m z (omega arith) s f i).command in
      record {
        heard = λ j r o. let i = cell_inside k j r o in ap (λ (s : Set). within_of s commands) (agree_set (cell j r) after (omega (arith, i.0)) i.1) ∙ old.heard j r o;
        silent = λ j r o p. let i = cell_inside k j r o in after.reads 8 (cell j r) (omega (arith, i.0)) i.1 ∙ old.silent j r o p;
        readings = subst Within (sym (register_agree (agree_part register_place deliveries_place before (omega arith) (omega arith)))) old.readings;
        recorded =
            λ i o.
            ⊎_elim (λ e. subst (λ (x : ℕ). x < commands) (sym (ap (λ (x : ℕ). read_le 1 (splice b (slot n) (delivery_bytes m z)) (slot x)) e ∙ new)) h)
            (λ p. subst (λ (x : ℕ). x < commands) (sym (before.reads 1 (slot i) (omega arith) (omega arith))) (old.recorded i p))
            (last_or_below i n o);
        rest =
            λ i o p. (
              after.reads 1 (slot i) (omega arith) (omega arith) ∙ (old.rest i (omega arith) p).0,
              after.reads 4 (slot i + 1) (omega arith) (omega arith) ∙ (old.rest i (omega arith) p).1,
            );
      }

-- A command is executed on the register.
pub record Apart (b b' : List ℕ) : Type 0 where
  pub header : take register_place b' ≡ take register_place b
  pub deliveries : Agree b b' deliveries_place heard_place
  pub rest : drop heard_place b' ≡ drop heard_place b
  pub size : length b' ≡ site_size

pub executed_apart : (c : Command) (b : List ℕ) {b' : List ℕ} {z : ℤ} → length b ≡ site_size → Valid c → Executed c register_place b b' z → Apart b b'
executed_apart c b {b'} size v x =
    let l = v.bike in
    let q = length-bike (register_of b' register_place (bike_of c)) in
    let at = register_place + bike_size * bike_of c in
    let bs = bike_bytes (register_of b' register_place (bike_of c)) in
    record {
      header = ap (take register_place) x.elsewhere ∙ part_before b at bs register_place 0 (omega arith) (omega arith);
      deliveries = agree_trans (agree_after b at bs deliveries_place heard_place (omega arith) (omega arith)) (agree_equal deliveries_place heard_place x.elsewhere);
      rest = ap (drop heard_place) x.elsewhere ∙ drop-after b at bs heard_place (omega arith) (omega arith);
      size = ap length x.elsewhere ∙ length-splice b at bs (omega arith) ∙ size;
    }

-- What stands from the table of sets heard on is read alike where it is the same.
pub rest_agree : (k : ℕ) {b b' : List ℕ} → drop heard_place b' ≡ drop heard_place b → Agree b b' heard_place (row_at k)
unfolding read_le
rest_agree k {b} {b'} e =
    record {
      reads = λ n i l m.
          let q : heard_place + (i - heard_place) ≡ i = omega arith in
          ap (λ (x : List ℕ). value (take n x))
          (ap (λ (p : ℕ). drop p b') (sym q) ∙ sym (drop-drop (i - heard_place) heard_place b') ∙ ap (drop (i - heard_place)) e ∙ drop-drop (i - heard_place) heard_place b
          ∙ ap (λ (p : ℕ). drop p b) q);
    }

pub rest_heard : (k : ℕ) (b b' : List ℕ) → drop heard_place b' ≡ drop heard_place b → heard_in k b' ≡ heard_in k b
rest_heard k b b' e = heard_agree k (rest_agree k e)

pub rows-past : (k : ℕ) (b b' : List ℕ) → drop heard_place b' ≡ drop heard_place b → drop (row_at k) b' ≡ drop (row_at k) b
rows-past k b b' e = sym (drop-drop (row_size * k) heard_place b') ∙ ap (drop (row_size * k)) e ∙ drop-drop (row_size * k) heard_place b

pub tables_executed : (sites commands n k : ℕ) (c : Command) (b : List ℕ) {b' : List ℕ} {z : ℤ} → length b ≡ site_size → n ≤ capacity → Valid c
    → Executed c register_place b b' z
    → GoodTables sites commands n k b → GoodTables sites commands n k b'
tables_executed sites commands n k c b size l v x old =
    let a = executed_apart c b size v x in
    tables_register sites commands n k l (rest_agree k a.rest) a.deliveries
    (subst Within (sym x.register) (kept-within c (register_of b register_place) v old.readings)) old

-- An acknowledgment of a sender that there is, and within the book, is kept in a row that there is.
module _ (b : List ℕ) (small : (i : ℕ) → get_or b i 0 < 256) (size : length b ≡ site_size) (j r : ℕ) (x : Set) (fits : x.bits < 2 ^ 64)
    (hj : j < max_sites) (h1 : 1 ≤ r) (h33 : r ≤ site_rounds) where
  word_of : {a c : Set} → a ≡ c → a.bits ≡ c.bits
  word_of e = λ i. (e i).bits

  -- Nothing before the table of sets heard changes.
  pub heard_apart : Agree b (kept b small size j r x fits hj h1 h33) 0 heard_place
  unfolding write_set
  heard_apart =
      agree_part 0 heard_place (agree_before b (cell j r) (bytes 8 (union_of (read_set b (cell j r)) x).bits) 0 (omega arith)) (omega arith) (omega arith)

  module _ (k : ℕ) (hr : r ≤ k) (hk : k ≤ site_rounds) where
    -- Nothing after the rows changes.
    pub heard_past : drop (row_at k) (kept b small size j r x fits hj h1 h33) ≡ drop (row_at k) b
    unfolding write_set
    heard_past =
        let q = length-bytes 8 (union_of (read_set b (cell j r)) x).bits in
        drop-after b (cell j r) (bytes 8 (union_of (read_set b (cell j r)) x).bits) (row_at k) (omega arith) (omega arith)

    pub tables_heard : (sites commands n : ℕ) → n ≤ capacity → j < sites → within_of x commands ≡ true → GoodTables sites commands n k b
        → GoodTables sites commands n k (kept b small size j r x fits hj h1 h33)
    unfolding read_set
    tables_heard sites commands n l hs hx old =
        let new = kept b small size j r x fits hj h1 h33 in
        record {
          heard =
              λ i s m.
              let w = table_bounds k i s m in
              elim (ℕ_discrete i j) [
                | yes ei ↦ elim (ℕ_discrete s r) [
                  | yes es ↦ ap (λ (p : ℕ). within_of (read_set new p) commands) (λ y. cell (ei y) (es y))
                      ∙ ap (λ (y : Set). within_of y commands) (here b small size j r x fits hj h1 h33)
                      ∙ within_union (read_set b (cell j r)) x commands (old.heard j r (in_table_lem k j r hj h1 hr)) hx
                  | no ns ↦ ap (λ (y : Set). within_of y commands) (elsewhere b small size j r x fits hj h1 h33 i s w.0 w.1 (omega (arith, w.2)) (λ _ e. ns e)) ∙ old.heard i s m
                ]
                | no ni ↦ ap (λ (y : Set). within_of y commands) (elsewhere b small size j r x fits hj h1 h33 i s w.0 w.1 (omega (arith, w.2)) (λ e _. ni e)) ∙ old.heard i s m
              ];
          silent =
              λ i s m o.
              let w = table_bounds k i s m in
              word_of (elsewhere b small size j r x fits hj h1 h33 i s w.0 w.1 (omega (arith, w.2)) (λ e _. omega arith)) ∙ old.silent i s m o;
          readings = subst Within (sym (register_agree (agree_part register_place deliveries_place heard_apart (omega arith) (omega arith)))) old.readings;
          recorded = λ i m. subst (λ (y : ℕ). y < commands) (sym (heard_apart.reads 1 (slot i) (omega arith) (omega arith))) (old.recorded i m);
          rest =
              λ i m o. (
                heard_apart.reads 1 (slot i) (omega arith) (omega arith) ∙ (old.rest i m o).0,
                heard_apart.reads 4 (slot i + 1) (omega arith) (omega arith) ∙ (old.rest i m o).1,
              );
        }
