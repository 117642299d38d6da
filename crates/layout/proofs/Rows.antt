-- Laws of a table of sets heard that gets rows up to a round: the new ones are empty, and nothing else changes but the span.
-- Assumes nothing.
use mathlib.Core.Path.{◌≡◌, refl, sym, ap, subst, ◌∙◌}
use mathlib.Core.Bool.{Bool, true, false, ◌&&◌}
use mathlib.Core.List.{List}
use mathlib.Core.Logic.{◌⊎◌, inl, inr, ⊎_elim}
use Prim.Native.Nat.{ℕ, ◌+◌, ◌-◌, ◌≤◌, ◌<◌}
use native.Mathlib.Omega.{arith}
use native.Mathlib.Decide.{dec_lt}
use lib.Dec.{leb}
use lib.ListN.{length, drop, replicate, length-replicate}
use borrow.Author.Tests.{leb-true, leb-false, le-leb, lt-leb}
use Rattle.theory.specs.Sets.{pick}
use Rattle.theory.specs.Counting.{never}
use Rattle.wire.specs.Wire.{read_le, bytes, splice}
use Rattle.wire.proofs.Laws.{length-bytes, length-splice, drop-after}
use Rattle.wire.proofs.Small.{Small, splice_small, zeros_small, bytes_small, read_zeros}
use Rattle.sets.specs.Sets.{has, within_of, read_set}
use Rattle.sets.proofs.Laws.{has_empty}
use Rattle.register.specs.Register.{Within}
use Rattle.layout.specs.declared.Site.{Site}
use Rattle.layout.specs.Layout.{site_size, span_place, register_place, deliveries_place, heard_place, site_rounds, row_at, in_table, cell, slot, heard_in, Begins, span_with, emptied, reached}
use Rattle.layout.specs.Good.{GoodTables}
use Rattle.wire.proofs.Agree.{Agree, agree_before, agree_after, agree_trans, agree_part}
use Rattle.layout.proofs.Agree.{cell_inside, register_agree}
use Rattle.layout.proofs.Fields.{begins_still, with_span, span_begins}
use Rattle.layout.proofs.Senders.{in_table_lem, table_bounds}
use Rattle.layout.proofs.Tables.{within_empty}

-- What reaching a round makes of bytes with k rows.
pub record Reaches (k r : ℕ) (b a : List ℕ) : Type 0 where
  pub size : length a ≡ site_size
  pub small : Small a
  pub header : (h : Site) → h.span ≡ k → Begins h b → Begins (with_span h (span_with k r)) a
  pub before : Agree b a register_place heard_place
  pub heard : heard_in (span_with k r) a ≡ heard_in k b
  pub tables : (sites commands n : ℕ) → n ≤ 64 → GoodTables sites commands n k b → GoodTables sites commands n (span_with k r) a
  pub past : drop (row_at (span_with k r)) a ≡ drop (row_at (span_with k r)) b
  pub least : r ≤ span_with k r
  pub most : span_with k r ≤ site_rounds

module _ (b : List ℕ) (small : Small b) (size : length b ≡ site_size) (k r : ℕ) (rows : k ≤ site_rounds) (last : r ≤ site_rounds) where
  -- The round has a row.
  there : leb r k ≡ true → Reaches k r b b
  there e =
      let l = leb-true r k e in
      let q : k ≡ span_with k r = ap (λ (t : Bool). pick t k r) (sym e) in
      record {
        size = size;
        small = small;
        header = λ h eh g. subst (λ (n : ℕ). Begins (with_span h n) b) (eh ∙ q) g;
        before = record { reads = λ n i _ _. refl };
        heard = λ i. heard_in (sym q i) b;
        tables = λ sites commands n _ g. subst (λ (m : ℕ). GoodTables sites commands n m b) q g;
        past = refl;
        least = subst (λ (n : ℕ). r ≤ n) q l;
        most = subst (λ (n : ℕ). n ≤ site_rounds) q rows;
      }

  -- It has none yet.
  module _ (l : k < r) where
    rowed : List ℕ
    rowed = emptied b k r

    grown : List ℕ
    grown = splice rowed span_place (bytes 2 r)

    zeros : length (replicate {A = ℕ} (row_at r - row_at k) 0) ≡ row_at r - row_at k
    zeros = length-replicate {A = ℕ} (row_at r - row_at k) 0

    rowed_size : length rowed ≡ site_size
    unfolding rowed
    rowed_size = let q = zeros in length-splice b (row_at k) (replicate (row_at r - row_at k) 0) (omega arith) ∙ size

    grown_size : length grown ≡ site_size
    unfolding grown
    grown_size = let q = length-bytes 2 r in let s = rowed_size in length-splice rowed span_place (bytes 2 r) (omega arith) ∙ s

    -- The span's write is in the header.
    span_apart : (to : ℕ) → Agree rowed grown register_place to
    unfolding grown
    span_apart to = let q = length-bytes 2 r in let s = rowed_size in agree_after rowed span_place (bytes 2 r) register_place to (omega arith) (omega arith)

    old : Agree b grown register_place (row_at k)
    unfolding rowed
    old = agree_trans (agree_before b (row_at k) (replicate (row_at r - row_at k) 0) register_place (omega arith)) (span_apart (row_at k))

    -- A set of a new row is empty.
    new : (j s : ℕ) → in_table r j s ≡ true → k < s → read_le 8 grown (cell j s) ≡ 0
    unfolding rowed
    new j s e m =
        let w = table_bounds r j s e in
        let i = cell_inside r j s e in
        (span_apart (row_at r)).reads 8 (cell j s) (omega (arith, i.0)) i.1
        ∙ read_zeros 8 b (row_at k) (row_at r - row_at k) (cell j s) (omega arith) (omega (arith, w.0, w.1, w.2)) (omega (arith, i.1))

    heard_point : (j s m : ℕ) (t u : Bool) → in_table r j s ≡ t → in_table k j s ≡ u
        → (t && has (read_le 8 grown (cell j s)) m) ≡ (u && has (read_le 8 b (cell j s)) m)
    heard_point j s m true true et eu = let i = cell_inside k j s eu in ap (λ (x : ℕ). has x m) (old.reads 8 (cell j s) (omega (arith, i.0)) i.1)
    heard_point j s m true false et eu =
        let w = table_bounds r j s et in
        ap (λ (x : ℕ). has x m)
        (new j s et (elim (dec_lt k s) [ yes h ↦ h | no h ↦ absurd (never (in_table k j s) (in_table_lem k j s w.0 w.1 (omega arith)) eu) ]))
        ∙ has_empty m
    heard_point j s m false true et eu =
        let w = table_bounds k j s eu in absurd (never (in_table r j s) (in_table_lem r j s w.0 w.1 (omega (arith, w.2))) et)
    heard_point j s m false false et eu = refl

    -- The set of a row is the old one, or empty.
    set_of : (j s : ℕ) → in_table r j s ≡ true → ((in_table k j s ≡ true) × (read_le 8 grown (cell j s) ≡ read_le 8 b (cell j s))) ⊎ (read_le 8 grown (cell j s) ≡ 0)
    set_of j s e =
        let w = table_bounds r j s e in
        elim (dec_lt k s) [
          | yes h ↦ inr (new j s e h)
          | no h ↦ inl (
              let o : in_table k j s ≡ true = in_table_lem k j s w.0 w.1 (omega arith) in
              let i = cell_inside k j s o in
              (o, old.reads 8 (cell j s) (omega (arith, i.0)) i.1)
              )
        ]

    within_of-set : (commands j s : ℕ) → read_le 8 grown (cell j s) ≡ 0 → within_of (read_set grown (cell j s)) commands ≡ true
    unfolding read_set
    within_of-set commands j s e = ap (λ (n : ℕ). within_of (record { bits = n }) commands) e ∙ within_empty commands

    same_set : (commands j s : ℕ) → read_le 8 grown (cell j s) ≡ read_le 8 b (cell j s) → within_of (read_set grown (cell j s)) commands ≡ within_of (read_set b (cell j s)) commands
    unfolding read_set
    same_set commands j s e = ap (λ (n : ℕ). within_of (record { bits = n }) commands) e

    grown_tables : (sites commands n : ℕ) → n ≤ 64 → GoodTables sites commands n k b → GoodTables sites commands n r grown
    grown_tables sites commands n few g =
        record {
          heard = λ j s m. ⊎_elim (λ o. same_set commands j s o.1 ∙ g.heard j s o.0) (λ o. within_of-set commands j s o) (set_of j s m);
          silent = λ j s m h. ⊎_elim (λ o. o.1 ∙ g.silent j s o.0 h) (λ o. o) (set_of j s m);
          readings = subst Within (sym (register_agree (agree_part register_place deliveries_place old (omega arith) (omega arith)))) g.readings;
          recorded = λ i m. subst (λ (y : ℕ). y < commands) (sym (old.reads 1 (slot i) (omega arith) (omega arith))) (g.recorded i m);
          rest =
              λ i m o. (
                old.reads 1 (slot i) (omega arith) (omega arith) ∙ (g.rest i m o).0,
                old.reads 4 (slot i + 1) (omega arith) (omega arith) ∙ (g.rest i m o).1,
              );
        }

    grown_heard : heard_in r grown ≡ heard_in k b
    unfolding heard_in
    grown_heard = λ i j s m. heard_point j s m (in_table r j s) (in_table k j s) refl refl i

    grown-past : drop (row_at r) grown ≡ drop (row_at r) b
    unfolding grown rowed
    grown-past =
        let q = length-bytes 2 r in
        let z = zeros in
        let s = rowed_size in
        drop-after rowed span_place (bytes 2 r) (row_at r) (omega arith) (omega arith)
        ∙ drop-after b (row_at k) (replicate (row_at r - row_at k) 0) (row_at r) (omega arith) (omega arith)

    grown_small : Small grown
    unfolding grown rowed
    grown_small =
        splice_small rowed span_place (bytes 2 r) (splice_small b (row_at k) (replicate (row_at r - row_at k) 0) small (zeros_small (row_at r - row_at k))) (bytes_small 2 r)

    grown_header : (h : Site) → Begins h b → Begins (with_span h r) grown
    unfolding grown rowed
    grown_header h g = span_begins h rowed (begins_still b h (row_at k) (replicate (row_at r - row_at k) 0) (omega arith) (omega arith) g) r

    pub new-rows : leb r k ≡ false → Reaches k r b (splice (emptied b k r) span_place (bytes 2 r))
    unfolding grown rowed
    new-rows e =
        let q : r ≡ span_with k r = ap (λ (t : Bool). pick t k r) (sym e) in
        record {
          size = grown_size;
          small = grown_small;
          header = λ h _ g. subst (λ (n : ℕ). Begins (with_span h n) grown) q (grown_header h g);
          before = agree_part register_place heard_place old (omega arith) (omega arith);
          heard = (λ i. heard_in (sym q i) grown) ∙ grown_heard;
          tables = λ sites commands n few g. subst (λ (m : ℕ). GoodTables sites commands n m grown) q (grown_tables sites commands n few g);
          past = subst (λ (n : ℕ). drop (row_at n) grown ≡ drop (row_at n) b) q grown-past;
          least = subst (λ (n : ℕ). r ≤ n) q (omega arith);
          most = subst (λ (n : ℕ). n ≤ site_rounds) q last;
        }

-- The bytes with rows up to a round.
pub reaches : (b : List ℕ) → Small b → length b ≡ site_size → (r : ℕ) → read_le 2 b span_place ≤ site_rounds → r ≤ site_rounds
    → Reaches (read_le 2 b span_place) r b (reached b r)
reaches b small size r rows last = go (leb r (read_le 2 b span_place)) refl
  where
    go : (t : Bool) → leb r (read_le 2 b span_place) ≡ t
        → Reaches (read_le 2 b span_place) r b
        (pick t b (splice (emptied b (read_le 2 b span_place) r) span_place (bytes 2 r)))
    go true e = there b small size (read_le 2 b span_place) r rows last e
    go false e = new-rows b small size (read_le 2 b span_place) r rows last (leb-false r (read_le 2 b span_place) e) e

-- ---- what the code of reach does

pub row_there : (b : List ℕ) (r : ℕ) {n : ℕ} → n ≡ read_le 2 b span_place → r ≤ n → b ≡ reached b r
row_there b r e l =
    ap (λ (t : Bool). pick t b (splice (emptied b (read_le 2 b span_place) r) span_place (bytes 2 r))) (sym (le-leb r (read_le 2 b span_place) (omega arith)))

pub rows_new : (b : List ℕ) (r : ℕ) {n : ℕ} {l₁ l₂ : List ℕ} → n ≡ read_le 2 b span_place → n < r
    → l₁ ≡ emptied b n r → l₂ ≡ splice l₁ span_place (bytes 2 r) → l₂ ≡ reached b r
rows_new b r {n} e g e₁ e₂ =
    let k = read_le 2 b span_place in
    e₂
    ∙ (λ i. splice ((e₁ ∙ ap (λ (m : ℕ). emptied b m r) e) i) span_place (bytes 2 r))
    ∙ ap (λ (t : Bool). pick t b (splice (emptied b k r) span_place (bytes 2 r))) (sym (lt-leb r k (omega arith)))
