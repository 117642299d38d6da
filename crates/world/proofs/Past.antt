-- What is past the rows of the sites: nothing changes there, step after step.
-- Assumes nothing.
use mathlib.Core.Path.{◌≡◌, refl, sym, ap, subst, ◌∙◌}
use mathlib.Core.Bool.{Bool, true, false}
use mathlib.Core.List.{List}
use Prim.Native.Nat.{ℕ, ◌+◌, ◌*◌, ◌-◌, ◌≤◌}
use native.Mathlib.Omega.{arith}
use native.Mathlib.Decide.{ℕ_discrete}
use lib.Dec.{leb}
use lib.ListN.{length, drop}
use lib.Seq.{drop-drop}
use borrow.Author.Tests.{leb-false}
use Rattle.theory.specs.Sets.{pick}
use Rattle.wire.specs.Wire.{read_le, splice}
use Rattle.table.specs.declared.SiteTable.{SiteTable}
use Rattle.register.specs.declared.Command.{Command}
use Rattle.protocol.specs.Site as protocol
use Rattle.system.specs.Dash.{dash}
use Rattle.layout.specs.Layout.{site_at, site_size, span_place, row_size, row_at, span_with}
use Rattle.layout.specs.Good.{Holds}
use Rattle.world.specs.World.{PastKept, PastRows}
use Rattle.world.proofs.Sites.{site_same, site_other}

pub past_same : (b : List ℕ) → PastKept b b
past_same b = record { rows = omega arith; past = refl }

-- What is the same past some rows is so past more of them.
pub further : (k m : ℕ) (a b : List ℕ) → k ≤ m → drop (row_at k) b ≡ drop (row_at k) a → drop (row_at m) b ≡ drop (row_at m) a
further k m a b l e =
    let q : row_at k + row_size * (m - k) ≡ row_at m = omega arith in
    ap (λ (n : ℕ). drop n b) (sym q) ∙ sym (drop-drop (row_size * (m - k)) (row_at k) b) ∙ ap (drop (row_size * (m - k))) e
    ∙ drop-drop (row_size * (m - k)) (row_at k) a ∙ ap (λ (n : ℕ). drop n a) q

pub past_more : {a b c : List ℕ} → PastKept a b → PastKept b c → PastKept a c
past_more {a} {b} {c} p q =
    let l = p.rows in
    let m = q.rows in
    record { rows = omega arith; past = q.past ∙ further (read_le 2 b span_place) (read_le 2 c span_place) a b m p.past }

-- A round that is reached leaves no fewer rows.
pub rows_grow : (k r : ℕ) → k ≤ span_with k r
rows_grow k r = go (leb r k) refl
  where
    go : (t : Bool) → leb r k ≡ t → k ≤ pick t k r
    go true e = omega arith
    go false e = let l = leb-false r k e in omega arith

-- Bytes that hold a site over others, with no fewer rows.
pub past-held : (t : SiteTable) (book : List Command) {k : ℕ} {before b : List ℕ} {s : protocol.Site (dash t book)} → read_le 2 before span_place ≤ k
    → Holds t book k before b s → PastKept before b
past-held t book {k} {before} {b} l h =
    record {
      rows = subst (λ (n : ℕ). read_le 2 before span_place ≤ n) (sym h.span) l;
      past = subst (λ (n : ℕ). drop (row_at n) b ≡ drop (row_at n) before) (sym h.span) h.past;
    }

-- One site of n has other bytes.
pub past-put : (n : ℕ) (sites : List ℕ) (i : ℕ) (ys : List ℕ) → i * site_size + site_size ≤ length sites → length ys ≡ site_size → PastKept (site_at sites i) ys
    → PastRows n sites (splice sites (i * site_size) ys)
past-put n sites i ys room size h j l =
    elim (ℕ_discrete j i) [
      | yes e ↦
          subst (λ (m : ℕ). PastKept (site_at sites m) (site_at (splice sites (i * site_size) ys) m)) (sym e)
          (subst (PastKept (site_at sites i)) (sym (site_same sites i ys room size)) h)
      | no m ↦ subst (PastKept (site_at sites j)) (sym (site_other sites i ys room size j m)) (past_same (site_at sites j))
    ]
