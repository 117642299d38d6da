-- One site's part of the bytes of all sites: what it is after a site is written, and what is lent of it.
-- Assumes nothing.
use mathlib.Core.Path.{◌≡◌, sym, ap, subst, ◌∙◌}
use mathlib.Core.List.{List}
use mathlib.Core.Logic.{⊎_elim}
use Prim.Native.Nat.{ℕ, ◌+◌, ◌*◌, ◌≤◌, ◌<◌}
use native.Mathlib.Omega.{arith}
use lib.ListN.{length, take, drop, get_or, length-take, length-drop, get_or-eq_default}
use lib.Seq.{get_or-take, get_or-drop}
use borrow.Rule.Slice.PartMut.{put_mid}
use Rattle.theory.specs.Counting.{lt_or_le}
use Rattle.wire.specs.Wire.{splice}
use Rattle.wire.proofs.Laws.{part_same, part_before, drop-after, mid_splice}
use Rattle.layout.specs.Layout.{site_at, site_size, head_of}
use Rattle.world.specs.Parts.{AtSite}

-- Site i written over its part.
module _ (sites : List ℕ) (i : ℕ) (ys : List ℕ) (room : i * site_size + site_size ≤ length sites) (size : length ys ≡ site_size) where
  pub site_same : site_at (splice sites (i * site_size) ys) i ≡ ys
  unfolding site_at
  site_same =
      ap (λ (n : ℕ). take n (drop (i * site_size) (splice sites (i * site_size) ys))) (sym size) ∙ part_same sites (i * site_size) ys (omega arith)

  pub site_other : (j : ℕ) → (j ≡ i → ⊥) → site_at (splice sites (i * site_size) ys) j ≡ site_at sites j
  unfolding site_at
  site_other j n =
      ⊎_elim
      (λ l. part_before sites (i * site_size) ys site_size (j * site_size) (omega arith) (omega arith))
      (λ l. ap (take site_size) (drop-after sites (i * site_size) ys (j * site_size) (omega arith) (omega arith)))
      (lt_or_le j i)

-- The part that is lent, and the whole after it was given back.
module _ (sites : List ℕ) (i k : ℕ) (e : k ≡ site_size) where
  pub lent_part : take k (drop (i * site_size) sites) ≡ site_at sites i
  unfolding site_at
  lent_part = ap (λ (n : ℕ). take n (drop (i * site_size) sites)) e

  pub length_part : i * site_size + site_size ≤ length sites → length (take k (drop (i * site_size) sites)) ≡ site_size
  length_part h = omega (arith, length-take k (drop (i * site_size) sites), length-drop (i * site_size) sites)

  pub given_back : (ys : List ℕ) → length ys ≡ site_size → put_mid (i * site_size) k sites ys ≡ splice sites (i * site_size) ys
  given_back ys h = mid_splice (i * site_size) k sites ys (h ∙ sym e)

-- A part of bytes is bytes.
pub small_site : (sites : List ℕ) → ((k : ℕ) → get_or sites k 0 < 256) → (i k : ℕ) → get_or (site_at sites i) k 0 < 256
unfolding site_at
small_site sites small i k =
    ⊎_elim
    (λ l. subst (λ (x : ℕ). x < 256) (sym (get_or-take site_size (drop (i * site_size) sites) k 0 l ∙ get_or-drop (i * site_size) sites k 0)) (small (i * site_size + k)))
    (λ l.
    subst (λ (x : ℕ). x < 256)
    (sym (get_or-eq_default (take site_size (drop (i * site_size) sites)) 0 {n = k} (omega (arith, length-take site_size (drop (i * site_size) sites)))))
    (omega arith))
    (lt_or_le k site_size)

-- What a function promises of the part that it is lent.
pub at_site : (promise : List ℕ → List ℕ → Type 0) (sites : List ℕ) (i k : ℕ) (ys : List ℕ) → k ≡ site_size → i * site_size + site_size ≤ length sites
    → length ys ≡ length (take k (drop (i * site_size) sites)) → promise (take k (drop (i * site_size) sites)) ys
    → AtSite i promise sites (put_mid (i * site_size) k sites ys)
at_site promise sites i k ys e room size h =
    let z : length ys ≡ site_size = size ∙ length_part sites i k e room in
    record { new = ys; size = z; bytes = given_back sites i k e ys z; did = subst (λ (y : List ℕ). promise y ys) (lent_part sites i k e) h }

-- A site's header, read from its part.
pub head_at : (sites : List ℕ) (i k : ℕ) → k ≡ site_size → head_of (take k (drop (i * site_size) sites)) ≡ head_of (site_at sites i)
head_at sites i k e = ap head_of (lent_part sites i k e)
