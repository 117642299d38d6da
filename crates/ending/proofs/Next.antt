-- The header of the next round, written field by field over the one that stands there.
-- Assumes nothing.
use mathlib.Core.Path.{◌≡◌, refl, sym, ap, subst, ◌∙◌}
use mathlib.Core.List.{List}
use Prim.Native.Nat.{ℕ, ◌+◌, ◌≤◌, ◌<◌}
use lib.ListN.{get_or}
use Rattle.wire.specs.Wire.{bytes, splice}
use Rattle.sets.specs.declared.Set.{Set}
use Rattle.sets.specs.Sets.{empty_of, union_of, write_set}
use Rattle.recovery.specs.declared.Sets.{Sets}
use Rattle.layout.specs.declared.Phase.TheVariants.{Acknowledging}
use Rattle.layout.specs.declared.Site.{Site}
use Rattle.layout.specs.Layout.{site_rounds, round_place, count_place, delivered_place, pending_place, fast_place, head_of, numbers_bytes, sets_bytes, head_bytes, Begins, phased}
use Rattle.layout.specs.Good.{Good}
use Rattle.layout.proofs.Fields.{begins, in_head}
use Rattle.ending.specs.Ending.{ended}

next-written : (h : Site) (b : List ℕ) (s : Sets) (n : ℕ) → Begins h b
    → phased (write_set (write_set (write_set (splice (splice b round_place (bytes 1 (h.round + 1))) count_place (bytes 2 n)) delivered_place (union_of h.delivered (union_of s.nc s.c))) pending_place empty_of) fast_place empty_of) Acknowledging
    ≡ splice b 0 (head_bytes (ended h s n))
unfolding write_set splice numbers_bytes sets_bytes bytes
next-written h b s n e =
    in_head
    (λ l. phased (write_set (write_set (write_set (splice (splice l round_place (bytes 1 (h.round + 1))) count_place (bytes 2 n)) delivered_place (union_of h.delivered (union_of s.nc s.c))) pending_place empty_of) fast_place empty_of) Acknowledging)
    h (ended h s n) b (λ rest. refl) e

-- What the code of next_round does.
pub next_is : (b : List ℕ) (h : Site) (s : Sets) (n : ℕ) {u v : Set} {l₁ l₂ l₃ l₄ l₅ l₆ : List ℕ} → Begins h b
    → l₁ ≡ splice b round_place (bytes 1 (h.round + 1)) → l₂ ≡ splice l₁ count_place (bytes 2 n)
    → u ≡ union_of s.nc s.c → v ≡ union_of h.delivered u → l₃ ≡ write_set l₂ delivered_place v
    → l₄ ≡ write_set l₃ pending_place empty_of → l₅ ≡ write_set l₄ fast_place empty_of → l₆ ≡ phased l₅ Acknowledging
    → l₆ ≡ splice b 0 (head_bytes (ended h s n))
next_is b h s n hb e₁ e₂ eu ev e₃ e₄ e₅ e₆ =
    e₆ ∙ ap (λ (l : List ℕ). phased l Acknowledging) (e₅ ∙ ap (λ (l : List ℕ). write_set l fast_place empty_of) (e₄ ∙ ap (λ (l : List ℕ). write_set l pending_place empty_of)
    (e₃ ∙ (λ i. write_set ((e₂ ∙ ap (λ (l : List ℕ). splice l count_place (bytes 2 n)) e₁) i) delivered_place ((ev ∙ ap (union_of h.delivered) eu) i)))))
    ∙ next-written h b s n hb

-- The header that is read of good bytes stands there, in a round that there is.
pub read_head : {sites commands : ℕ} (b : List ℕ) → Good sites commands b → ((i : ℕ) → get_or b i 0 < 256) → {h : Site} → h ≡ head_of b → (h.round ≤ site_rounds) × Begins h b
read_head b good small eh = (subst (λ (x : Site). x.round ≤ site_rounds) (sym eh) good.head.last, begins b good small ∙ ap head_bytes (sym eh))
