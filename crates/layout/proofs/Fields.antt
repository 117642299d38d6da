-- Laws of single fields: a field written where it stands leaves the bytes of the header with that field.
-- Assumes nothing.
use mathlib.Core.Path.{◌≡◌, refl, sym, ap, ◌∙◌}
use mathlib.Core.List.{List, ◌++◌}
use Prim.Native.Nat.{ℕ, ◌≤◌, ◌<◌}
use lib.ListN.{length, take, drop, get_or, take-append-drop}
use lib.Seq.{take_at}
use Rattle.wire.specs.Wire.{bytes, splice}
use Rattle.wire.proofs.Laws.{part_before}
use Rattle.sets.specs.declared.Set.{Set}
use Rattle.sets.specs.Sets.{write_set}
use Rattle.layout.specs.declared.Proposal.{Proposal}
use Rattle.layout.specs.declared.Phase.{Phase}
use Rattle.layout.specs.declared.Site.{Site}
use Rattle.layout.specs.Layout.{phase_place, count_place, span_place, position_place, received_place, pending_place, fast_place, nc_place, c_place, register_place, head_of, phase_number, proposal_of, numbers_bytes, sets_bytes, head_bytes, Begins, phased}
use Rattle.layout.specs.Good.{Good}
use Rattle.layout.proofs.Header.{length-head, head_bytes_lem}

-- ---- what the code of layout does

pub phase_set : (b : List ℕ) (p : Phase) {n : ℕ} {q : Proposal} {l₁ l₂ l₃ : List ℕ} → q ≡ proposal_of p → n ≡ phase_number p
    → l₁ ≡ splice b phase_place (bytes 1 n) → l₂ ≡ write_set l₁ nc_place q.nc → l₃ ≡ write_set l₂ c_place q.c → l₃ ≡ phased b p
phase_set b p eq en e₁ e₂ e₃ =
    e₃ ∙ (λ i. write_set ((e₂ ∙ (λ j. write_set ((e₁ ∙ ap (λ (k : ℕ). splice b phase_place (bytes 1 k)) en) j) nc_place (eq j).nc)) i) c_place (eq i).c)

-- ---- the header in front of the bytes

-- Good bytes begin with those of the header that is read of them.
pub begins : {sites commands : ℕ} (b : List ℕ) → Good sites commands b → ((i : ℕ) → get_or b i 0 < 256) → Begins (head_of b) b
begins b g small =
    ap (take register_place) (sym (head_bytes_lem b small g.size g.tag g.idle)) ∙ take_at (head_bytes (head_of b)) (drop register_place b) register_place (length-head (head_of b))

-- They still do after a write behind it.
pub begins_still : (b : List ℕ) (h : Site) (at : ℕ) (bs : List ℕ) → at ≤ length b → register_place ≤ at → Begins h b → Begins h (splice b at bs)
begins_still b h at bs l m e = part_before b at bs register_place 0 l m ∙ e

-- What is left where a header is written.
over : (b : List ℕ) (h : Site) → splice b 0 (head_bytes h) ≡ head_bytes h ++ drop register_place b
unfolding splice numbers_bytes sets_bytes bytes
over b h = refl

-- A write that makes the header h of h₀, whatever stands after it, is that of the header h to bytes that begin with h₀.
pub in_head : (write : List ℕ → List ℕ) (h₀ h : Site) (b : List ℕ) → ((rest : List ℕ) → write (head_bytes h₀ ++ rest) ≡ head_bytes h ++ rest) → Begins h₀ b
    → write b ≡ splice b 0 (head_bytes h)
in_head write h₀ h b law e =
    ap write (sym (take-append-drop register_place b) ∙ ap (λ (l : List ℕ). l ++ drop register_place b) e) ∙ law (drop register_place b) ∙ sym (over b h)

-- ---- one field another

module _ (h : Site) where
  abbrev pub with_received : Set → Site
  with_received x =
      record {
        round = h.round;
        phase = h.phase;
        position = h.position;
        deliveries = h.deliveries;
        span = h.span;
        received = x;
        delivered = h.delivered;
        pending = h.pending;
        fast = h.fast;
      }

  abbrev pub with_position : ℕ → Site
  with_position n =
      record {
        round = h.round;
        phase = h.phase;
        position = n;
        deliveries = h.deliveries;
        span = h.span;
        received = h.received;
        delivered = h.delivered;
        pending = h.pending;
        fast = h.fast;
      }

  abbrev pub with_pending : Set → Site
  with_pending x =
      record {
        round = h.round;
        phase = h.phase;
        position = h.position;
        deliveries = h.deliveries;
        span = h.span;
        received = h.received;
        delivered = h.delivered;
        pending = x;
        fast = h.fast;
      }

  abbrev pub with_phase : Phase → Site
  with_phase p =
      record {
        round = h.round;
        phase = p;
        position = h.position;
        deliveries = h.deliveries;
        span = h.span;
        received = h.received;
        delivered = h.delivered;
        pending = h.pending;
        fast = h.fast;
      }

  abbrev pub with_span : ℕ → Site
  with_span k =
      record {
        round = h.round;
        phase = h.phase;
        position = h.position;
        deliveries = h.deliveries;
        span = k;
        received = h.received;
        delivered = h.delivered;
        pending = h.pending;
        fast = h.fast;
      }

  -- A delivery recorded, and the commands delivered fast.
  abbrev pub with_fast : ℕ → Set → Site
  with_fast n x =
      record {
        round = h.round;
        phase = h.phase;
        position = h.position;
        deliveries = n;
        span = h.span;
        received = h.received;
        delivered = h.delivered;
        pending = h.pending;
        fast = x;
      }

  module _ (b : List ℕ) (e : Begins h b) where
    pub received_written : (x : Set) → write_set b received_place x ≡ splice b 0 (head_bytes (with_received x))
    unfolding write_set splice numbers_bytes sets_bytes bytes
    received_written x = in_head (λ l. write_set l received_place x) h (with_received x) b (λ rest. refl) e

    pub position_written : (n : ℕ) → splice b position_place (bytes 2 n) ≡ splice b 0 (head_bytes (with_position n))
    unfolding splice numbers_bytes sets_bytes bytes
    position_written n = in_head (λ l. splice l position_place (bytes 2 n)) h (with_position n) b (λ rest. refl) e

    pub span_written : (k : ℕ) → splice b span_place (bytes 2 k) ≡ splice b 0 (head_bytes (with_span k))
    unfolding splice numbers_bytes sets_bytes bytes
    span_written k = in_head (λ l. splice l span_place (bytes 2 k)) h (with_span k) b (λ rest. refl) e

    -- The bytes begin with the header with another span.
    pub span_begins : (k : ℕ) → Begins (with_span k) (splice b span_place (bytes 2 k))
    span_begins k =
        ap (take register_place) (span_written k ∙ over b (with_span k)) ∙ take_at (head_bytes (with_span k)) (drop register_place b) register_place (length-head (with_span k))

    pub pending_written : (x : Set) → write_set b pending_place x ≡ splice b 0 (head_bytes (with_pending x))
    unfolding write_set splice numbers_bytes sets_bytes bytes
    pending_written x = in_head (λ l. write_set l pending_place x) h (with_pending x) b (λ rest. refl) e

    pub phase_written : (p : Phase) → phased b p ≡ splice b 0 (head_bytes (with_phase p))
    unfolding write_set splice numbers_bytes sets_bytes bytes
    phase_written p = in_head (λ l. phased l p) h (with_phase p) b (λ rest. refl) e

    pub fast_written : (n : ℕ) (x : Set) → splice (write_set b fast_place x) count_place (bytes 2 n) ≡ splice b 0 (head_bytes (with_fast n x))
    unfolding write_set splice numbers_bytes sets_bytes bytes
    fast_written n x = in_head (λ l. splice (write_set l fast_place x) count_place (bytes 2 n)) h (with_fast n x) b (λ rest. refl) e
