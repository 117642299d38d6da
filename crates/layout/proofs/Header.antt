-- Laws of a site's header: its bytes and what is read of them give each other back.
-- Assumes nothing.
use mathlib.Core.Path.{◌≡◌, refl, sym, ◌∙◌}
use mathlib.Core.List.{List, ◌++◌, append_assoc}
use Prim.Native.Nat.{ℕ, zero, suc, ◌+◌, ◌^◌, ◌≤◌, ◌<◌}
use native.Mathlib.Omega.{arith}
use lib.Dec.{lit<}
use lib.ListN.{length, drop, get_or}
use Rattle.wire.specs.Wire.{value, bytes, read_le, splice}
use Rattle.wire.proofs.Laws.{value-bytes, read_lt, peel}
use Rattle.sets.specs.declared.Set.{Set}
use Rattle.sets.specs.Sets.{read_set}
use Rattle.sets.proofs.Laws.{set_of-members}
use Rattle.layout.specs.declared.Phase.{Phase}
use Rattle.layout.specs.declared.Phase.TheVariants.{Acknowledging, Waiting}
use Rattle.layout.specs.declared.Site.{Site}
use Rattle.layout.specs.Layout.{site_size, round_place, phase_place, position_place, count_place, span_place, received_place, delivered_place, pending_place, fast_place, nc_place, c_place, register_place, head_of, phase_from, phase_seen, phase_for, phase_number, proposal_of, numbers_bytes, sets_bytes, head_bytes}
use Rattle.layout.specs.Good.{Fit}

pub phase_waiting : (n : ℕ) (nc c : Set) → (n ≡ 0 → ⊥) → Waiting (record { nc = nc; c = c }) ≡ phase_from n nc c
phase_waiting zero nc c h = absurd (h refl)
phase_waiting (suc n) nc c h = refl

pub length-head : (h : Site) → length (head_bytes h) ≡ register_place
unfolding numbers_bytes sets_bytes bytes
length-head h = refl

-- ---- what was written is read back

phase_back : (p : Phase) → (proposal_of p).nc.bits < 2 ^ 64 → (proposal_of p).c.bits < 2 ^ 64
    → phase_from (value (bytes 1 (phase_number p))) (record { bits = value (bytes 8 (proposal_of p).nc.bits) }) (record { bits = value (bytes 8 (proposal_of p).c.bits) }) ≡ p
unfolding value bytes
phase_back Acknowledging a b = refl
phase_back (Waiting p) a b =
    λ i. Waiting (record { nc = record { bits = value-bytes 8 p.nc.bits a i }; c = record { bits = value-bytes 8 p.c.bits b i } })

pub head_back : (b : List ℕ) (h : Site) → Fit h → head_of (splice b 0 (head_bytes h)) ≡ h
unfolding head_of splice numbers_bytes sets_bytes read_set read_le value bytes
head_back b h f =
    λ i.
    record {
      round = value-bytes 1 h.round f.round i;
      phase = phase_back h.phase f.nc f.c i;
      position = value-bytes 2 h.position f.position i;
      deliveries = value-bytes 2 h.deliveries f.deliveries i;
      span = value-bytes 2 h.span f.span i;
      received = record { bits = value-bytes 8 h.received.bits f.received i };
      delivered = record { bits = value-bytes 8 h.delivered.bits f.delivered i };
      pending = record { bits = value-bytes 8 h.pending.bits f.pending i };
      fast = record { bits = value-bytes 8 h.fast.bits f.fast i };
    }

-- ---- what is read can be written

module _ (b : List ℕ) (small : (i : ℕ) → get_or b i 0 < 256) (size : length b ≡ site_size) where
  set_fits : (at : ℕ) → at + 8 ≤ site_size → (read_set b at).bits < 2 ^ 64
  unfolding read_set
  set_fits at h = read_lt b small 8 at (omega arith)

  pub fit : Fit (head_of b)
  unfolding head_of
  fit =
      record {
        round = read_lt b small 1 round_place (omega arith);
        deliveries = read_lt b small 2 count_place (omega arith);
        span = read_lt b small 2 span_place (omega arith);
        position = read_lt b small 2 position_place (omega arith);
        received = set_fits received_place (omega arith);
        delivered = set_fits delivered_place (omega arith);
        pending = set_fits pending_place (omega arith);
        fast = set_fits fast_place (omega arith);
        nc = nc (read_le 1 b phase_place);
        c = c (read_le 1 b phase_place);
      }
    where
      nc : (n : ℕ) → (proposal_of (phase_from n (read_set b nc_place) (read_set b c_place))).nc.bits < 2 ^ 64
      nc zero = lit< tt
      nc (suc n) = set_fits nc_place (omega arith)

      c : (n : ℕ) → (proposal_of (phase_from n (read_set b nc_place) (read_set b c_place))).c.bits < 2 ^ 64
      c zero = lit< tt
      c (suc n) = set_fits c_place (omega arith)

  tag_same : (n : ℕ) (nc c : Set) → n ≤ 1 → phase_number (phase_from n nc c) ≡ n
  tag_same zero nc c h = refl
  tag_same (suc zero) nc c h = refl
  tag_same (suc (suc n)) nc c h = absurd (omega arith)

  nc_same : (n : ℕ) (nc c : Set) → (n ≡ 0 → nc.bits ≡ 0) → (proposal_of (phase_from n nc c)).nc.bits ≡ nc.bits
  nc_same zero nc c h = sym (h refl)
  nc_same (suc n) nc c h = refl

  c_same : (n : ℕ) (nc c : Set) → (n ≡ 0 → c.bits ≡ 0) → (proposal_of (phase_from n nc c)).c.bits ≡ c.bits
  c_same zero nc c h = sym (h refl)
  c_same (suc n) nc c h = refl

  -- The bytes of a header that was read are those that stand there.
  pub head_bytes_lem : read_le 1 b phase_place ≤ 1 → (read_le 1 b phase_place ≡ 0 → (read_le 8 b nc_place ≡ 0) × (read_le 8 b c_place ≡ 0)) → head_bytes (head_of b) ++ drop register_place b ≡ b
  unfolding head_of numbers_bytes sets_bytes read_set
  head_bytes_lem tag idle =
      let et = tag_same (read_le 1 b phase_place) (read_set b nc_place) (read_set b c_place) tag in
      let en = nc_same (read_le 1 b phase_place) (read_set b nc_place) (read_set b c_place) (λ e. (idle e).0) in
      let ec = c_same (read_le 1 b phase_place) (read_set b nc_place) (read_set b c_place) (λ e. (idle e).1) in
      (λ i.
      (((((bytes 1 (read_le 1 b round_place) ++ bytes 1 (et i)) ++ bytes 2 (read_le 2 b position_place)) ++ bytes 2 (read_le 2 b count_place)) ++ bytes 2 (read_le 2 b span_place))
      ++ (((((bytes 8 (read_le 8 b received_place) ++ bytes 8 (read_le 8 b delivered_place)) ++ bytes 8 (read_le 8 b pending_place)) ++ bytes 8 (read_le 8 b fast_place))
      ++ bytes 8 (en i)) ++ bytes 8 (ec i)))
      ++ drop register_place b)
      ∙ simp append_assoc (rw (
        peel b small 8 c_place (omega arith),
        peel b small 8 nc_place (omega arith),
        peel b small 8 fast_place (omega arith),
        peel b small 8 pending_place (omega arith),
        peel b small 8 delivered_place (omega arith),
        peel b small 8 received_place (omega arith),
        peel b small 2 span_place (omega arith),
        peel b small 2 count_place (omega arith),
        peel b small 2 position_place (omega arith),
        peel b small 1 phase_place (omega arith),
        peel b small 1 round_place (omega arith),
      ) refl)

-- A phase is built from what it is seen as.
pub phase_for_lem : (p : Phase) → (proposal_of p).nc.bits < 2 ^ 64 → (proposal_of p).c.bits < 2 ^ 64 → phase_for (phase_seen p) ≡ p
phase_for_lem Acknowledging a b = refl
phase_for_lem (Waiting p) a b = λ i. Waiting (record { nc = set_of-members p.nc a i; c = set_of-members p.c b i })
