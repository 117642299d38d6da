-- Bytes and site give each other back: the bytes of what good bytes are seen as are these bytes.
-- Assumes nothing.
use mathlib.Core.Path.{◌≡◌, refl, sym, ap, ◌∙◌}
use mathlib.Core.List.{List, ◌++◌, append_assoc}
use mathlib.Core.Bool.{Bool}
use Prim.Native.Nat.{ℕ, ◌+◌, ◌*◌, ◌-◌, ◌≤◌, ◌<◌}
use native.Mathlib.Omega.{arith}
use lib.ListN.{length, take, drop, get_or, replicate, take-append-drop}
use lib.Seq.{drop-drop}
use Rattle.wire.specs.Wire.{read_le}
use Rattle.sets.specs.Sets.{capacity}
use Rattle.sets.proofs.Laws.{set_of-members}
use Rattle.table.specs.declared.SiteTable.{SiteTable}
use Rattle.register.specs.declared.Command.{Command}
use Rattle.register.proofs.Lent.{register_bytes_lem}
use Rattle.protocol.specs.Site as protocol
use Rattle.system.specs.Dash.{dash}
use Rattle.layout.specs.declared.Site.{Site}
use Rattle.layout.specs.Layout.{count_place, span_place, heard_place, register_place, deliveries_place, delivery_size, site_rounds, row_at, slot, head_of, head_bytes, heard_of, site_of, head_for, view, encode}
use Rattle.layout.specs.Good.{Fit, Good}
use Rattle.layout.proofs.Header.{fit, phase_for_lem, head_bytes_lem}
use Rattle.layout.proofs.Senders.{heard_bytes_lem}
use Rattle.layout.proofs.Deliveries.{length_deliveries, deliveries_bytes_lem, rest-bytes}

-- A part and what follows it.
pub join : (b : List ℕ) (at n k : ℕ) → at + n ≡ k → take n (drop at b) ++ drop k b ≡ drop at b
join b at n k e =
    ap (λ (m : ℕ). take n (drop at b) ++ drop m b) (sym e)
    ∙ ap (λ (l : List ℕ). take n (drop at b) ++ l) (sym (drop-drop n at b))
    ∙ take-append-drop n (drop at b)

-- What follows five parts follows the last of them.
pub regroup : (a b c d e f : List ℕ) → (a ++ (b ++ (c ++ (d ++ e)))) ++ f ≡ a ++ (b ++ (c ++ (d ++ (e ++ f))))
regroup a b c d e f = simp append_assoc refl

-- The header has the number of recorded deliveries, and the span.
pub counted : (b : List ℕ) → read_le 2 b count_place ≡ (head_of b).deliveries
unfolding head_of
counted b = refl

pub spanned : (b : List ℕ) → read_le 2 b span_place ≡ (head_of b).span
unfolding head_of
spanned b = refl

module _ (t : SiteTable) (book : List Command) where
  -- The header of a site that is made of a header.
  pub head_for_lem : (h : Site) (k : ℕ) (heard : ℕ → ℕ → ℕ → Bool) (ledger : protocol.Ledger (dash t book)) → Fit h → length ledger.deliveries ≡ h.deliveries
      → k ≡ h.span → head_for t book k (site_of t book h heard ledger) ≡ h
  head_for_lem h k heard ledger f e ek =
      λ i.
      record {
        round = h.round;
        phase = phase_for_lem h.phase f.nc f.c i;
        position = h.position;
        deliveries = e i;
        span = ek i;
        received = set_of-members h.received f.received i;
        delivered = set_of-members h.delivered f.delivered i;
        pending = set_of-members h.pending f.pending i;
        fast = set_of-members h.fast f.fast i;
      }

  -- The bytes of what good bytes are seen as, before what is past the site.
  pub encode-view : {sites commands : ℕ} (b : List ℕ) → Good sites commands b → ((i : ℕ) → get_or b i 0 < 256)
      → encode t book (read_le 2 b span_place) (view t book b) ++ drop (row_at (read_le 2 b span_place)) b ≡ b
  encode-view b g small =
      let n = read_le 2 b count_place in
      let k = read_le 2 b span_place in
      let size = g.size in
      let en = counted b in
      let ek = spanned b in
      let room : n ≤ capacity = let r = g.head.room in omega arith in
      let rows : k ≤ site_rounds = let r = g.head.span in omega arith in
      let count = length_deliveries n b in
      let last : n + (capacity - n) ≡ capacity = omega arith in
      let past : heard_place + (row_at k - heard_place) ≡ row_at k = omega arith in
      ap (λ (l : List ℕ). l ++ drop (row_at k) b)
      (λ i.
      head_bytes (head_for_lem (head_of b) k (heard_of b) (view t book b).ledger (fit b small size) (count ∙ counted b) ek i)
      ++ (register_bytes_lem b small register_place (omega arith) i
      ++ (deliveries_bytes_lem b small size n room i
      ++ (replicate (delivery_size * (capacity - count i)) 0 ++ heard_bytes_lem b small size k rows i))))
      ∙ regroup (head_bytes (head_of b)) (take 256 (drop register_place b)) (take (delivery_size * n) (drop deliveries_place b)) (replicate (delivery_size * (capacity - n)) 0)
      (take (row_at k - heard_place) (drop heard_place b)) (drop (row_at k) b)
      ∙ ap (λ (l : List ℕ). head_bytes (head_of b) ++ (take 256 (drop register_place b) ++ (take (delivery_size * n) (drop deliveries_place b) ++ (replicate (delivery_size * (capacity - n)) 0 ++ l))))
      (join b heard_place (row_at k - heard_place) (row_at k) past)
      ∙ ap (λ (l : List ℕ). head_bytes (head_of b) ++ (take 256 (drop register_place b) ++ (take (delivery_size * n) (drop deliveries_place b) ++ l)))
      (sym (rest-bytes b small size (capacity - n) n last g.tables.rest))
      ∙ ap (λ (l : List ℕ). head_bytes (head_of b) ++ (take 256 (drop register_place b) ++ l)) (join b deliveries_place (delivery_size * n) (slot n) refl)
      ∙ ap (λ (l : List ℕ). head_bytes (head_of b) ++ l) (join b register_place 256 deliveries_place refl)
      ∙ head_bytes_lem b small size g.tag g.idle
