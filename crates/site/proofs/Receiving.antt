-- A set received and an acknowledgment heard: the bytes hold what the protocol's steps leave.
-- Assumes nothing.
use mathlib.Core.Path.{◌≡◌, refl, ap, subst, ◌∙◌}
use mathlib.Core.Bool.{Bool, true, ◌&&◌, ◌||◌}
use mathlib.Core.List.{List}
use Prim.Native.Nat.{ℕ, ◌^◌, ◌≤◌, ◌<◌}
use native.Mathlib.Omega.{arith}
use lib.Dec.{eqb}
use lib.ListN.{length, get_or}
use Rattle.theory.specs.Sets.{only}
use Rattle.wire.specs.Wire.{bytes, read_le}
use Rattle.sets.specs.declared.Set.{Set}
use Rattle.sets.specs.Sets.{in_set, empty_of, with_of, union_of, within_of, read_set, write_set}
use Rattle.sets.proofs.Laws.{in_empty, in_with, in_union, union_fits, length_write}
use Rattle.table.specs.Table.{max_sites}
use Rattle.protocol.specs.Site as protocol
use Rattle.system.specs.Dash.{dash}
use Rattle.layout.specs.declared.Site.{Site}
use Rattle.layout.specs.Layout.{site_size, span_place, received_place, register_place, deliveries_place, heard_place, site_rounds, cell, slot, head_of, Begins, heard_of, span_with, reached, heard_more, phase_seen, view}
use Rattle.layout.specs.Good.{Fit, GoodHead, HoldsOver}
use Rattle.layout.proofs.Header.{fit}
use Rattle.layout.proofs.Fields.{begins, begins_still, with_received, with_span, received_written}
use Rattle.wire.proofs.Agree.{Agree, agree_trans, agree_part}
use Rattle.layout.proofs.Agree.{register_agree, deliveries_agree}
use Rattle.layout.proofs.Senders.{heard_set}
use Rattle.layout.proofs.Tables.{within_empty, within-with, within_union, heard_apart, heard_past, tables_heard}
use Rattle.layout.proofs.Rows.{reaches}
use Rattle.layout.proofs.Finish.{finish}
use Rattle.site.specs.Steps.{Received, Commanded, Heard}

-- The header with more received.
abbrev more : Site → Set → Site
more h x = with_received h (union_of h.received x)

module _ (h : Site) (x : Set) where
  received_fit : Fit h → x.bits < 2 ^ 64 → Fit (more h x)
  received_fit f l =
      record {
        round = f.round;
        deliveries = f.deliveries;
        span = f.span;
        position = f.position;
        received = union_fits h.received x f.received l;
        delivered = f.delivered;
        pending = f.pending;
        fast = f.fast;
        nc = f.nc;
        c = f.c;
      }

  received_good : (commands : ℕ) → GoodHead commands h → within_of x commands ≡ true → GoodHead commands (more h x)
  received_good commands g w =
      record {
        first = g.first;
        last = g.last;
        few = g.few;
        room = g.room;
        span = g.span;
        received = within_union h.received x commands g.received w;
        delivered = g.delivered;
        pending = g.pending;
        fast = g.fast;
        nc = g.nc;
        c = g.c;
      }

-- The header with more rows.
wide_fit : (h : Site) → Fit h → (k : ℕ) → k < 2 ^ 16 → Fit (with_span h k)
wide_fit h f k l =
    record {
      round = f.round;
      deliveries = f.deliveries;
      span = l;
      position = f.position;
      received = f.received;
      delivered = f.delivered;
      pending = f.pending;
      fast = f.fast;
      nc = f.nc;
      c = f.c;
    }

wide_good : (h : Site) (commands : ℕ) → GoodHead commands h → (k : ℕ) → k ≤ site_rounds → GoodHead commands (with_span h k)
wide_good h commands g k l =
    record {
      first = g.first;
      last = g.last;
      few = g.few;
      room = g.room;
      span = l;
      received = g.received;
      delivered = g.delivered;
      pending = g.pending;
      fast = g.fast;
      nc = g.nc;
      c = g.c;
    }

module _ (b : List ℕ) (small : (i : ℕ) → get_or b i 0 < 256) (size : length b ≡ site_size) (x : Set) (l : x.bits < 2 ^ 64) where
  pub receive_holds : {r u : Set} {b' : List ℕ} → r ≡ (head_of b).received → u ≡ union_of r x → b' ≡ write_set b received_place u → ((i : ℕ) → get_or b' i 0 < 256)
      → Received x b b'
  unfolding head_of
  receive_holds er eu eb small' t book g w =
      finish t book b b (more (head_of b) x) size
      (eb ∙ ap (write_set b received_place) (eu ∙ ap (λ (s : Set). union_of s x) er) ∙ received_written (head_of b) b (begins b g small) (union_of (head_of b).received x)) small'
      (received_fit (head_of b) x (fit b small size) l) (received_good (head_of b) x (length book) g.head w) g.tables refl
      (λ i.
      record {
        received = λ m. in_union (head_of b).received x m i;
        delivered = in_set (head_of b).delivered;
        pending = in_set (head_of b).pending;
        fast = in_set (head_of b).fast;
        round = (head_of b).round;
        phase = phase_seen (head_of b).phase;
        position = (head_of b).position;
        heard = heard_of b;
        ledger = (view t book b).ledger;
      })

  module _ (j r : ℕ) (hj : j < max_sites) (h1 : 1 ≤ r) (h33 : r ≤ site_rounds) where
    pub hear_holds : {k u : Set} {b₁ b' : List ℕ} → k ≡ (head_of b).received → b₁ ≡ heard_more b j r x → u ≡ union_of k x → b' ≡ write_set b₁ received_place u
        → ((i : ℕ) → get_or b' i 0 < 256) → Heard j r x b b'
    unfolding head_of write_set
    hear_holds ek e₁ eu eb small' t book g hs w =
        let h = head_of b in
        let f = fit b small size in
        let o = g.head in
        let n = h.deliveries in
        let room = o.room in
        let a = reached b r in
        let z = reaches b small size r o.span h33 in
        let most = z.most in
        let rows = span_with (read_le 2 b span_place) r in
        let wide : Site = with_span h rows in
        let c = cell j r in
        let y = union_of (read_set a c) x in
        let size₁ : length (heard_more b j r x) ≡ site_size = let s = z.size in length_write a c y (omega arith) ∙ s in
        let same : Agree a (heard_more b j r x) 0 heard_place = heard_apart a z.small z.size j r x l hj h1 h33 in
        let before : Agree b (heard_more b j r x) register_place heard_place = agree_trans z.before (agree_part register_place heard_place same (omega arith) (omega arith)) in
        let begun : Begins wide (heard_more b j r x) =
        begins_still a wide c (bytes 8 y.bits) (let s = z.size in omega arith) (omega arith) (z.header h refl (begins b g small)) in
        finish t book b (heard_more b j r x) (more wide x) size₁
        (eb ∙ (λ i. write_set (e₁ i) received_place ((eu ∙ ap (λ (s : Set). union_of s x) ek) i)) ∙ received_written wide (heard_more b j r x) begun (union_of h.received x)) small'
        (received_fit wide x (wide_fit h f rows (omega arith)) l) (received_good wide x (length book) (wide_good h (length book) o rows most) w)
        (tables_heard a z.small z.size j r x l hj h1 h33 rows z.least most t.sites (length book) n room hs w (z.tables t.sites (length book) n room g.tables))
        (heard_past a z.small z.size j r x l hj h1 h33 rows z.least most ∙ z.past)
        (λ i.
        record {
          received = λ m. in_union h.received x m i;
          delivered = in_set h.delivered;
          pending = in_set h.pending;
          fast = in_set h.fast;
          round = h.round;
          phase = phase_seen h.phase;
          position = h.position;
          heard =
              (heard_set a z.small z.size j r x l hj h1 h33 rows z.least most
              ∙ (λ k j' r' m. z.heard k j' r' m || eqb j' j && eqb r' r && in_set x m)) i;
          ledger =
              record {
                state = register_agree (agree_part register_place deliveries_place before (omega arith) (omega arith)) i;
                deliveries = deliveries_agree n (agree_part deliveries_place (slot n) before (omega arith) (omega arith)) i;
              };
        })

-- A command alone is the set of it.
one_in : (m j : ℕ) → in_set (with_of empty_of m) j ≡ only m j
one_in m j = in_with empty_of m j ∙ ap (λ (x : Bool). x || eqb j m) (in_empty j)

pub command_holds : {b b' : List ℕ} {e x : Set} (m : ℕ) → e ≡ empty_of → x ≡ with_of e m → Received x b b' → Commanded m b b'
command_holds {b} {b'} {e} {x} m ee ex r t book g l =
    let is : x ≡ with_of empty_of m = ex ∙ ap (λ (y : Set). with_of y m) ee in
    subst (λ (p : ℕ → Bool). HoldsOver t book b b' (protocol.receive (dash t book) p (view t book b))) (λ i j. (ap (λ (y : Set). in_set y j) is ∙ one_in m j) i)
    (r t book g (ap (λ (y : Set). within_of y (length book)) is ∙ within-with empty_of (length book) m (within_empty (length book)) l))
