-- The bytes after a fast delivery are those of the protocol's site.
-- Assumes nothing.
use mathlib.Core.Path.{◌≡◌, sym, ap, subst, ◌∙◌}
use Rattle.std.specs.Prelude.{Err}
use mathlib.Core.List.{List, [], ◌∷◌}
use Prim.Native.Nat.{ℕ, ◌+◌, ◌≤◌, ◌<◌}
use native.Mathlib.Omega.{arith}
use lib.ListN.{length, get_or}
use Rattle.refusals.specs.declared.Refusal.{Refusal}
use Rattle.refusals.specs.Refusals.{Verdict, accepted}
use Rattle.wire.specs.Wire.{bytes, splice}
use Rattle.sets.specs.declared.Set.{Set}
use Rattle.sets.specs.Sets.{capacity, in_set, with_of, write_set}
use Rattle.sets.proofs.Laws.{in_with, with_fits}
use Rattle.table.specs.declared.SiteTable.{SiteTable}
use Rattle.register.specs.declared.Command.{Command}
use Rattle.protocol.specs.System.{verdict}
use Rattle.protocol.specs.Site as protocol
use Rattle.system.specs.Dash.{dash}
use Rattle.layout.specs.Layout.{count_place, fast_place, head_of, phase_seen, view}
use Rattle.layout.specs.Good.{Good}
use Rattle.layout.specs.Step.{Carried}
use Rattle.layout.proofs.Header.{fit}
use Rattle.layout.proofs.Fields.{begins, with_fast, fast_written}
use Rattle.layout.proofs.Tables.{within-with, rest_heard, rows-past}
use Rattle.layout.proofs.Finish.{finish, refused, taken}
use Rattle.deliver.specs.Delivering.{Delivered}
use Rattle.fast.proofs.Judging.{taken-room}

module _ (t : SiteTable) (book : List Command) (b : List ℕ) (small : (i : ℕ) → get_or b i 0 < 256) (good : Good t.sites (length book) b) (m : ℕ) where
  pub fast_refused : {r : Verdict} (x : Refusal) → r ≡ verdict (protocol.for_fast_delivery (dash t book) m (view t book b)) → r ≡ Err x
      → Carried t book (verdict (protocol.for_fast_delivery (dash t book) m (view t book b))) (protocol.deliver_fast (dash t book) m (view t book b)) (view t book b) b (Err x) b
  fast_refused x e h =
      refused t book (verdict (protocol.for_fast_delivery (dash t book) m (view t book b))) x (sym e ∙ h) good small

  -- There is a place for the delivery.
  pub fast_space : {r : Verdict} {n : ℕ} → length book ≤ capacity → r ≡ verdict (protocol.for_fast_delivery (dash t book) m (view t book b)) → r ≡ accepted
      → n ≡ (head_of b).deliveries → n < capacity
  fast_space few e et en = let l = taken-room t book b m (sym e ∙ et) in omega arith

  pub fast_taken : {r : Verdict} {n : ℕ} {x y : Set} {b₁ b₂ b₃ : List ℕ} → length book ≤ capacity → m < length book
      → r ≡ verdict (protocol.for_fast_delivery (dash t book) m (view t book b)) → r ≡ accepted
      → n ≡ (head_of b).deliveries → x ≡ (head_of b).fast → Delivered book n (m ∷ []) b b₁ → y ≡ with_of x m
      → b₂ ≡ write_set b₁ fast_place y → b₃ ≡ splice b₂ count_place (bytes 2 (n + 1)) → ((i : ℕ) → get_or b₃ i 0 < 256)
      → Carried t book (verdict (protocol.for_fast_delivery (dash t book) m (view t book b))) (protocol.deliver_fast (dash t book) m (view t book b)) (view t book b) b accepted b₃
  unfolding head_of
  fast_taken {b₁ = b₁} few lm e et en ex d' ey e₂ e₃ small' =
      let k = head_of b in
      let f = fit b small good.size in
      let g = good.head in
      let more : k.deliveries + 1 ≤ length book = taken-room t book b m (sym e ∙ et) in
      let d : Delivered book k.deliveries (m ∷ []) b b₁ = subst (λ (n : ℕ). Delivered book n (m ∷ []) b b₁) en d' in
      taken t book (verdict (protocol.for_fast_delivery (dash t book) m (view t book b))) (sym e ∙ et)
      (finish t book b b₁ (with_fast k (k.deliveries + 1) (with_of k.fast m)) d.size
      (e₃ ∙ (λ i. splice ((e₂ ∙ ap (write_set b₁ fast_place) (ey ∙ ap (λ (s : Set). with_of s m) ex)) i) count_place (bytes 2 (en i + 1)))
      ∙ fast_written k b₁ (d.header ∙ begins b good small) (k.deliveries + 1) (with_of k.fast m)) small'
      (record {
        round = f.round;
        deliveries = omega arith;
        span = f.span;
        position = f.position;
        received = f.received;
        delivered = f.delivered;
        pending = f.pending;
        fast = with_fits k.fast m f.fast (omega arith);
        nc = f.nc;
        c = f.c;
      })
      (record {
        first = g.first;
        last = g.last;
        few = more;
        room = omega arith;
        span = g.span;
        received = g.received;
        delivered = g.delivered;
        pending = g.pending;
        fast = within-with k.fast (length book) m g.fast lm;
        nc = g.nc;
        c = g.c;
      })
      (d.tables t.sites k.span good.tables) (rows-past k.span b b₁ d.rest)
      (λ i.
      record {
        received = in_set k.received;
        delivered = in_set k.delivered;
        pending = in_set k.pending;
        fast = λ j. in_with k.fast m j i;
        round = k.round;
        phase = phase_seen k.phase;
        position = k.position;
        heard = rest_heard k.span b b₁ d.rest i;
        ledger = d.ledger t i;
      }))
