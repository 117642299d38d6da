-- A log entry read: the position is raised where the protocol takes the step.
-- Assumes nothing.
use mathlib.Core.Path.{◌≡◌, refl, sym, ap, ◌∙◌}
use Rattle.std.specs.Prelude.{Err}
use mathlib.Core.Bool.{Bool, true, false, not}
use mathlib.Core.List.{List}
use Prim.Native.Nat.{ℕ, ◌+◌, ◌<◌}
use native.Mathlib.Numerals.{add-one}
use native.Mathlib.Omega.{arith}
use lib.ListN.{get_or, take}
use Rattle.refusals.specs.declared.Refusal.TheVariants.{Disabled, ThirdEntry}
use Rattle.refusals.specs.Refusals.{accepted}
use Rattle.wire.specs.Wire.{bytes, splice}
use Rattle.sets.specs.Sets.{in_set}
use Rattle.protocol.specs.System.{granted, ◌else◌⨾◌, verdict}
use Rattle.protocol.specs.Site as protocol
use Rattle.system.specs.Dash.{dash}
use Rattle.layout.specs.declared.Site.{Site}
use Rattle.layout.specs.Layout.{position_place, head_of, heard_of, phase_seen, view}
use Rattle.layout.proofs.Header.{fit}
use Rattle.layout.proofs.Fields.{begins, with_position, position_written}
use Rattle.layout.proofs.Finish.{finish, refused, taken}
use Rattle.site.specs.Steps.{ReadEntry}

-- The position of a header that was read has room for one more.
pub position_fits : (b : List ℕ) {h : Site} → h ≡ head_of b → (head_of b).position < 65535 → h.position + 1 < 65536
position_fits b e l = let p = ap (λ (x : Site). x.position) e in omega arith

module _ (b : List ℕ) (small : (i : ℕ) → get_or b i 0 < 256) (left third : Bool) where
  pub nothing_left : left ≡ false → ReadEntry left third b (Err Disabled) b
  nothing_left e t book log g el et =
      refused t book _ Disabled
      (λ i. verdict ((sym el ∙ e) i else Disabled ⨾ protocol.no_third (dash t book) (take (view t book b).position log) (protocol.next (dash t book) (view t book b) log) else ThirdEntry ⨾ granted))
      g small

  pub third_left : left ≡ true → third ≡ true → ReadEntry left third b (Err ThirdEntry) b
  third_left e h t book log g el et =
      refused t book _ ThirdEntry (λ i. verdict ((sym el ∙ e) i else Disabled ⨾ (sym et ∙ ap not h) i else ThirdEntry ⨾ granted)) g small

  pub entry_read : {n : ℕ} {b' : List ℕ} → left ≡ true → third ≡ false → n ≡ (head_of b).position + 1 → n < 65536 → b' ≡ splice b position_place (bytes 2 n)
      → ((i : ℕ) → get_or b' i 0 < 256) → ReadEntry left third b accepted b'
  unfolding head_of
  entry_read {n = n} e h en l eb small' t book log g el et =
      let f = fit b small g.size in
      let o = g.head in
      let k = head_of b in
      taken t book _ (λ i. verdict ((sym el ∙ e) i else Disabled ⨾ (sym et ∙ ap not h) i else ThirdEntry ⨾ granted))
      (finish t book b b (with_position k n) g.size (eb ∙ position_written k b (begins b g small) n) small'
      (record {
        round = f.round;
        deliveries = f.deliveries;
        span = f.span;
        position = l;
        received = f.received;
        delivered = f.delivered;
        pending = f.pending;
        fast = f.fast;
        nc = f.nc;
        c = f.c;
      })
      (record {
        first = o.first;
        last = o.last;
        few = o.few;
        room = o.room;
        span = o.span;
        received = o.received;
        delivered = o.delivered;
        pending = o.pending;
        fast = o.fast;
        nc = o.nc;
        c = o.c;
      })
      g.tables refl
      (λ i.
      record {
        received = in_set k.received;
        delivered = in_set k.delivered;
        pending = in_set k.pending;
        fast = in_set k.fast;
        round = k.round;
        phase = phase_seen k.phase;
        position = (en ∙ add-one k.position) i;
        heard = heard_of b;
        ledger = (view t book b).ledger;
      }))
