-- How a step ends: the tables are written first, the header last, and the bytes are those of the site that they are seen as.
-- Assumes nothing.
use mathlib.Core.Path.{◌≡◌, refl, sym, ap, subst, ◌∙◌}
use Rattle.std.specs.Prelude.{Err}
use mathlib.Core.List.{List, ◌++◌}
use Prim.Native.Nat.{ℕ, ◌≤◌, ◌<◌}
use native.Mathlib.Omega.{arith}
use lib.ListN.{length, drop, get_or}
use Rattle.wire.specs.Wire.{value, bytes, read_le, splice}
use Rattle.wire.proofs.Laws.{length-splice, value-bytes, drop-after}
use Rattle.sets.specs.Sets.{capacity}
use Rattle.refusals.specs.Refusals.{settled, accepted}
use Rattle.refusals.specs.declared.Refusal.{Refusal}
use Rattle.refusals.specs.Refusals.{Verdict}
use Rattle.table.specs.declared.SiteTable.{SiteTable}
use Rattle.register.specs.declared.Command.{Command}
use Rattle.protocol.specs.Site as protocol
use Rattle.system.specs.Dash.{dash}
use Rattle.layout.specs.declared.Phase.{Phase}
use Rattle.layout.specs.declared.Phase.TheVariants.{Acknowledging, Waiting}
use Rattle.layout.specs.declared.Site.{Site}
use Rattle.layout.specs.Layout.{site_size, phase_place, count_place, span_place, nc_place, c_place, heard_place, register_place, deliveries_place, row_at, slot, phase_number, proposal_of, head_of, head_bytes, numbers_bytes, sets_bytes, heard_in, site_of, ledger_of, view, encode}
use Rattle.layout.specs.Good.{Fit, GoodHead, GoodTables, Good, Holds, HoldsOver}
use Rattle.layout.specs.Step.{Carried}
use Rattle.layout.proofs.Header.{head_back, length-head}
use Rattle.wire.proofs.Agree.{Agree, agree_after, agree_part}
use Rattle.layout.proofs.Agree.{heard_agree, register_agree, deliveries_agree}
use Rattle.layout.proofs.Encode.{encode-view}
use Rattle.layout.proofs.Tables.{tables_agree}

module _ (b : List ℕ) (h : Site) (size : length b ≡ site_size) where
  -- The header is written before everything else.
  pub head_agree : (to : ℕ) → Agree b (splice b 0 (head_bytes h)) register_place to
  head_agree to = let q = length-head h in agree_after b 0 (head_bytes h) register_place to (omega arith) (omega arith)

  pub head-past : (k : ℕ) → drop (row_at k) (splice b 0 (head_bytes h)) ≡ drop (row_at k) b
  head-past k = let q = length-head h in drop-after b 0 (head_bytes h) (row_at k) (omega arith) (omega arith)

  pub head-length : length (splice b 0 (head_bytes h)) ≡ site_size
  head-length = let q = length-head h in length-splice b 0 (head_bytes h) (omega arith) ∙ size

  count_back : Fit h → read_le 2 (splice b 0 (head_bytes h)) count_place ≡ h.deliveries
  unfolding head_of
  count_back f = λ i. (head_back b h f i).deliveries

  span_back : Fit h → read_le 2 (splice b 0 (head_bytes h)) span_place ≡ h.span
  unfolding head_of
  span_back f = λ i. (head_back b h f i).span

  tag_back : read_le 1 (splice b 0 (head_bytes h)) phase_place ≡ phase_number h.phase
  unfolding splice numbers_bytes sets_bytes read_le value bytes
  tag_back = value-bytes 1 (phase_number h.phase) (small h.phase)
    where
      small : (p : Phase) → phase_number p < 256
      small Acknowledging = omega arith
      small (Waiting p) = omega arith

  words_back : Fit h
      → (read_le 8 (splice b 0 (head_bytes h)) nc_place ≡ (proposal_of h.phase).nc.bits) × (read_le 8 (splice b 0 (head_bytes h)) c_place ≡ (proposal_of h.phase).c.bits)
  unfolding splice numbers_bytes sets_bytes read_le value bytes
  words_back f = (value-bytes 8 (proposal_of h.phase).nc.bits f.nc, value-bytes 8 (proposal_of h.phase).c.bits f.c)

  -- Good bytes, whatever header stood there before.
  pub good_head_lem : {sites commands : ℕ} → Fit h → GoodHead commands h → GoodTables sites commands h.deliveries h.span b → Good sites commands (splice b 0 (head_bytes h))
  good_head_lem {sites} {commands} f g t =
      let room = g.room in
      record {
        size = head-length;
        tag = subst (λ (n : ℕ). n ≤ 1) (sym tag_back) (tag_most h.phase);
        idle = λ e. let w = words_back f in let z = quiet h.phase (sym tag_back ∙ e) in (w.0 ∙ z.0, w.1 ∙ z.1);
        head = subst (GoodHead commands) (sym (head_back b h f)) g;
        tables =
            subst (λ (k : ℕ). GoodTables sites commands (read_le 2 (splice b 0 (head_bytes h)) count_place) k (splice b 0 (head_bytes h))) (sym (span_back f))
            (subst (λ (n : ℕ). GoodTables sites commands n h.span (splice b 0 (head_bytes h))) (sym (count_back f))
            (tables_agree sites commands h.deliveries h.span room (head_agree (row_at h.span)) t));
      }
    where
      tag_most : (p : Phase) → phase_number p ≤ 1
      tag_most Acknowledging = omega arith
      tag_most (Waiting p) = omega arith

      quiet : (p : Phase) → phase_number p ≡ 0 → ((proposal_of p).nc.bits ≡ 0) × ((proposal_of p).c.bits ≡ 0)
      quiet Acknowledging e = (refl, refl)
      quiet (Waiting p) e = absurd (omega arith)

module _ (t : SiteTable) (book : List Command) where
  -- What is seen after the header was written.
  pub view-head : (b : List ℕ) (h : Site) → length b ≡ site_size → Fit h → h.deliveries ≤ capacity
      → view t book (splice b 0 (head_bytes h)) ≡ site_of t book h (heard_in h.span b) (ledger_of t book h.deliveries b)
  view-head b h size f l =
      let g = head_agree b h size heard_place in
      (λ i. site_of t book (head_back b h f i) (heard_in (span_back b h size f i) (splice b 0 (head_bytes h)))
      (ledger_of t book (count_back b h size f i) (splice b 0 (head_bytes h))))
      ∙ (λ i. site_of t book h (heard_agree h.span (agree_part heard_place (row_at h.span) (head_agree b h size (row_at h.span)) (omega arith) (omega arith)) i)
      (record {
        state = register_agree (agree_part register_place deliveries_place g (omega arith) (omega arith)) i;
        deliveries = deliveries_agree h.deliveries (agree_part deliveries_place (slot h.deliveries) g (omega arith) (omega arith)) i;
      }))

  -- Good bytes hold what they say.
  pub holds : {k : ℕ} {before b : List ℕ} {s : protocol.Site (dash t book)} → Good t.sites (length book) b → ((i : ℕ) → get_or b i 0 < 256)
      → read_le 2 b span_place ≡ k → drop (row_at k) b ≡ drop (row_at k) before → view t book b ≡ s → Holds t book k before b s
  holds {k} {before} {b} {s} g small ek ep e =
      record {
        span = ek;
        bytes = sym (encode-view t book b g small) ∙ (λ i. encode t book (ek i) (e i) ++ drop (row_at (ek i)) b);
        past = ep;
        says = e;
        good = g;
      }

  -- A step that leaves the bytes as they were.
  pub unchanged : {b : List ℕ} → Good t.sites (length book) b → ((i : ℕ) → get_or b i 0 < 256) → HoldsOver t book b b (view t book b)
  unchanged g small = holds g small refl refl refl

  -- What bytes hold over others they hold over themselves.
  pub alone : {k : ℕ} {before b : List ℕ} {s : protocol.Site (dash t book)} → Holds t book k before b s → HoldsOver t book b b s
  alone {k} {before} {b} {s} h =
      record {
        span = refl;
        bytes = h.bytes ∙ (λ i. encode t book (sym h.span i) s ++ drop (row_at (sym h.span i)) b);
        past = refl;
        says = h.says;
        good = h.good;
      }

  -- A step that ends by writing the header h over bytes whose tables are good: one law by value is left, that of the last argument.
  pub finish : (before b : List ℕ) (h : Site) {b' : List ℕ} {s : protocol.Site (dash t book)} → length b ≡ site_size → b' ≡ splice b 0 (head_bytes h)
      → ((i : ℕ) → get_or b' i 0 < 256)
      → Fit h → GoodHead (length book) h → GoodTables t.sites (length book) h.deliveries h.span b
      → drop (row_at h.span) b ≡ drop (row_at h.span) before
      → site_of t book h (heard_in h.span b) (ledger_of t book h.deliveries b) ≡ s → Holds t book h.span before b' s
  finish before b h {b'} size e small f g tables past law =
      holds (subst (Good t.sites (length book)) (sym e) (good_head_lem b h size f g tables)) small
      (ap (λ (l : List ℕ). read_le 2 l span_place) e ∙ span_back b h size f)
      (ap (drop (row_at h.span)) e ∙ head-past b h size h.span ∙ past)
      (ap (view t book) e ∙ view-head b h size f g.room ∙ law)

  -- A refused step, and one that is taken.
  pub refused : (v : Verdict) (x : Refusal) {b : List ℕ} {new : protocol.Site (dash t book)} → v ≡ Err x → Good t.sites (length book) b
      → ((i : ℕ) → get_or b i 0 < 256) → Carried t book v new (view t book b) b (Err x) b
  refused v x {b} {new} e g small =
      record { answer = sym e; site = subst (λ (w : Verdict). HoldsOver t book b b (settled w new (view t book b))) (sym e) (unchanged g small) }

  pub taken : (v : Verdict) {before b : List ℕ} {new old : protocol.Site (dash t book)} → v ≡ accepted → HoldsOver t book before b new
      → Carried t book v new old before accepted b
  taken v {before} {b} {new} {old} e h =
      record { answer = sym e; site = subst (λ (w : Verdict). HoldsOver t book before b (settled w new old)) (sym e) h }
