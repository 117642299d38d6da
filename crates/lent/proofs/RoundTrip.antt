-- A site that bytes can hold reads back as it was written.
-- Assumes nothing.
use mathlib.Core.Path.{◌≡◌, refl, sym, ap, ◌∙◌}
use mathlib.Core.Bool.{Bool, true, false, ◌&&◌}
use mathlib.Core.List.{List, [], ◌∷◌, ◌++◌, append_assoc, append-nil}
use mathlib.Core.Logic.{◌⊎◌, inl, inr, ⊎_elim}
use Prim.Native.Nat.{ℕ, zero, suc, ◌+◌, ◌*◌, ◌-◌, ◌/◌, ◌%◌, ◌^◌, ◌≤◌, ◌<◌}
use native.Mathlib.Numerals.{add-one}
use native.Mathlib.Omega.{arith}
use lib.Dec.{lit<}
use lib.IntN.{ℤ}
use lib.ListN.{length, take, drop, replicate, length-append, length-replicate}
use lib.Seq.{drop_at, take_at, drop-drop}
use mir.Syntax.{w32}
use mir.Val.{SFits}
use mir.Facts.{Fits-of_z}
use Rattle.theory.specs.Counting.{lt_or_le, last_or_below}
use Rattle.theory.specs.Machine.{Delivery}
use Rattle.wire.specs.Wire.{value, bytes, read_le, splice}
use Rattle.wire.proofs.Laws.{value-bytes, length-bytes}
use Rattle.signed.specs.Signed.{signed32, word32}
use Rattle.signed.proofs.Laws.{signed_word}
use Rattle.sets.specs.Sets.{has, word, capacity, in_set, set_of}
use Rattle.sets.proofs.Laws.{has_word, has-word_above, word_lt}
use Rattle.table.specs.declared.SiteTable.{SiteTable}
use Rattle.table.specs.Table.{max_sites}
use Rattle.register.specs.declared.Command.{Command}
use Rattle.register.specs.Lent.{register_of, register_bytes, register_size}
use Rattle.register.proofs.Lent.{length_register, register_view}
use Rattle.protocol.specs.Site as protocol
use Rattle.protocol.specs.Site.{acknowledging, waiting}
use Rattle.system.specs.Dash.{dash}
use Rattle.layout.specs.Layout.{heard_place, register_place, deliveries_place, delivery_size, count_place, span_place, cell, slot, in_table, proposal_of, phase_for, phase_seen, head_of, head_bytes, heard_in, heard_bytes, delivery_of, deliveries_of, delivery_bytes, deliveries_bytes, site_of, head_for, view, encode}
use Rattle.layout.specs.Good.{Fit}
use Rattle.layout.proofs.Header.{head_back, length-head}
use Rattle.layout.proofs.Senders.{table_bounds}
use Rattle.layout.proofs.Encode.{regroup}
use Rattle.layout.proofs.Deliveries.{length_delivery, deliveries_append}
use Rattle.lent.specs.Range.{Held, HeldPhase, HeldDeliveries, InRange}

-- ---- bytes in front of what is read

drop_past : (p q : List ℕ) (at k : ℕ) → length p ≡ at → drop (at + k) (p ++ q) ≡ drop k q
drop_past p q at k e = sym (drop-drop k at (p ++ q)) ∙ ap (drop k) (drop_at p q at e)

read_past : (n : ℕ) (p q : List ℕ) (at k : ℕ) → length p ≡ at → read_le n (p ++ q) (at + k) ≡ read_le n q k
unfolding read_le
read_past n p q at k e = ap (λ (l : List ℕ). value (take n l)) (drop_past p q at k e)

-- A number that stands at the front.
read_front : (n x : ℕ) (q : List ℕ) → x < 256 ^ n → read_le n (bytes n x ++ q) 0 ≡ x
unfolding read_le
read_front n x q h = ap value (take_at (bytes n x) q n (length-bytes n x)) ∙ value-bytes n x h

-- What stands somewhere, written there again.
splice_there : (p m q : List ℕ) (at : ℕ) → length p ≡ at → splice (p ++ (m ++ q)) at m ≡ p ++ (m ++ q)
unfolding splice
splice_there p m q at e =
    (λ i. take_at p (m ++ q) at e i ++ m ++ (drop_past p (m ++ q) at (length m) e ∙ drop_at m q (length m) refl) i) ∙ append_assoc p m q

-- ---- words of sets

in_word : (x : ℕ → Bool) → Held x → (m : ℕ) → in_set (set_of capacity x) m ≡ x m
in_word x h m = ⊎_elim (λ l. has_word 64 x m l) (λ l. has-word_above 64 x m l ∙ sym (h m l)) (lt_or_le m 64)

phase_seen_lem : (p : protocol.Phase) → HeldPhase p → phase_seen (phase_for p) ≡ p
phase_seen_lem acknowledging h = refl
phase_seen_lem (waiting p) h = λ i. waiting (record { nc = λ m. in_word p.nc h.0 m i; c = λ m. in_word p.c h.1 m i })

phase_fits : (p : protocol.Phase) → ((proposal_of (phase_for p)).nc.bits < 2 ^ 64) × ((proposal_of (phase_for p)).c.bits < 2 ^ 64)
phase_fits acknowledging = (lit< tt, lit< tt)
phase_fits (waiting p) = (word_lt 64 p.nc, word_lt 64 p.c)

-- ---- the table of sets heard

length_heard : (n : ℕ) (h : ℕ → ℕ → ℕ → Bool) → length (heard_bytes n h) ≡ 8 * n
unfolding heard_bytes
length_heard zero h = refl
length_heard (suc n) h =
    let l = length_heard n h in
    let k = length-bytes 8 (word capacity (h (n % max_sites) (n / max_sites + 1))) in
    length-append (heard_bytes n h) (bytes 8 (word capacity (h (n % max_sites) (n / max_sites + 1)))) ∙ omega arith

heard_read : (n : ℕ) (h : ℕ → ℕ → ℕ → Bool) (q : List ℕ) (k : ℕ) → k < n
    → read_le 8 (heard_bytes n h ++ q) (8 * k) ≡ word capacity (h (k % max_sites) (k / max_sites + 1))
unfolding heard_bytes
heard_read zero h q k l = absurd (omega arith)
heard_read (suc n) h q k l =
    ap (λ (b : List ℕ). read_le 8 b (8 * k)) (append_assoc (heard_bytes n h) last q) ∙ go (last_or_below k n l) (λ m. heard_read n h (last ++ q) k m)
  where
    last : List ℕ
    last = bytes 8 (word capacity (h (n % max_sites) (n / max_sites + 1)))

    go : (k ≡ n) ⊎ (k < n) → (k < n → read_le 8 (heard_bytes n h ++ (last ++ q)) (8 * k) ≡ word capacity (h (k % max_sites) (k / max_sites + 1)))
        → read_le 8 (heard_bytes n h ++ (last ++ q)) (8 * k) ≡ word capacity (h (k % max_sites) (k / max_sites + 1))
    go (inr m) r = r m
    go (inl e) r =
        let z : 8 * n ≡ 8 * n + 0 = omega arith in
        ap (λ (i : ℕ). read_le 8 (heard_bytes n h ++ (last ++ q)) (8 * i)) e
        ∙ ap (λ (i : ℕ). read_le 8 (heard_bytes n h ++ (last ++ q)) i) z
        ∙ read_past 8 (heard_bytes n h) (last ++ q) (8 * n) 0 (length_heard n h)
        ∙ read_front 8 (word capacity (h (n % max_sites) (n / max_sites + 1))) q (word_lt 64 (h (n % max_sites) (n / max_sites + 1)))
        ∙ ap (λ (i : ℕ). word capacity (h (i % max_sites) (i / max_sites + 1))) (sym e)

-- ---- the table of deliveries

length_deliveries : (ds : List (Delivery ℤ)) → length (deliveries_bytes ds) ≡ delivery_size * length ds
length_deliveries [] = refl
length_deliveries (d ∷ ds) =
    let l = length_deliveries ds in
    let k = length_delivery d.command d.answer in
    length-append (delivery_bytes d.command d.answer) (deliveries_bytes ds) ∙ omega arith

delivery_read : (p q : List ℕ) (k : ℕ) (d : Delivery ℤ) → length p ≡ slot k → d.command < 256 → SFits w32 d.answer
    → delivery_of (p ++ (delivery_bytes d.command d.answer ++ q)) k ≡ d
delivery_read p q k d e l f =
    let z : slot k ≡ slot k + 0 = omega arith in
    let a : delivery_bytes d.command d.answer ++ q ≡ bytes 1 d.command ++ (bytes 4 (word32 d.answer) ++ q) =
    append_assoc (bytes 1 d.command) (bytes 4 (word32 d.answer)) q in
    λ i.
    record {
      command =
          (ap (λ (n : ℕ). read_le 1 (p ++ (delivery_bytes d.command d.answer ++ q)) n) z
          ∙ read_past 1 p (delivery_bytes d.command d.answer ++ q) (slot k) 0 e
          ∙ ap (λ (x : List ℕ). read_le 1 x 0) a
          ∙ read_front 1 d.command (bytes 4 (word32 d.answer) ++ q) l) i;
      answer =
          (ap signed32
          (read_past 4 p (delivery_bytes d.command d.answer ++ q) (slot k) 1 e
          ∙ ap (λ (x : List ℕ). read_le 4 x 1) a
          ∙ read_past 4 (bytes 1 d.command) (bytes 4 (word32 d.answer) ++ q) 1 0 (length-bytes 1 d.command)
          ∙ read_front 4 (word32 d.answer) q (Fits-of_z f).fits)
          ∙ signed_word f) i;
    }

deliveries_suc : (k : ℕ) (b : List ℕ) → deliveries_of (suc k) b ≡ deliveries_of k b ++ (delivery_of b k ∷ [])
unfolding deliveries_of
deliveries_suc k b = refl

pub deliveries_zero : (b : List ℕ) → deliveries_of 0 b ≡ []
unfolding deliveries_of
deliveries_zero b = refl

-- After the deliveries of a list, those of the rest.
deliveries_read : (p q : List ℕ) → length p ≡ deliveries_place → (xs ds : List (Delivery ℤ)) (b : List ℕ) → b ≡ p ++ (deliveries_bytes (xs ++ ds) ++ q) → HeldDeliveries ds
    → deliveries_of (length xs + length ds) b ≡ deliveries_of (length xs) b ++ ds
deliveries_read p q e xs [] b eb h =
    let z : length xs + 0 ≡ length xs = omega arith in ap (λ (n : ℕ). deliveries_of n b) z ∙ sym (append-nil (deliveries_of (length xs) b))
deliveries_read p q e xs (d ∷ ds) b eb h =
    let l : length (xs ++ (d ∷ [])) ≡ suc (length xs) = length-append xs (d ∷ []) ∙ add-one (length xs) in
    let n : length xs + suc (length ds) ≡ length (xs ++ (d ∷ [])) + length ds = omega arith in
    let s : xs ++ (d ∷ ds) ≡ (xs ++ (d ∷ [])) ++ ds = sym (append_assoc xs (d ∷ []) ds) in
    ap (λ (k : ℕ). deliveries_of k b) n
    ∙ deliveries_read p q e (xs ++ (d ∷ [])) ds b (eb ∙ ap (λ (x : List (Delivery ℤ)). p ++ (deliveries_bytes x ++ q)) s) h.2
    ∙ ap (λ (k : ℕ). deliveries_of k b ++ ds) l
    ∙ ap (λ (x : List (Delivery ℤ)). x ++ ds) (one_more (length xs) b d here)
    ∙ append_assoc (deliveries_of (length xs) b) (d ∷ []) ds
  where
    one_more : (k : ℕ) (b : List ℕ) (d : Delivery ℤ) → delivery_of b k ≡ d → deliveries_of (suc k) b ≡ deliveries_of k b ++ (d ∷ [])
    one_more k b d g = deliveries_suc k b ∙ ap (λ (x : Delivery ℤ). deliveries_of k b ++ (x ∷ [])) g

    front : List ℕ
    front = p ++ deliveries_bytes xs

    long : length front ≡ slot (length xs)
    long = let k = length_deliveries xs in length-append p (deliveries_bytes xs) ∙ omega arith

    split : b ≡ front ++ (delivery_bytes d.command d.answer ++ (deliveries_bytes ds ++ q))
    split =
        eb ∙ ap (λ (x : List ℕ). p ++ (x ++ q)) (deliveries_append xs (d ∷ ds))
        ∙ ap (λ (x : List ℕ). p ++ x) (append_assoc (deliveries_bytes xs) (deliveries_bytes (d ∷ ds)) q)
        ∙ sym (append_assoc p (deliveries_bytes xs) (deliveries_bytes (d ∷ ds) ++ q))
        ∙ ap (λ (x : List ℕ). front ++ x) (append_assoc (delivery_bytes d.command d.answer) (deliveries_bytes ds) q)

    here : delivery_of b (length xs) ≡ d
    here =
        ap (λ (x : List ℕ). delivery_of x (length xs)) split
        ∙ delivery_read front (deliveries_bytes ds ++ q) (length xs) d long h.0 h.1

-- ---- the whole site

module _ (t : SiteTable) (book : List Command) (k : ℕ) (s : protocol.Site (dash t book)) (h : InRange t book k s) (past : List ℕ) where
  heads : List ℕ
  heads = head_bytes (head_for t book k s)

  bikes : List ℕ
  bikes = register_bytes s.ledger.state

  listed : List ℕ
  listed = deliveries_bytes s.ledger.deliveries

  zeros : List ℕ
  zeros = replicate (delivery_size * (capacity - length s.ledger.deliveries)) 0

  senders : List ℕ
  senders = heard_bytes (max_sites * k) s.heard

  -- The bytes of the site, before what is past it.
  whole : List ℕ
  whole = heads ++ (bikes ++ (listed ++ (zeros ++ (senders ++ past))))

  grouped : encode t book k s ++ past ≡ whole
  unfolding whole heads bikes listed zeros senders
  grouped = regroup heads bikes listed zeros senders past

  head_fits : Fit (head_for t book k s)
  head_fits =
      let few = h.few in
      let w = phase_fits s.phase in
      record {
        round = h.round;
        deliveries = omega arith;
        span = h.span;
        position = h.position;
        received = word_lt 64 s.received;
        delivered = word_lt 64 s.delivered;
        pending = word_lt 64 s.pending;
        fast = word_lt 64 s.fast;
        nc = w.0;
        c = w.1;
      }

  length_heads : length heads ≡ register_place
  unfolding heads
  length_heads = length-head (head_for t book k s)

  -- The header is read back.
  head_read : head_of whole ≡ head_for t book k s
  unfolding whole heads
  head_read =
      ap head_of (sym (splice_there [] heads (bikes ++ (listed ++ (zeros ++ (senders ++ past)))) 0 refl)) ∙ head_back whole (head_for t book k s) head_fits

  count-read : read_le 2 whole count_place ≡ length s.ledger.deliveries
  unfolding head_of
  count-read = λ i. (head_read i).deliveries

  span_read : read_le 2 whole span_place ≡ k
  unfolding head_of
  span_read = λ i. (head_read i).span

  -- So are the register,
  register_back : register_of whole register_place ≡ s.ledger.state
  unfolding whole bikes
  register_back =
      let rest = listed ++ (zeros ++ (senders ++ past)) in
      let long : register_place + register_size ≤ length (heads ++ (bikes ++ rest)) =
      let a = length_heads in
      let b = length_register s.ledger.state in
      let c = length-append heads (bikes ++ rest) in
      let d = length-append bikes rest in
      omega arith in
      ap (λ (b : List ℕ). register_of b register_place) (sym (splice_there heads bikes rest register_place length_heads))
      ∙ register_view s.ledger.state (heads ++ (bikes ++ rest)) register_place long h.readings h.register

  -- the deliveries,
  length_front : length (heads ++ bikes) ≡ deliveries_place
  unfolding bikes
  length_front = let a = length_heads in let b = length_register s.ledger.state in length-append heads bikes ∙ omega arith

  deliveries_back : deliveries_of (length s.ledger.deliveries) whole ≡ s.ledger.deliveries
  unfolding whole listed
  deliveries_back =
      let n : length s.ledger.deliveries ≡ 0 + length s.ledger.deliveries = omega arith in
      ap (λ (m : ℕ). deliveries_of m whole) n
      ∙ deliveries_read (heads ++ bikes) (zeros ++ (senders ++ past)) length_front [] s.ledger.deliveries whole
      (sym (append_assoc heads bikes (listed ++ (zeros ++ (senders ++ past))))) h.deliveries
      ∙ ap (λ (x : List (Delivery ℤ)). x ++ s.ledger.deliveries) (deliveries_zero whole)

  -- and the sets heard.
  before : List ℕ
  before = (heads ++ bikes) ++ (listed ++ zeros)

  length_before : length before ≡ heard_place
  unfolding before listed zeros
  length_before =
      let few = h.few in
      let a = length_front in
      let b = length_deliveries s.ledger.deliveries in
      let c = length-replicate {A = ℕ} (delivery_size * (capacity - length s.ledger.deliveries)) 0 in
      let d = length-append listed zeros in
      length-append (heads ++ bikes) (listed ++ zeros) ∙ omega arith

  heard_last : whole ≡ before ++ (senders ++ past)
  unfolding whole before
  heard_last = simp append_assoc refl

  cell-read : (j r : ℕ) → in_table k j r ≡ true → read_le 8 whole (cell j r) ≡ word capacity (s.heard j r)
  unfolding senders
  cell-read j r e =
      let w = table_bounds k j r e in
      let n = max_sites * (r - 1) + j in
      let ep : cell j r ≡ heard_place + 8 * n = omega arith in
      let ej : n % max_sites ≡ j = omega (arith, w.0) in
      let er : n / max_sites + 1 ≡ r = omega (arith, w.0, w.1) in
      (λ i. read_le 8 (heard_last i) (ep i))
      ∙ read_past 8 before (senders ++ past) heard_place (8 * n) length_before
      ∙ heard_read (max_sites * k) s.heard past n (omega (arith, w.0, w.1, w.2))
      ∙ (λ i. word capacity (s.heard (ej i) (er i)))

  heard_back : heard_in k whole ≡ s.heard
  unfolding heard_in
  heard_back = λ i j r m. point j r m (in_table k j r) refl i
    where
      point : (j r m : ℕ) (b : Bool) → in_table k j r ≡ b → (b && has (read_le 8 whole (cell j r)) m) ≡ s.heard j r m
      point j r m false e = sym (h.silent j r m e)
      point j r m true e = ap (λ (x : ℕ). has x m) (cell-read j r e) ∙ in_word (s.heard j r) (h.heard j r) m

  -- A site that bytes can hold is what its bytes say, whatever is past it.
  pub view-encode : view t book (encode t book k s ++ past) ≡ s
  view-encode =
      ap (view t book) grouped
      ∙ (λ i. site_of t book (head_read i) (heard_in (span_read i) whole) (record { state = register_back i; deliveries = deliveries_of (count-read i) whole }))
      ∙ (λ i.
      record {
        received = λ m. in_word s.received h.received m i;
        delivered = λ m. in_word s.delivered h.delivered m i;
        pending = λ m. in_word s.pending h.pending m i;
        fast = λ m. in_word s.fast h.fast m i;
        round = s.round;
        phase = phase_seen_lem s.phase h.phase i;
        position = s.position;
        heard = heard_back i;
        ledger = record { state = s.ledger.state; deliveries = deliveries_back i };
      })
