-- The verdict on a fast delivery: the senders counted, and the code's tests in the protocol's order.
-- Assumes nothing.
use mathlib.Core.Path.{◌≡◌, refl, sym, ap, ◌∙◌}
use Rattle.std.specs.Prelude.{Err}
use mathlib.Core.Bool.{Bool, true, false, ◌&&◌, not}
use mathlib.Core.List.{List}
use Prim.Native.Nat.{ℕ, zero, suc, ◌+◌, ◌-◌, ◌≤◌, ◌<◌}
use native.Mathlib.Omega.{arith}
use lib.Dec.{leb}
use lib.ListN.{length}
use borrow.Author.Tests.{le-leb, lt-leb, leb-true}
use Rattle.refusals.specs.declared.Refusal.TheVariants.{Disabled, Full}
use Rattle.refusals.specs.Refusals.{Verdict, accepted}
use Rattle.theory.specs.Sets.{one, count}
use Rattle.theory.specs.Counting.{left, right, not-true, never, count_none, count-more, count_no}
use Rattle.wire.specs.Wire.{read_le}
use Rattle.sets.specs.declared.Set.{Set}
use Rattle.sets.specs.Sets.{has, in_set, without_of, read_set}
use Rattle.sets.proofs.Laws.{in_empty, in_without}
use Rattle.table.specs.declared.SiteTable.{SiteTable}
use Rattle.table.specs.Table.{max_sites, n_ack_of}
use Rattle.register.specs.declared.Command.{Command}
use Rattle.protocol.specs.System.{granted, ◌else◌⨾◌, verdict}
use Rattle.protocol.specs.Site as protocol
use Rattle.system.specs.Dash.{dash}
use Rattle.layout.specs.declared.Site.{Site}
use Rattle.layout.specs.Layout.{count_place, span_place, in_table, cell, head_of, heard_in, heard_of, deliveries_of, view}
use Rattle.layout.specs.Good.{Good}
use Rattle.layout.proofs.Senders.{in_table_lem, table_bounds}
use Rattle.layout.proofs.Deliveries.{length_deliveries}

-- ---- senders

heard_at : (b : List ℕ) (j r m : ℕ) → j < max_sites → 1 ≤ r → r ≤ read_le 2 b span_place → heard_of b j r m ≡ in_set (read_set b (cell j r)) m
unfolding heard_in read_set
heard_at b j r m hj h1 hr = λ i. in_table_lem (read_le 2 b span_place) j r hj h1 hr i && has (read_le 8 b (cell j r)) m

-- One sender more.
pub sender_more : (b : List ℕ) (r m j : ℕ) {n o : ℕ} {set : Set} {t : Bool} → j < max_sites → 1 ≤ r → r ≤ read_le 2 b span_place → n ≡ count j (λ k. heard_of b k r m)
    → set ≡ read_set b (cell j r) → t ≡ in_set set m → o ≡ one t → n + o ≡ count (j + 1) (λ k. heard_of b k r m)
sender_more b r m j hj h1 hr en es et eo =
    (λ i. en i + (eo ∙ ap one (et ∙ ap (λ (s : Set). in_set s m) es ∙ sym (heard_at b j r m hj h1 hr))) i) ∙ sym (count-more j (λ k. heard_of b k r m))

count_beyond : (n k : ℕ) (p : ℕ → Bool) → ((j : ℕ) → n ≤ j → j < n + k → p j ≡ false) → count (n + k) p ≡ count n p
count_beyond n zero p h = let e : n + 0 ≡ n = omega arith in ap (λ (j : ℕ). count j p) e
count_beyond n (suc k) p h =
    let e : n + suc k ≡ n + k + 1 = omega arith in
    ap (λ (j : ℕ). count j p) e ∙ count_no (n + k) p (h (n + k) (omega arith) (omega arith)) ∙ count_beyond n k p (λ j l g. h j l (omega arith))

-- Fewer senders count no more.
count_upto : (n k : ℕ) (p : ℕ → Bool) → count n p ≤ count (n + k) p
count_upto n zero p = let e : n + 0 ≡ n = omega arith in omega (arith, ap (λ (j : ℕ). count j p) e)
count_upto n (suc k) p =
    let e : n + suc k ≡ n + k + 1 = omega arith in
    omega (arith, count_upto n k p, ap (λ (j : ℕ). count j p) e ∙ count-more (n + k) p)

-- Enough senders among the first are enough among all.
pub enough-senders : (b : List ℕ) (r m j needed : ℕ) {n : ℕ} → j < max_sites → n ≡ count (j + 1) (λ k. heard_of b k r m) → needed ≤ n
    → true ≡ leb needed (count max_sites (λ k. heard_of b k r m))
enough-senders b r m j needed h e l =
    let q : j + 1 + (max_sites - (j + 1)) ≡ max_sites = omega arith in
    let up = count_upto (j + 1) (max_sites - (j + 1)) (λ k. heard_of b k r m) in
    sym (le-leb needed _ (omega (arith, up, e, ap (λ (k : ℕ). count k (λ i. heard_of b i r m)) q)))

-- Fewer than needed among all are too few.
pub few_senders : (b : List ℕ) (r m needed : ℕ) {n : ℕ} → n ≡ count max_sites (λ k. heard_of b k r m) → n < needed
    → false ≡ leb needed (count max_sites (λ k. heard_of b k r m))
few_senders b r m needed e l = sym (lt-leb needed _ (omega (arith, e)))

-- Nothing was heard in a round past the rows.
pub past-rows : (b : List ℕ) (r m : ℕ) {n : ℕ} → n ≡ (head_of b).span → n < r → 0 ≡ count max_sites (λ j. heard_of b j r m)
unfolding head_of heard_in
past-rows b r m e l =
    sym (count_none (λ j. heard_of b j r m)) ∙ sym (count_beyond 0 max_sites (λ j. heard_of b j r m) (λ j _ _. nothing j (in_table (read_le 2 b span_place) j r) refl))
  where
    nothing : (j : ℕ) (t : Bool) → in_table (read_le 2 b span_place) j r ≡ t → (t && has (read_le 8 b (cell j r)) m) ≡ false
    nothing j true h = let w = table_bounds (read_le 2 b span_place) j r h in absurd (omega (arith, w.2))
    nothing j false h = refl

-- Of senders that there are not nothing was heard.
pub silent_senders : {sites commands : ℕ} (b : List ℕ) (r m : ℕ) → Good sites commands b → sites ≤ max_sites
    → count max_sites (λ j. heard_of b j r m) ≡ count sites (λ j. heard_of b j r m)
unfolding heard_in
silent_senders {sites} b r m good few =
    let e : sites + (max_sites - sites) ≡ max_sites = omega arith in
    ap (λ (n : ℕ). count n (λ j. heard_of b j r m)) (sym e) ∙ count_beyond sites (max_sites - sites) (λ j. heard_of b j r m) (λ j l g. nothing j l (omega arith))
  where
    by_row : (j : ℕ) → sites ≤ j → (t : Bool) → in_table (read_le 2 b span_place) j r ≡ t → (t && has (read_le 8 b (cell j r)) m) ≡ false
    by_row j l true h = ap (λ (x : ℕ). has x m) (good.tables.silent j r h l) ∙ in_empty m
    by_row j l false h = refl

    nothing : (j : ℕ) → sites ≤ j → j < max_sites → heard_of b j r m ≡ false
    nothing j l g = by_row j l (in_table (read_le 2 b span_place) j r) refl

-- ---- the verdict, by its tests

abbrev fast_verdict : Bool → Bool → Bool → Bool → Verdict
fast_verdict pending fast enough room = verdict (pending else Disabled ⨾ not fast else Disabled ⨾ enough else Disabled ⨾ room else Full ⨾ granted)

never_taken : {r : Verdict} → r ≡ Err Full → r ≡ accepted → ⊥
never_taken e h = let z : ◌≡◌ {A = ℕ} 0 1 = cc (sym e ∙ h) in omega arith

-- A command that is not pending, or that was delivered fast, is not delivered.
closed : (p f n r : Bool) → (p && not f) ≡ false → Err Disabled ≡ fast_verdict p f n r
closed true true n r h = refl
closed true false n r h = absurd (never true refl h)
closed false f n r h = refl

-- A delivery that is taken has room.
has_room : (a f n r : Bool) → fast_verdict a f n r ≡ accepted → r ≡ true
has_room true true n r h = absurd (let z : ◌≡◌ {A = ℕ} 0 1 = cc h in omega arith)
has_room true false true true h = refl
has_room true false true false h = absurd (never_taken refl h)
has_room true false false r h = absurd (let z : ◌≡◌ {A = ℕ} 0 1 = cc h in omega arith)
has_room false f n r h = absurd (let z : ◌≡◌ {A = ℕ} 0 1 = cc h in omega arith)

module _ (t : SiteTable) (book : List Command) (b : List ℕ) (m : ℕ) where
  pending : Bool
  pending = in_set (head_of b).pending m

  fast : Bool
  fast = in_set (head_of b).fast m

  enough : Bool
  enough = leb (n_ack_of t) (count t.sites (λ j. heard_of b j (head_of b).round m))

  room : Bool
  room = leb (length (deliveries_of (read_le 2 b count_place) b) + 1) (length book)

  same_verdict : fast_verdict pending fast enough room ≡ verdict (protocol.for_fast_delivery (dash t book) m (view t book b))
  unfolding pending fast enough room
  same_verdict = refl

  counted : read_le 2 b count_place ≡ (head_of b).deliveries
  unfolding head_of
  counted = refl

  recorded : length (deliveries_of (read_le 2 b count_place) b) ≡ (head_of b).deliveries
  recorded = length_deliveries (read_le 2 b count_place) b ∙ counted

  -- The room that a taken delivery has.
  pub taken-room : verdict (protocol.for_fast_delivery (dash t book) m (view t book b)) ≡ accepted → (head_of b).deliveries + 1 ≤ length book
  unfolding room
  taken-room h =
      let e = recorded in
      let l = leb-true (length (deliveries_of (read_le 2 b count_place) b) + 1) (length book) (has_room pending fast enough room (same_verdict ∙ h)) in
      omega arith

  -- What the code tests of the header that it read, in its order.
  module _ {h : Site} (eh : h ≡ head_of b) {o : Set} {x : Bool} (eo : o ≡ without_of h.pending h.fast) (ex : x ≡ in_set o m) where
    is_open : {v : Bool} → x ≡ v → (pending && not fast) ≡ v
    unfolding pending fast
    is_open hx =
        sym (in_without (head_of b).pending (head_of b).fast m)
        ∙ sym (ex ∙ ap (λ (s : Set). in_set s m) (eo ∙ (λ i. without_of (eh i).pending (eh i).fast))) ∙ hx

    pub not_open : x ≡ false → Err Disabled ≡ verdict (protocol.for_fast_delivery (dash t book) m (view t book b))
    not_open hx = closed pending fast enough room (is_open hx) ∙ same_verdict

    module _ (hx : x ≡ true) {k : ℕ} {q : Bool} (ek : k ≡ n_ack_of t) (eq : q ≡ leb k (count max_sites (λ j. heard_of b j h.round m)))
        (silent : count max_sites (λ j. heard_of b j h.round m) ≡ count t.sites (λ j. heard_of b j h.round m)) where
      is_pending : true ≡ pending
      is_pending = sym (left pending (not fast) (is_open hx))

      is_fast : false ≡ fast
      is_fast = sym (not-true fast (right pending (not fast) (is_open hx)))

      is_enough : {v : Bool} → q ≡ v → v ≡ enough
      unfolding enough
      is_enough e = sym e ∙ eq ∙ ap (leb k) silent ∙ (λ i. leb (ek i) (count t.sites (λ j. heard_of b j (eh i).round m)))

      pub too_few : q ≡ false → Err Disabled ≡ verdict (protocol.for_fast_delivery (dash t book) m (view t book b))
      too_few e = (λ i. fast_verdict (is_pending i) (is_fast i) (is_enough e i) room) ∙ same_verdict

      module _ (l : q ≡ true) where
        is_room : {v : Bool} → leb (h.deliveries + 1) (length book) ≡ v → v ≡ room
        unfolding room
        is_room e = sym e ∙ (λ i. leb ((ap (λ (z : Site). z.deliveries) eh ∙ sym recorded) i + 1) (length book))

        pub no_room : length book ≤ h.deliveries → Err Full ≡ verdict (protocol.for_fast_delivery (dash t book) m (view t book b))
        no_room o =
            (λ i. fast_verdict (is_pending i) (is_fast i) (is_enough l i) (is_room (lt-leb (h.deliveries + 1) (length book) (omega arith)) i)) ∙ same_verdict

        pub all_met : h.deliveries < length book → accepted ≡ verdict (protocol.for_fast_delivery (dash t book) m (view t book b))
        all_met o =
            (λ i. fast_verdict (is_pending i) (is_fast i) (is_enough l i) (is_room (le-leb (h.deliveries + 1) (length book) (omega arith)) i)) ∙ same_verdict
