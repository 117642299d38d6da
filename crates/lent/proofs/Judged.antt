-- The test of a lent site tells exactly the good sites whose log position is among the entries lent.
-- Assumes nothing.
use mathlib.Core.Path.{◌≡◌, refl, sym, ap, subst, ◌∙◌}
use mathlib.Core.Bool.{Bool, true, false, ◌&&◌, ◌||◌}
use mathlib.Core.Logic.{◌⊎◌, ⊎_elim}
use mathlib.Core.List.{List}
use Prim.Native.Nat.{ℕ, ◌+◌, ◌-◌, ◌≤◌, ◌<◌}
use native.Mathlib.Omega.{arith}
use lib.Dec.{eqb, leb, ltb}
use lib.ListN.{length, get_or}
use borrow.Author.Tests.{ltb-true, lt-ltb, leb-true, le-leb, eqb-true, eq-eqb}
use Rattle.theory.specs.Sets.{all}
use Rattle.theory.specs.Counting.{both, never, left, right, either, true_or, or_true, same_test, lt_or_le, all_at, all_of, all-not}
use Rattle.wire.specs.Wire.{read_le}
use Rattle.sets.specs.declared.Set.{Set}
use Rattle.sets.specs.Sets.{capacity, is_empty_of, within_of, read_set}
use Rattle.sets.proofs.Laws.{empty_word, read_fits}
use Rattle.table.specs.Table.{max_sites}
use Rattle.register.specs.Register.{is_within}
use Rattle.register.specs.Lent.{register_of}
use Rattle.register.proofs.Laws.{within_test}
use Rattle.register.proofs.Lent.{view-within}
use Rattle.layout.specs.declared.Site.{Site}
use Rattle.layout.specs.Layout.{site_size, count_place, position_place, register_place, site_rounds, span_place, in_table, cell, slot, head_of, proposal_of}
use Rattle.layout.specs.Good.{GoodHead, GoodTables, Good, good_head, good_cell, good_heard, good_slot, good_phase, good_site}
use Rattle.layout.proofs.Encode.{counted, spanned}
use Rattle.layout.proofs.Phases.{phase_good, good_phase_lem}
use Rattle.layout.proofs.Senders.{in_table_lem, table_bounds}

-- ---- what the test tells

-- The last of some tests, and the ones before.
split : (a b : Bool) → (a && b) ≡ true → (a ≡ true) × (b ≡ true)
split a b h = (left a b h, right a b h)

module _ (commands : ℕ) (h : Site) where
  pub head_good : good_head commands h ≡ true → GoodHead commands h
  unfolding good_head
  head_good e =
      let t₁ = leb 1 h.round in
      let t₂ = t₁ && leb h.round site_rounds in
      let t₃ = t₂ && leb h.deliveries commands in
      let t₄ = t₃ && leb h.deliveries capacity in
      let t₅ = t₄ && leb h.span site_rounds in
      let t₆ = t₅ && within_of h.received commands in
      let t₇ = t₆ && within_of h.delivered commands in
      let t₈ = t₇ && within_of h.pending commands in
      let t₉ = t₈ && within_of h.fast commands in
      let t₁₀ = t₉ && within_of (proposal_of h.phase).nc commands in
      let e₁₁ = split t₁₀ (within_of (proposal_of h.phase).c commands) e in
      let e₁₀ = split t₉ (within_of (proposal_of h.phase).nc commands) e₁₁.0 in
      let e₉ = split t₈ (within_of h.fast commands) e₁₀.0 in
      let e₈ = split t₇ (within_of h.pending commands) e₉.0 in
      let e₇ = split t₆ (within_of h.delivered commands) e₈.0 in
      let e₆ = split t₅ (within_of h.received commands) e₇.0 in
      let e₅ = split t₄ (leb h.span site_rounds) e₆.0 in
      let e₄ = split t₃ (leb h.deliveries capacity) e₅.0 in
      let e₃ = split t₂ (leb h.deliveries commands) e₄.0 in
      let e₂ = split t₁ (leb h.round site_rounds) e₃.0 in
      record {
        first = leb-true 1 h.round e₂.0;
        last = leb-true h.round site_rounds e₂.1;
        few = leb-true h.deliveries commands e₃.1;
        room = leb-true h.deliveries capacity e₄.1;
        span = leb-true h.span site_rounds e₅.1;
        received = e₆.1;
        delivered = e₇.1;
        pending = e₈.1;
        fast = e₉.1;
        nc = e₁₀.1;
        c = e₁₁.1;
      }

  pub good_head_lem : GoodHead commands h → good_head commands h ≡ true
  unfolding good_head
  good_head_lem g =
      simp (
        le-leb 1 h.round g.first,
        le-leb h.round site_rounds g.last,
        le-leb h.deliveries commands g.few,
        le-leb h.deliveries capacity g.room,
        le-leb h.span site_rounds g.span,
        g.received,
        g.delivered,
        g.pending,
        g.fast,
        g.nc,
        g.c,
      )

module _ (b : List ℕ) where
  module _ (sites commands n : ℕ) where
    tables_good : n ≤ capacity → good_heard sites commands b ≡ true → is_within (register_of b register_place) ≡ true
        → all capacity (good_slot commands n b) ≡ true → GoodTables sites commands n (read_le 2 b span_place) b
    tables_good l he hw hd =
        record {
          heard = λ j r m. (heard_at j r m).0;
          silent =
              λ j r m o.
              ⊎_elim (λ e. absurd (let q = ltb-true j sites e in omega arith)) (λ e. eqb-true (read_le 8 b (cell j r)) 0 e)
              (either (ltb j sites) (eqb (read_le 8 b (cell j r)) 0) (heard_at j r m).1);
          readings = view-within b register_place hw;
          recorded =
              λ k m.
              ⊎_elim (λ e. ltb-true (command k) commands (right (ltb k n) (ltb (command k) commands) e))
              (λ e. absurd (let q = leb-true n k (left (leb n k) (eqb (command k) 0) (left (leb n k && eqb (command k) 0) (eqb (word k) 0) e)) in omega arith))
              (slot_at k (omega arith));
          rest =
              λ k m o.
              ⊎_elim (λ e. absurd (let q = ltb-true k n (left (ltb k n) (ltb (command k) commands) e) in omega arith))
              (λ e. (
                eqb-true (command k) 0 (right (leb n k) (eqb (command k) 0) (left (leb n k && eqb (command k) 0) (eqb (word k) 0) e)),
                eqb-true (word k) 0 (right (leb n k && eqb (command k) 0) (eqb (word k) 0) e),
              ))
              (slot_at k o);
        }
      where
        command : ℕ → ℕ
        command k = read_le 1 b (slot k)

        word : ℕ → ℕ
        word k = read_le 4 b (slot k + 1)

        heard_at : (j r : ℕ) → in_table (read_le 2 b span_place) j r ≡ true
            → (within_of (read_set b (cell j r)) commands ≡ true) × ((ltb j sites || eqb (read_le 8 b (cell j r)) 0) ≡ true)
        heard_at j r m =
            let w = table_bounds (read_le 2 b span_place) j r m in
            let q : r - 1 + 1 ≡ r = omega (arith, w.1) in
            split (within_of (read_set b (cell j r)) commands) (ltb j sites || eqb (read_le 8 b (cell j r)) 0)
            (ap (good_cell sites commands b j) (sym q) ∙ all_at (read_le 2 b span_place) _ (all_at max_sites _ he j w.0) (r - 1) (omega (arith, w.1, w.2)))

        slot_at : (k : ℕ) → k < capacity → ((ltb k n && ltb (command k) commands) ≡ true) ⊎ ((leb n k && eqb (command k) 0 && eqb (word k) 0) ≡ true)
        slot_at k m =
            either (ltb k n && ltb (command k) commands) (leb n k && eqb (command k) 0 && eqb (word k) 0)
            (all_at capacity (good_slot commands n b) hd k m)

    good_heard_lem : GoodTables sites commands n (read_le 2 b span_place) b → good_heard sites commands b ≡ true
    good_heard_lem g = all_of max_sites _ (λ j l. all_of (read_le 2 b span_place) _ (λ i m. cell_good j (i + 1) (in_table_lem (read_le 2 b span_place) j (i + 1) l (omega arith) (omega arith))))
      where
        cell_good : (j r : ℕ) → in_table (read_le 2 b span_place) j r ≡ true → good_cell sites commands b j r ≡ true
        cell_good j r m =
            both (within_of (read_set b (cell j r)) commands) (ltb j sites || eqb (read_le 8 b (cell j r)) 0) (g.heard j r m)
            (⊎_elim (λ l. true_or (ltb j sites) (eqb (read_le 8 b (cell j r)) 0) (lt-ltb j sites l))
            (λ l. or_true (ltb j sites) (eqb (read_le 8 b (cell j r)) 0) (eq-eqb (read_le 8 b (cell j r)) 0 (g.silent j r m l)))
            (lt_or_le j sites))

    good_slots : {k : ℕ} → GoodTables sites commands n k b → all capacity (good_slot commands n b) ≡ true
    good_slots g =
        all_of capacity (good_slot commands n b)
        (λ k m.
        let command = read_le 1 b (slot k) in
        let word = read_le 4 b (slot k + 1) in
        ⊎_elim
        (λ l. true_or (ltb k n && ltb command commands) (leb n k && eqb command 0 && eqb word 0)
        (both (ltb k n) (ltb command commands) (lt-ltb k n l) (lt-ltb command commands (g.recorded k l))))
        (λ l. or_true (ltb k n && ltb command commands) (leb n k && eqb command 0 && eqb word 0)
        (both (leb n k && eqb command 0) (eqb word 0) (both (leb n k) (eqb command 0) (le-leb n k l) (eq-eqb command 0 (g.rest k l m).0))
        (eq-eqb word 0 (g.rest k l m).1)))
        (lt_or_le k n))

  module _ (sites commands entries : ℕ) where
    -- The parts of a site that the test takes.
    pub record Parts : Type 0 where
      pub size : eqb (length b) site_size ≡ true
      pub position : leb (read_le 2 b position_place) entries ≡ true
      pub phase : good_phase b ≡ true
      pub head : good_head commands (head_of b) ≡ true
      pub heard : good_heard sites commands b ≡ true
      pub register : is_within (register_of b register_place) ≡ true
      pub slots : all capacity (good_slot commands (read_le 2 b count_place) b) ≡ true

    pub parts : good_site sites commands entries b ≡ true → Parts
    parts h =
        let t₁ = eqb (length b) site_size in
        let t₂ = t₁ && leb (read_le 2 b position_place) entries in
        let t₃ = t₂ && good_phase b in
        let t₄ = t₃ && good_head commands (head_of b) in
        let t₅ = t₄ && good_heard sites commands b in
        let t₆ = t₅ && is_within (register_of b register_place) in
        let e₇ = split t₆ (all capacity (good_slot commands (read_le 2 b count_place) b)) h in
        let e₆ = split t₅ (is_within (register_of b register_place)) e₇.0 in
        let e₅ = split t₄ (good_heard sites commands b) e₆.0 in
        let e₄ = split t₃ (good_head commands (head_of b)) e₅.0 in
        let e₃ = split t₂ (good_phase b) e₄.0 in
        let e₂ = split t₁ (leb (read_le 2 b position_place) entries) e₃.0 in
        record { size = e₂.0; position = e₂.1; phase = e₃.1; head = e₄.1; heard = e₅.1; register = e₆.1; slots = e₇.1 }

    pub whole : Parts → good_site sites commands entries b ≡ true
    whole p = simp (p.size, p.position, p.phase, p.head, p.heard, p.register, p.slots)

    -- A site that the test takes is good.
    pub site_good : good_site sites commands entries b ≡ true → Good sites commands b × (read_le 2 b position_place ≤ entries)
    site_good h =
        let p = parts h in
        let t = phase_good b p.phase in
        let g = head_good commands (head_of b) p.head in (
          record {
            size = eqb-true (length b) site_size p.size;
            tag = t.0;
            idle = t.1;
            head = g;
            tables = tables_good sites commands (read_le 2 b count_place) (subst (λ (n : ℕ). n ≤ capacity) (sym (counted b)) g.room) p.heard p.register p.slots;
          },
          leb-true (read_le 2 b position_place) entries p.position,
        )

    -- And every good site is taken.
    pub good_site_lem : Good sites commands b → read_le 2 b position_place ≤ entries → good_site sites commands entries b ≡ true
    good_site_lem g l =
        whole
        (record {
          size = eq-eqb (length b) site_size g.size;
          position = le-leb (read_le 2 b position_place) entries l;
          phase = good_phase_lem b g.tag g.idle;
          head = good_head_lem commands (head_of b) g.head;
          heard = good_heard_lem sites commands (read_le 2 b count_place) g.tables;
          register = within_test (register_of b register_place) g.tables.readings;
          slots = good_slots sites commands (read_le 2 b count_place) g.tables;
        })

    -- ---- what the code of judge tells

    -- Where one part is not good, the site is not.
    pub fails : {t u : Bool} → u ≡ t → u ≡ false → (Parts → t ≡ true) → false ≡ good_site sites commands entries b
    fails {t} e f h = same_test false (good_site sites commands entries b) (λ z. absurd (never false z refl)) (λ z. absurd (never t (h (parts z)) (sym e ∙ f)))

    -- Where all parts but the deliveries are good, the deliveries tell.
    pub judged : {n : ℕ} {d : Bool} → length b ≡ site_size → read_le 2 b position_place ≤ entries → good_phase b ≡ true → good_head commands (head_of b) ≡ true
        → good_heard sites commands b ≡ true → is_within (register_of b register_place) ≡ true
        → n ≡ read_le 2 b count_place → d ≡ all capacity (good_slot commands n b) → d ≡ good_site sites commands entries b
    judged el lp ep eh eu ew en ed =
        ed
        ∙ ap (λ (m : ℕ). all capacity (good_slot commands m b)) en
        ∙ sym (λ i.
        eq-eqb (length b) site_size el i && le-leb (read_le 2 b position_place) entries lp i && ep i && eh i && eu i && ew i
        && all capacity (good_slot commands (read_le 2 b count_place) b))

-- A header that is good has no more rows than there are rounds.
pub short : (commands : ℕ) (b : List ℕ) → good_head commands (head_of b) ≡ true → read_le 2 b span_place ≤ site_rounds
short commands b h = subst (λ (n : ℕ). n ≤ site_rounds) (sym (spanned b)) (head_good commands (head_of b) h).span

-- The set heard of a sender in a round, looked at.
pub cell_judged : (b : List ℕ) (sites commands j r : ℕ) {x : Set} {t e : Bool} → ((i : ℕ) → get_or b i 0 < 256) → cell j r + 8 ≤ length b
    → x ≡ read_set b (cell j r) → t ≡ within_of x commands → e ≡ is_empty_of x → (t && (ltb j sites || e)) ≡ good_cell sites commands b j r
unfolding read_set
cell_judged b sites commands j r small h ex et ee =
    let z = empty_word (read_set b (cell j r)) (read_fits b (cell j r) small h) in
    λ i. (et ∙ ap (λ (s : Set). within_of s commands) ex) i && (ltb j sites || (ee ∙ ap is_empty_of ex ∙ sym z) i)

-- All sets heard, looked at sender by sender and round by round.
module _ (b : List ℕ) (sites commands : ℕ) {n : ℕ} (e : n ≡ read_le 2 b span_place) where
  pub heard_bad : (j i : ℕ) {t : Bool} → j < max_sites → i < n → t ≡ good_cell sites commands b j (i + 1) → t ≡ false → false ≡ good_heard sites commands b
  heard_bad j i lj li et f = sym (all-not max_sites _ j lj (all-not (read_le 2 b span_place) _ i (omega arith) (sym et ∙ f)))

-- What a header that was read says of the log position and of the deliveries.
module _ (b : List ℕ) {h : Site} (e : h ≡ head_of b) where
  pub positioned : h.position ≡ read_le 2 b position_place
  unfolding head_of
  positioned = ap (λ (x : Site). x.position) e

  pub recorded : h.deliveries ≡ read_le 2 b count_place
  recorded = ap (λ (x : Site). x.deliveries) e ∙ sym (counted b)
