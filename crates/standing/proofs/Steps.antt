-- One law for each answer of the code that adds an entry.
-- Assumes nothing.
use mathlib.Core.Path.{◌≡◌, refl, sym, ap, ◌∙◌}
use mathlib.Core.Bool.{Bool, true, false, ◌&&◌, not}
use mathlib.Core.List.{List}
use mathlib.Core.Logic.{◌⊎◌, inl, inr, ⊎_elim}
use Prim.Native.Nat.{ℕ, zero, suc, ◌+◌, ◌≤◌, ◌<◌}
use native.Mathlib.Numerals.{add-one}
use native.Mathlib.Omega.{arith}
use lib.Dec.{eqb, ltb}
use borrow.Author.Tests.{lt-ltb, le-ltb, eq-eqb, eqb-true, ne_eqb}
use Rattle.theory.specs.Sets.{pick}
use Rattle.theory.specs.Counting.{left, not-true, not-false, never, lt_or_le, last_or_below}
use Rattle.sets.specs.declared.Set.{Set}
use Rattle.sets.specs.Sets.{in_set, empty_of, with_of, without_of, size_of}
use Rattle.table.specs.declared.SiteTable.{SiteTable}
use Rattle.table.specs.Table.{n_chk_of}
use Rattle.calm.specs.Rows.{free_by}
use Rattle.entries.specs.declared.Entry.{Entry}
use Rattle.entries.specs.Entries.{entry_of}
use Rattle.standing.specs.declared.Standing.{Standing}
use Rattle.standing.specs.Standings.{nobody_yet, valid_after, marked, with_entry, standing_of}

module _ (rows : List ℕ) (site : ℕ) (nc : Set) (s : Standing) {t : Bool} (et : t ≡ in_set s.seen site) where
  pub second_entry : {none source r : Set} → t ≡ true → none ≡ empty_of → source ≡ with_of none site → r ≡ without_of s.valid source
      → r ≡ valid_after rows site nc s
  unfolding valid_after
  second_entry h en es er =
      er ∙ ap (without_of s.valid) (es ∙ ap (λ (x : Set). with_of x site) en)
      ∙ ap (λ (b : Bool). pick b (without_of s.valid (with_of empty_of site)) (pick (free_by rows (in_set nc)) (with_of s.valid site) s.valid)) (sym h ∙ et)

  module _ (h : t ≡ false) {f : Bool} (ef : f ≡ free_by rows (in_set nc)) where
    first_entry : pick f (with_of s.valid site) s.valid ≡ valid_after rows site nc s
    unfolding valid_after
    first_entry =
        λ i. pick ((sym h ∙ et) i) (without_of s.valid (with_of empty_of site)) (pick (ef i) (with_of s.valid site) s.valid)

    pub first_conflicting : not f ≡ true → s.valid ≡ valid_after rows site nc s
    first_conflicting g = ap (λ (b : Bool). pick b (with_of s.valid site) s.valid) (sym (not-true f g)) ∙ first_entry

    pub first_valid : not f ≡ false → {r : Set} → r ≡ with_of s.valid site → r ≡ valid_after rows site nc s
    first_valid g er = er ∙ ap (λ (b : Bool). pick b (with_of s.valid site) s.valid) (sym (not-false f g)) ∙ first_entry

module _ (t : SiteTable) (rows : List ℕ) (r k : ℕ) (e : Entry) (s : Standing) where
  pub other_round : {x : ℕ} → x ≡ e.round → (x ≡ r → ⊥) → s ≡ with_entry t rows r k e s
  unfolding with_entry
  other_round ex n =
      ap (λ (b : Bool). pick (b && ltb e.site t.sites) (marked t rows k e s) s) (sym (ne_eqb e.round r (λ q. n (ex ∙ q))))

  pub no_site : {x y : ℕ} → x ≡ e.round → x ≡ r → y ≡ e.site → t.sites ≤ y → s ≡ with_entry t rows r k e s
  unfolding with_entry
  no_site ex q ey l =
      λ i. pick (sym (eq-eqb e.round r (sym ex ∙ q)) i && sym (le-ltb e.site t.sites (omega arith)) i) (marked t rows k e s) s

  pub entry_marked : {x y z n : ℕ} {v w : Set} → x ≡ e.round → x ≡ r → y ≡ e.site → y < t.sites
      → v ≡ valid_after rows y e.nc s → w ≡ with_of s.seen y → z ≡ size_of v → n ≡ n_chk_of t
      → ◌≡◌ {A = Standing} (record { seen = w; valid = v; decided = eqb z n; entries = k }) (with_entry t rows r k e s)
  unfolding with_entry
  entry_marked ex q ey l ev ew ez ec =
      let v' = ev ∙ (λ i. valid_after rows (ey i) e.nc s) in
      (λ i. record {
        seen = (ew ∙ ap (with_of s.seen) ey) i;
        valid = v' i;
        decided = eqb ((ez ∙ ap size_of v') i) (ec i);
        entries = k;
      })
      ∙ (λ i. pick (sym (eq-eqb e.round r (sym ex ∙ q)) i && sym (lt-ltb e.site t.sites (omega arith)) i) (marked t rows k e s) s)

pub nobody_told : {none : Set} → none ≡ empty_of → ◌≡◌ {A = Standing} (record { seen = none; valid = none; decided = false; entries = 0 }) nobody_yet
nobody_told e = λ i. record { seen = e i; valid = e i; decided = false; entries = 0 }

module _ (t : SiteTable) (rows : List ℕ) (r : ℕ) (b : List ℕ) where
  -- Entries of other rounds change nothing.
  nobody-before : (n : ℕ) → ((i : ℕ) → i < n → (entry_of b i).round ≡ r → ⊥) → nobody_yet ≡ standing_of t rows r b n
  unfolding standing_of
  nobody-before zero h = refl
  nobody-before (suc n) h =
      let e = nobody-before n (λ i l. h i (omega arith)) in
      other_round t rows r (suc n) (entry_of b n) nobody_yet refl (h n (omega arith))
      ∙ (λ j. pick (e j).decided (e j) (with_entry t rows r (suc n) (entry_of b n) (e j)))

  pub standing_before : (n : ℕ) → ((i : ℕ) → i < n → (entry_of b i).round ≡ r → ⊥) → {s : Standing} → s ≡ nobody_yet
      → (s ≡ standing_of t rows r b n) × (s.decided ≡ false)
  standing_before n h es = (es ∙ nobody-before n h, ap (λ (x : Standing). x.decided) es)

  standing_added : (i : ℕ) (s : Standing) {s' : Standing} → s ≡ standing_of t rows r b i → s.decided ≡ false
      → s' ≡ with_entry t rows r (i + 1) (entry_of b i) s → s' ≡ standing_of t rows r b (i + 1)
  unfolding standing_of
  standing_added i s es d en =
      en ∙ ap (λ (x : Bool). pick x s (with_entry t rows r (i + 1) (entry_of b i) s)) (sym d)
      ∙ (λ j. pick (es j).decided (es j) (with_entry t rows r (add-one i j) (entry_of b i) (es j)))
      ∙ ap (standing_of t rows r b) (sym (add-one i))

  -- With one entry more: one of the round whose NC was tested, which may decide the round or leave it, and one of another round.
  module _ (i : ℕ) (s : Standing) (es : s ≡ standing_of t rows r b i) (d : s.decided ≡ false) where
    module _ {nc : Set} (en : nc ≡ (entry_of b i).nc) {f : Bool} (ef : f ≡ free_by rows (in_set nc)) {s' : Standing}
        (ew : (rows : List ℕ) → f ≡ free_by rows (in_set (entry_of b i).nc) → s' ≡ with_entry t rows r (i + 1) (entry_of b i) s) where
      pub standing_told : s' ≡ standing_of t rows r b (i + 1)
      standing_told = standing_added i s es d (ew rows (ef ∙ ap (λ (x : Set). free_by rows (in_set x)) en))

      pub standing_counted : s'.decided ≡ false → {s'' : Standing} → s'' ≡ s' → (s'' ≡ standing_of t rows r b (i + 1)) × (s''.decided ≡ false)
      standing_counted w q = (q ∙ standing_told, ap (λ (x : Standing). x.decided) q ∙ w)

    pub standing_passed : {x : ℕ} → x ≡ (entry_of b i).round → (x ≡ r → ⊥) → {s' : Standing} → s' ≡ s → (s' ≡ standing_of t rows r b (i + 1)) × (s'.decided ≡ false)
    standing_passed ex n q =
        (q ∙ standing_added i s es d (other_round t rows r (i + 1) (entry_of b i) s ex n), ap (λ (x : Standing). x.decided) q ∙ d)

  pub standing_stays : (i k : ℕ) → i ≤ k → (s : Standing) → s ≡ standing_of t rows r b i → s.decided ≡ true → s ≡ standing_of t rows r b k
  unfolding standing_of
  standing_stays i zero l s es d = let q : i ≡ 0 = omega arith in es ∙ ap (standing_of t rows r b) q
  standing_stays i (suc k) l s es d = go (last_or_below i (suc k) (omega arith)) (λ g. standing_stays i k g s es d)
    where
      go : (i ≡ suc k) ⊎ (i < suc k) → (i ≤ k → s ≡ standing_of t rows r b k) → s ≡ standing_of t rows r b (suc k)
      go (inl q) f = es ∙ ap (standing_of t rows r b) q
      go (inr g) f =
          let e = f (omega arith) in
          ap (λ (x : Bool). pick x s (with_entry t rows r (suc k) (entry_of b k) s)) (sym d)
          ∙ (λ j. pick (e j).decided (e j) (with_entry t rows r (suc k) (entry_of b k) (e j)))

  -- The entry that decides the round does not come before its first.
  module _ (from : ℕ) (none : (i : ℕ) → i < from → (entry_of b i).round ≡ r → ⊥) where
    pub decided_after : (k : ℕ) → (standing_of t rows r b k).decided ≡ true → from ≤ (standing_of t rows r b k).entries
    unfolding standing_of with_entry
    decided_after zero d = absurd (never false d refl)
    decided_after (suc k) d = kept (standing_of t rows r b k) (decided_after k) (standing_of t rows r b k).decided refl d
      where
        counted : (s : Standing) → s.decided ≡ false → (y : Bool) → (eqb (entry_of b k).round r && ltb (entry_of b k).site t.sites) ≡ y
            → (pick y (marked t rows (suc k) (entry_of b k) s) s).decided ≡ true → from ≤ (pick y (marked t rows (suc k) (entry_of b k) s) s).entries
        counted s e true q d =
            ⊎_elim (λ l. absurd (none k l (eqb-true (entry_of b k).round r (left (eqb (entry_of b k).round r) (ltb (entry_of b k).site t.sites) q)))) (λ l. omega arith)
            (lt_or_le k from)
        counted s e false q d = absurd (never s.decided d e)

        kept : (s : Standing) → (s.decided ≡ true → from ≤ s.entries) → (x : Bool) → s.decided ≡ x
            → (pick x s (pick (eqb (entry_of b k).round r && ltb (entry_of b k).site t.sites) (marked t rows (suc k) (entry_of b k) s) s)).decided ≡ true
            → from ≤ (pick x s (pick (eqb (entry_of b k).round r && ltb (entry_of b k).site t.sites) (marked t rows (suc k) (entry_of b k) s) s)).entries
        kept s ih true e d = ih d
        kept s ih false e d = counted s e (eqb (entry_of b k).round r && ltb (entry_of b k).site t.sites) refl d
