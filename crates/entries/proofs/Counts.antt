-- A table of counts as a judge fills it, and how the judge goes on from one entry to the next.
-- Assumes nothing.
use mathlib.Core.Path.{◌≡◌, refl, sym, ap, subst, ◌∙◌}
use mathlib.Core.Bool.{Bool, true, false, ◌&&◌, not}
use mathlib.Core.List.{List}
use Prim.Native.Nat.{ℕ, suc, ◌+◌, ◌-◌, ◌*◌, ◌≤◌, ◌<◌}
use native.Mathlib.Decide.{ℕ_discrete}
use native.Mathlib.Omega.{arith}
use lib.Dec.{ltb}
use lib.ListN.{length, get_or, set, replicate, length-set, length-replicate, get_or-replicate}
use lib.Seq.{get_or-set_same, get_or-set_other}
use borrow.Author.Tests.{lt-ltb, le-ltb}
use Rattle.theory.specs.Counting.{not-true, not-false, all_more, all-not}
use Rattle.table.specs.Table.{max_sites}
use Rattle.protocol.specs.Recovery.{entries}
use Rattle.system.specs.Dash.{last_round}
use Rattle.entries.specs.declared.Entry.{Entry}
use Rattle.entries.specs.Entries.{entry_of, log_to, one_of, in_range_of, no_third_at, good_at, good_to, cells, Counting}
use Rattle.entries.proofs.Judging.{entries_none, entries_next, one_yes, one_no_site, one_no_round, in_range_told}

-- ---- one cell set

set-one : (counts : List ℕ) (old new : ℕ → ℕ → ℕ) (s k x : ℕ) → s < max_sites → k < last_round → length counts ≡ cells
    → ((j r : ℕ) → j < max_sites → r < last_round → get_or counts (j * 32 + r) 0 ≡ old j r)
    → x ≡ new s k
    → ((j r : ℕ) → (j ≡ s → r ≡ k → ⊥) → new j r ≡ old j r)
    → (j r : ℕ) → j < max_sites → r < last_round → get_or (set counts (s * 32 + k) x) (j * 32 + r) 0 ≡ new j r
set-one counts old new s k x ls lk z h e o j r lj lr =
    elim (ℕ_discrete (j * 32 + r) (s * 32 + k)) [
      | yes q ↦ same q
      | no n ↦ get_or-set_other counts (s * 32 + k) (j * 32 + r) x 0 n ∙ h j r lj lr ∙ sym (o j r (λ a c. n (λ i. a i * 32 + c i)))
    ]
  where
    same : j * 32 + r ≡ s * 32 + k → get_or (set counts (s * 32 + k) x) (j * 32 + r) 0 ≡ new j r
    same q =
        let a : s ≡ j = omega arith in
        let c : k ≡ r = omega arith in
        ap (λ (p : ℕ). get_or (set counts (s * 32 + k) x) p 0) q ∙ get_or-set_same counts (s * 32 + k) x 0 (omega arith) ∙ e ∙ (λ i. new (a i) (c i))

module _ (b : List ℕ) where
  pub counting_none : {counts : List ℕ} → counts ≡ replicate cells 0 → Counting b 0 counts
  counting_none e =
      subst (Counting b 0) (sym e)
      (record {
        size = length-replicate {0} {A = ℕ} 352 0;
        holds = λ j r lj lr. get_or-replicate {0} {A = ℕ} 352 (j * 32 + r) 0 0 (omega arith) ∙ entries_none b j (suc r);
      })

  one_other : (i j r : ℕ) → (j ≡ (entry_of b i).site → r ≡ (entry_of b i).round → ⊥) → one_of b i j r ≡ 0
  one_other i j r n =
      elim (ℕ_discrete (entry_of b i).site j) [
        | yes e ↦ sym (one_no_round b j r i refl (λ q. n (sym e) (sym q)))
        | no d ↦ sym (one_no_site b j r i refl d)
      ]

  -- What the cell of a site and round says.
  pub counted_at : {i : ℕ} {counts : List ℕ} → Counting b i counts → (s r : ℕ) → s < max_sites → 1 ≤ r → r ≤ last_round
      → get_or counts (s * 32 + (r - 1)) 0 ≡ entries s r (log_to b i)
  counted_at {i} k s r ls lr hr =
      let z : suc (r - 1) ≡ r = omega arith in
      k.holds s (r - 1) ls (omega arith) ∙ ap (λ (x : ℕ). entries s x (log_to b i)) z

  -- ---- one entry more

  module _ (i : ℕ) {s r : ℕ} (es : s ≡ (entry_of b i).site) (er : r ≡ (entry_of b i).round) (ls : s < max_sites) (lr : 1 ≤ r) (hr : r ≤ last_round) where
    counting_more : {counts : List ℕ} → Counting b i counts → {x : ℕ} → x ≡ entries s r (log_to b i) + 1 → Counting b (i + 1) (set counts (s * 32 + (r - 1)) x)
    counting_more {counts} k {x} ex =
        let z : suc (r - 1) ≡ r = omega arith in
        record {
          size = length-set counts (s * 32 + (r - 1)) x ∙ k.size;
          holds = set-one counts (λ j q. entries j (suc q) (log_to b i)) (λ j q. entries j (suc q) (log_to b (i + 1))) s (r - 1) x
              ls (omega arith) k.size k.holds
              (ex
              ∙ ap (λ (y : ℕ). entries s r (log_to b i) + y) (one_yes b s r i er es refl refl)
              ∙ sym (entries_next b s r i)
              ∙ ap (λ (y : ℕ). entries s y (log_to b (i + 1))) (sym z))
              (λ j q d. entries_next b j (suc q) i
              ∙ ap (λ (y : ℕ). entries j (suc q) (log_to b i) + y)
              (one_other i j (suc q) (λ u v. d (u ∙ sym es) (let w : suc q ≡ r = v ∙ sym er in omega arith)))
              ∙ omega arith);
        }

  -- ---- the judge's turn at the i-th entry

  module _ (n m : ℕ) where
    module _ (few : n ≤ max_sites) (i : ℕ) {e : Entry} (ee : e ≡ entry_of b i) {t : Bool} (et : t ≡ in_range_of n m e) where
      in_range_here : in_range_of n m (entry_of b i) ≡ t
      in_range_here = (λ d. in_range_of n m (sym ee d)) ∙ sym et

      pub entry_bad : not t ≡ true → (k : ℕ) → i < k → false ≡ good_to b n m k
      entry_bad h k l = sym (all-not k (good_at b n m) i l (ap (λ (x : Bool). x && no_third_at b i) (in_range_here ∙ not-true t h)))

      module _ (h : not t ≡ false) where
        pub in_cells : (e.site < max_sites) × (1 ≤ e.round) × (e.round ≤ last_round)
        in_cells = let w = in_range_told n m e (sym et ∙ not-false t h) in (omega arith, w.some-round, w.round)

        module _ (counts : List ℕ) (c : Counting b i counts) where
          -- The count before the entry.
          abbrev before : ℕ
          before = get_or counts (e.site * 32 + (e.round - 1)) 0

          is_count : before ≡ entries (entry_of b i).site (entry_of b i).round (log_to b i)
          is_count = counted_at c e.site e.round in_cells.0 in_cells.1 in_cells.2 ∙ (λ d. entries (ee d).site (ee d).round (log_to b i))

          good_here : good_at b n m i ≡ ltb before 2
          good_here = λ d. (in_range_here ∙ not-false t h) d && ltb (sym is_count d) 2

          pub third_bad : 2 ≤ before → (k : ℕ) → i < k → false ≡ good_to b n m k
          third_bad l k g = sym (all-not k (good_at b n m) i g (good_here ∙ le-ltb before 2 l))

          pub prefix_more : before < 2 → good_to b n m i ≡ true
              → Counting b (i + 1) (set counts (e.site * 32 + (e.round - 1)) (before + 1)) × (good_to b n m (i + 1) ≡ true)
          prefix_more l g = (
            counting_more i (ap (λ (x : Entry). x.site) ee) (ap (λ (x : Entry). x.round) ee) in_cells.0 in_cells.1 in_cells.2 c
                (ap (λ (x : ℕ). x + 1) (counted_at c e.site e.round in_cells.0 in_cells.1 in_cells.2)),
            all_more i (good_at b n m) g (good_here ∙ lt-ltb before 2 l),
          )
