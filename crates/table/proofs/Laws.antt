-- What the limits of a site table give: the quorum inequalities, and few faulty sites; and what a table that is read of bytes is judged to be.
-- Assumes nothing.
use mathlib.Core.Path.{◌≡◌, refl, sym, subst, ◌∙◌}
use Rattle.std.specs.Prelude.{Err, Ok}
use mathlib.Core.Bool.{Bool, true, false, ◌&&◌}
use mathlib.Core.List.{List}
use Prim.Native.Nat.{ℕ, ◌+◌, ◌-◌, ◌*◌, ◌/◌, ◌^◌, ◌≤◌, ◌<◌}
use native.Mathlib.Nat.{div-eq_of_lt, div-lt_iff_lt-mul, one-mul}
use native.Mathlib.Omega.{arith}
use mathlib.Core.Logic.{inl, inr, ◌⊎◌}
use lib.Dec.{leb, ltb}
use lib.ListN.{length}
use lib.Pow.{pow_pos}
use lib.Count.{ones}
use borrow.Author.Tests.{lt-ltb, le-ltb, le-leb, lt-leb, leb-true, ltb-true}
use Rattle.theory.specs.Sets.{count}
use Rattle.theory.specs.Counting.{left, right, lt_or_le}
use Rattle.theory.specs.Quorums.{Quorums}
use Rattle.wire.specs.Wire.{read_le}
use Rattle.sets.specs.Sets.{has}
use Rattle.sets.proofs.Laws.{ones-count}
use Rattle.refusals.specs.declared.Refusal.{Refusal}
use Rattle.refusals.specs.declared.Refusal.TheVariants.{Table}
use Rattle.table.specs.Table.{max_sites, max_faults, good_table, is_good, table_with, table_as, rounded_up_half, faulty_count_of, n_ack_of, n_chk_of, majority_of}
use Rattle.table.specs.declared.SiteTable.{SiteTable}

-- The limits, one by one.
pub record Limits (n f mask : ℕ) : Type 0 where
  pub some_site : 1 ≤ n
  pub sites : n ≤ max_sites
  pub faults : f ≤ max_faults
  pub enough : 5 * f + 1 ≤ n
  pub no_bit : mask < 2 ^ n
  pub few : count n (has mask) ≤ f

pub limits : (n f mask : ℕ) → good_table n f mask ≡ true → Limits n f mask
unfolding good_table
limits n f mask h =
    let h5 = left (leb 1 n && leb n max_sites && leb f max_faults && leb (5 * f + 1) n && ltb mask (2 ^ n)) (leb (count n (has mask)) f) h in
    let h4 = left (leb 1 n && leb n max_sites && leb f max_faults && leb (5 * f + 1) n) (ltb mask (2 ^ n)) h5 in
    let h3 = left (leb 1 n && leb n max_sites && leb f max_faults) (leb (5 * f + 1) n) h4 in
    let h2 = left (leb 1 n && leb n max_sites) (leb f max_faults) h3 in
    record {
      some_site = leb-true 1 n (left (leb 1 n) (leb n max_sites) h2);
      sites = leb-true n max_sites (right (leb 1 n) (leb n max_sites) h2);
      faults = leb-true f max_faults (right (leb 1 n && leb n max_sites) (leb f max_faults) h3);
      enough = leb-true (5 * f + 1) n (right (leb 1 n && leb n max_sites && leb f max_faults) (leb (5 * f + 1) n) h4);
      no_bit = ltb-true mask (2 ^ n) (right (leb 1 n && leb n max_sites && leb f max_faults && leb (5 * f + 1) n) (ltb mask (2 ^ n)) h5);
      few = leb-true (count n (has mask)) f
          (right (leb 1 n && leb n max_sites && leb f max_faults && leb (5 * f + 1) n && ltb mask (2 ^ n)) (leb (count n (has mask)) f) h);
    }

-- The inequalities on which agreement rests hold for every good table.
pub table_quorums : (n f mask : ℕ) → good_table n f mask ≡ true → Quorums n f (n - f) (n - f) (rounded_up_half (n - f + 1))
table_quorums n f mask h =
    let l = limits n f mask h in
    record {
      covers = omega arith;
      overlap = omega arith;
      common = omega arith;
      correct = omega arith;
      reachable = (omega arith, omega arith);
    }

-- The same for a table as a struct.
pub good_limits : (t : SiteTable) → is_good t ≡ true → Limits t.sites t.faults t.mask
good_limits t h = limits t.sites t.faults t.mask h

pub good_quorums : (t : SiteTable) → is_good t ≡ true → Quorums t.sites t.faults (n_ack_of t) (n_chk_of t) (majority_of t)
good_quorums t h = table_quorums t.sites t.faults t.mask h

pub good_few : (t : SiteTable) → is_good t ≡ true → faulty_count_of t ≤ t.faults
good_few t h = (good_limits t h).few

-- A table that was judged good is good, and the table that is told.
pub judged_good : (g : Bool) (u : SiteTable) {t : SiteTable} → table_as g u ≡ Ok t → (g ≡ true) × (t ≡ u)
judged_good true u h = (refl, cc)
judged_good false u h = absurd (let z : ◌≡◌ {A = ℕ} 0 1 = cc in omega arith)

-- One that was refused is not, and the refusal is that of a table.
pub judged_refused : (g : Bool) (u : SiteTable) {r : Refusal} → table_as g u ≡ Err r → (g ≡ false) × (r ≡ Table)
judged_refused true u h = absurd (let z : ◌≡◌ {A = ℕ} 0 1 = cc in omega arith)
judged_refused false u h = (refl, cc)

-- ---- the table in bytes

module _ (b : List ℕ) (mask : ℕ) {n f : ℕ} (en : n ≡ read_le 1 b 0) (ef : f ≡ read_le 1 b 1) where
  pub within_good : good_table n f mask ≡ true → Ok (record { sites = n; faults = f; mask = mask }) ≡ table_as (is_good (table_with b mask)) (table_with b mask)
  within_good h = (λ i. table_as (sym h i) (record { sites = n; faults = f; mask = mask })) ∙ (λ i. table_as (good_table (en i) (ef i) mask) (record { sites = en i; faults = ef i; mask = mask }))

  pub within_bad : good_table n f mask ≡ false → Err Table ≡ table_as (is_good (table_with b mask)) (table_with b mask)
  within_bad h = (λ i. table_as (sym h i) (table_with b mask)) ∙ (λ i. table_as (good_table (en i) (ef i) mask) (table_with b mask))

-- Bytes that are too short for a table have none that is good; in others it is the limits alone that count.
module _ (size : ℕ) (b : List ℕ) (t : SiteTable) where
  pub table_cut : length b < size → Err Table ≡ table_as (leb size (length b) && is_good t) t
  table_cut h = rw (lt-leb size (length b) h) refl

  pub table_whole : size ≤ length b → table_as (is_good t) t ≡ table_as (leb size (length b) && is_good t) t
  table_whole h = rw (le-leb size (length b) h) refl

-- ---- how the code finds the limits

no_bit : (mask n : ℕ) → mask / 2 ^ n ≡ 0 → mask < 2 ^ n
no_bit mask n e = subst (λ (x : ℕ). mask < x) (one-mul (2 ^ n)) ((div-lt_iff_lt-mul {k = 2 ^ n} (pow_pos n)).0 (omega arith))

some_bit : (mask n : ℕ) → (mask / 2 ^ n ≡ 0 → ⊥) → 2 ^ n ≤ mask
some_bit mask n h = go (lt_or_le mask (2 ^ n))
  where
    go : (mask < 2 ^ n) ⊎ (2 ^ n ≤ mask) → 2 ^ n ≤ mask
    go (inl l) = absurd (h (div-eq_of_lt l))
    go (inr l) = l

-- The bits of the mask are as many as the faulty sites.
pub ones_faulty : (t : SiteTable) → is_good t ≡ true → ones t.mask ≡ faulty_count_of t
ones_faulty t h = ones-count t.sites t.mask (good_limits t h).no_bit

-- One law for each answer.
module _ (n f mask : ℕ) where
  pub no_site : n < 1 → good_table n f mask ≡ false
  unfolding good_table
  no_site h = simp (lt-leb 1 n h)

  module _ (a : 1 ≤ n) where
    pub many_sites : max_sites < n → good_table n f mask ≡ false
    unfolding good_table
    many_sites h = simp (le-leb 1 n a, lt-leb n max_sites h)

    module _ (b : n ≤ max_sites) where
      pub many_faults : max_faults < f → good_table n f mask ≡ false
      unfolding good_table
      many_faults h = simp (le-leb 1 n a, le-leb n max_sites b, lt-leb f max_faults h)

      module _ (c : f ≤ max_faults) where
        pub few_sites : n < 5 * f + 1 → good_table n f mask ≡ false
        unfolding good_table
        few_sites h = simp (le-leb 1 n a, le-leb n max_sites b, le-leb f max_faults c, lt-leb (5 * f + 1) n h)

        module _ (d : 5 * f + 1 ≤ n) where
          pub bit_beyond : (mask / 2 ^ n ≡ 0 → ⊥) → good_table n f mask ≡ false
          unfolding good_table
          bit_beyond h =
              simp (le-leb 1 n a, le-leb n max_sites b, le-leb f max_faults c, le-leb (5 * f + 1) n d, le-ltb mask (2 ^ n) (some_bit mask n h))

          pub bits-count : mask / 2 ^ n ≡ 0 → good_table n f mask ≡ leb (ones mask) f
          unfolding good_table
          bits-count h =
              simp (
                le-leb 1 n a,
                le-leb n max_sites b,
                le-leb f max_faults c,
                le-leb (5 * f + 1) n d,
                lt-ltb mask (2 ^ n) (no_bit mask n h),
                ones-count n mask (no_bit mask n h),
              )
