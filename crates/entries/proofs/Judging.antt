-- How entries are counted and judged, and what the judgment says in the protocol's terms.
-- Assumes nothing.
use mathlib.Core.Path.{◌≡◌, refl, sym, ap, ◌∙◌}
use mathlib.Core.Bool.{Bool, true, ◌&&◌}
use mathlib.Core.List.{List}
use Prim.Native.Nat.{ℕ, ◌+◌, ◌/◌, ◌≤◌, ◌<◌}
use native.Mathlib.Omega.{arith}
use lib.Dec.{eqb, leb, ltb}
use lib.ListN.{length, take}
use borrow.Author.Tests.{ltb-true, leb-true, eq-eqb, ne_eqb}
use Rattle.theory.specs.Sets.{one, all}
use Rattle.theory.specs.Lists.{nth}
use Rattle.theory.specs.Counting.{both, left, right, all_ext, and_false}
use Rattle.sets.specs.Sets.{within_of}
use Rattle.table.specs.declared.SiteTable.{SiteTable}
use Rattle.register.specs.declared.Command.{Command}
use Rattle.protocol.specs.Recovery.{entries}
use Rattle.protocol.specs.StandingLaws.{entries-more}
use Rattle.protocol.specs.Site.{entry_in_range, next_in_range, no_third}
use Rattle.system.specs.Dash.{dash, last_round}
use Rattle.entries.specs.declared.Entry.{Entry}
use Rattle.entries.specs.Entries.{entry_size, entry_of, view_entry, log_to, log_of, one_of, in_range_of, good_at, good_to}
use Rattle.entries.proofs.Logs.{log_none, log_more, log_take, log_nth}

-- ---- how many entries a site has in a round

module _ (b : List ℕ) (j r : ℕ) where
  pub entries_none : 0 ≡ entries j r (log_to b 0)
  unfolding entries
  entries_none = sym (ap (entries j r) (log_none b))

  pub entries_next : (i : ℕ) → entries j r (log_to b (i + 1)) ≡ entries j r (log_to b i) + one_of b i j r
  entries_next i = ap (entries j r) (log_more b i) ∙ entries-more j r (log_to b i) (view_entry (entry_of b i))

  pub one_yes : (i : ℕ) {x y : ℕ} → x ≡ (entry_of b i).round → y ≡ (entry_of b i).site → x ≡ r → y ≡ j → 1 ≡ one_of b i j r
  one_yes i ex ey hx hy =
      sym (ap one (both (eqb (entry_of b i).site j) (eqb (entry_of b i).round r) (eq-eqb (entry_of b i).site j (sym ey ∙ hy)) (eq-eqb (entry_of b i).round r (sym ex ∙ hx))))

  pub one_no_site : (i : ℕ) {y : ℕ} → y ≡ (entry_of b i).site → (y ≡ j → ⊥) → 0 ≡ one_of b i j r
  one_no_site i ey n = sym (ap (λ (t : Bool). one (t && eqb (entry_of b i).round r)) (ne_eqb (entry_of b i).site j (λ q. n (ey ∙ q))))

  pub one_no_round : (i : ℕ) {x : ℕ} → x ≡ (entry_of b i).round → (x ≡ r → ⊥) → 0 ≡ one_of b i j r
  one_no_round i ex n =
      sym (ap (λ (t : Bool). one (eqb (entry_of b i).site j && t)) (ne_eqb (entry_of b i).round r (λ q. n (ex ∙ q))) ∙ ap one (and_false (eqb (entry_of b i).site j)))

-- ---- ranges

-- What an entry in range says.
pub record Range (n m : ℕ) (e : Entry) : Type 0 where
  pub site : e.site < n
  pub some-round : 1 ≤ e.round
  pub round : e.round ≤ last_round
  pub nc : within_of e.nc m ≡ true
  pub c : within_of e.c m ≡ true

pub in_range_told : (n m : ℕ) (e : Entry) → in_range_of n m e ≡ true → Range n m e
in_range_told n m e h =
    let sites = ltb e.site n in
    let first = leb 1 e.round in
    let last = leb e.round last_round in
    let s = left (sites && first && last && within_of e.nc m) (within_of e.c m) h in
    let f = left (sites && first && last) (within_of e.nc m) s in
    let g = left (sites && first) last f in
    record {
      site = ltb-true e.site n (left sites first g);
      some-round = leb-true 1 e.round (right sites first g);
      round = leb-true e.round last_round (right (sites && first) last f);
      nc = right (sites && first && last) (within_of e.nc m) s;
      c = right (sites && first && last && within_of e.nc m) (within_of e.c m) h;
    }

-- The range of an entry is the protocol's.
pub range_protocol : (t : SiteTable) (book : List Command) (e : Entry)
    → in_range_of t.sites (length book) e ≡ entry_in_range (dash t book) (view_entry e)
range_protocol t book e = refl

-- The first k entries are good where a log read would take each of them.
pub good_protocol : (t : SiteTable) (book : List Command) (b : List ℕ) (k n : ℕ) → k ≤ n
    → good_to b t.sites (length book) k
    ≡ all k (λ i. next_in_range (dash t book) (nth (log_to b n) i) && no_third (dash t book) (take i (log_to b n)) (nth (log_to b n) i))
good_protocol t book b k n h =
    all_ext k (good_at b t.sites (length book))
    (λ i. next_in_range (dash t book) (nth (log_to b n) i) && no_third (dash t book) (take i (log_to b n)) (nth (log_to b n) i))
    (λ i l. λ d. next_in_range (dash t book) (sym (log_nth b n i (omega arith)) d)
    && no_third (dash t book) (sym (log_take b i n (omega arith)) d) (sym (log_nth b n i (omega arith)) d))

-- The same of the whole entries of bytes.
pub good_log : (t : SiteTable) (book : List Command) (b : List ℕ) (k : ℕ) → k ≤ length b / entry_size
    → good_to b t.sites (length book) k
    ≡ all k (λ i. next_in_range (dash t book) (nth (log_of b) i) && no_third (dash t book) (take i (log_of b)) (nth (log_of b) i))
unfolding log_of
good_log t book b k h = good_protocol t book b k (length b / entry_size) h
