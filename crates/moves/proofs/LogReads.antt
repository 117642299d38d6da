-- A log read on lent buffers: the next entry in the log's bytes, and the verdict on it.
-- Assumes nothing.
use mathlib.Core.Path.{◌≡◌, refl, sym, ap, ◌∙◌}
use Rattle.std.specs.Prelude.{Err}
use mathlib.Core.Bool.{Bool, true, false, not}
use mathlib.Core.List.{List}
use mathlib.Core.Logic.{⊎_elim}
use Prim.Native.Nat.{ℕ, zero, suc, ◌+◌, ◌-◌, ◌≤◌, ◌<◌}
use native.Mathlib.Omega.{arith}
use lib.Dec.{ltb}
use lib.ListN.{length, take, get_or}
use borrow.Author.Tests.{lt-ltb, le-ltb, ltb-true}
use Rattle.refusals.specs.Refusals.{Verdict, accepted}
use Rattle.refusals.specs.declared.Refusal.TheVariants.{Range, Role, Disabled, ThirdEntry}
use Rattle.theory.specs.Lists.{nth}
use Rattle.theory.specs.Counting.{lt_or_le}
use Rattle.table.specs.declared.SiteTable.{SiteTable}
use Rattle.table.specs.Table.{faulty_of}
use Rattle.register.specs.declared.Command.{Command}
use Rattle.protocol.specs.System.{granted, ◌else◌⨾◌, verdict, correct}
use Rattle.protocol.specs.Recovery as recovery
use Rattle.protocol.specs.Site.{is_some, next, next_in_range, no_third, read_entry, for_log_read}
use Rattle.protocol.specs.World.{log_read, judge}
use Rattle.system.specs.Dash.{dash}
use Rattle.layout.specs.Layout.{head_of, view, site_at}
use Rattle.site.specs.Steps.{ReadEntry}
use Rattle.entries.specs.Entries.{entry_of, log_to, in_range_of}
use Rattle.entries.proofs.Logs.{log_nth, log_end, log_take}
use Rattle.entries.proofs.Judging.{entries_next, one_yes}
use Rattle.world.specs.World.{GoodWorld, world_of}
use Rattle.world.specs.Parts.{lent, AtSite}
use Rattle.world.proofs.Hold.{seen, refused, carried_site}
use Rattle.moves.specs.Moves.{LogRead}

-- ---- the next entry

-- A longer log has no fewer entries of a site and round.
entries_grow : (log : List ℕ) (j r k d : ℕ) → recovery.entries j r (log_to log k) ≤ recovery.entries j r (log_to log (k + d))
entries_grow log j r k zero =
    let q : k ≡ k + 0 = omega arith in omega (arith, ap (λ (n : ℕ). recovery.entries j r (log_to log n)) q)
entries_grow log j r k (suc d) =
    let q : k + suc d ≡ (k + d) + 1 = omega arith in
    omega (arith, ap (λ (n : ℕ). recovery.entries j r (log_to log n)) q, entries_next log j r (k + d), entries_grow log j r k d)

-- With at most two entries of a site and round, there is at most one before each of them.
before_few : (log : List ℕ) (entries k : ℕ) → ((j r : ℕ) → recovery.entries j r (log_to log entries) ≤ 2) → k < entries
    → recovery.entries (entry_of log k).site (entry_of log k).round (log_to log k) < 2
before_few log entries k twice l =
    let j = (entry_of log k).site in
    let r = (entry_of log k).round in
    let q : (k + 1) + (entries - (k + 1)) ≡ entries = omega arith in
    omega (
      arith,
      twice j r,
      ap (λ (n : ℕ). recovery.entries j r (log_to log n)) q,
      entries_grow log j r (k + 1) (entries - (k + 1)),
      entries_next log j r k,
      one_yes log j r k refl refl refl refl,
    )

module _ (t : SiteTable) (book : List Command) (log : List ℕ) (entries k : ℕ) where
  next_good : ((i : ℕ) → i < entries → in_range_of t.sites (length book) (entry_of log i) ≡ true)
      → next_in_range (dash t book) (nth (log_to log entries) k) ≡ true
  next_good logged =
      ⊎_elim (λ l. ap (next_in_range (dash t book)) (log_nth log entries k l) ∙ logged k l) (λ l. ap (next_in_range (dash t book)) (log_end log entries k l))
      (lt_or_le k entries)

  next_left : ltb k entries ≡ is_some (nth (log_to log entries) k)
  next_left =
      ⊎_elim (λ l. lt-ltb k entries l ∙ sym (ap is_some (log_nth log entries k l))) (λ l. le-ltb k entries l ∙ sym (ap is_some (log_end log entries k l)))
      (lt_or_le k entries)

  next_no_third : ((j r : ℕ) → recovery.entries j r (log_to log entries) ≤ 2) → true ≡ no_third (dash t book) (take k (log_to log entries)) (nth (log_to log entries) k)
  next_no_third twice =
      ⊎_elim
      (λ l.
      sym (lt-ltb (recovery.entries (entry_of log k).site (entry_of log k).round (log_to log k)) 2 (before_few log entries k twice l))
      ∙ sym (λ z. no_third (dash t book) (log_take log k entries (omega arith) z) (log_nth log entries k l z)))
      (λ l. sym (ap (no_third (dash t book) (take k (log_to log entries))) (log_end log entries k l)))
      (lt_or_le k entries)

-- A log read that is taken has an entry left.
first_told : (x y : Bool) → verdict (x else Disabled ⨾ y else ThirdEntry ⨾ granted) ≡ accepted → x ≡ true
first_told true y e = refl
first_told false y e = absurd (let z : ◌≡◌ {A = ℕ} 0 1 = cc in omega arith)

-- ---- the step

module _ (t : SiteTable) (i entries : ℕ) (sites : List ℕ) (small : (k : ℕ) → get_or sites k 0 < 256) where
  -- Every entry of a good world is in range.
  next_known : (book : List Command) (log sent : List ℕ) → GoodWorld t (length book) (lent sites log entries sent)
      → next_in_range (dash t book) (next (dash t book) ((world_of t book (lent sites log entries sent)).site i) (log_to log entries)) ≡ true
  next_known book log sent g = next_good t book log entries ((world_of t book (lent sites log entries sent)).site i).position g.logged

  pub read_range : t.sites ≤ i → LogRead t i entries sites (Err Range) sites
  read_range h = λ book log sent g. refused t book (lent sites log entries sent) g (log_read i) Range (simp (le-ltb i t.sites h)) small

  module _ (inside : i < t.sites) {f : Bool} (ef : f ≡ faulty_of t i) where
    judged : (book : List Command) (log sent : List ℕ) → GoodWorld t (length book) (lent sites log entries sent)
        → judge (dash t book) (world_of t book (lent sites log entries sent)) (log_read i)
        ≡ verdict (not f else Role ⨾ for_log_read (dash t book) ((world_of t book (lent sites log entries sent)).site i) (log_to log entries))
    judged book log sent g =
        let w = world_of t book (lent sites log entries sent) in
        let e = next_known book log sent g in
        (λ z. verdict (lt-ltb i t.sites inside z else Range ⨾ next_in_range (dash t book) (next (dash t book) (w.site i) w.log) else Range
        ⨾ correct (dash t book) i else Role ⨾ for_log_read (dash t book) (w.site i) w.log))
        ∙ (λ z. verdict (e z else Range ⨾ not (sym ef z) else Role ⨾ for_log_read (dash t book) (w.site i) w.log))

    pub read_role : f ≡ true → LogRead t i entries sites (Err Role) sites
    read_role h =
        λ book log sent g.
        refused t book (lent sites log entries sent) g (log_read i) Role
        (judged book log sent g ∙ (λ z. verdict (not (h z) else Role ⨾ for_log_read (dash t book) ((world_of t book (lent sites log entries sent)).site i) (log_to log entries)))) small

    pub read_carried : f ≡ false → {k : ℕ} → k ≡ (head_of (site_at sites i)).position → {v : Verdict} {after : List ℕ}
        → AtSite i (λ b new. ReadEntry (ltb k entries) false b v new) sites after → LogRead t i entries sites v after
    read_carried h {k} ek {v} {after} p =
        λ book log sent g.
        let b = lent sites log entries sent in
        let s = site_at sites i in
        carried_site t book b g (log_read i) small i inside p (read_entry (dash t book)) (verdict (for_log_read (dash t book) (view t book s) (log_to log entries)))
        (p.did t book (log_to log entries) (g.site i inside) (next_left t book log entries k ∙ ap (λ (n : ℕ). is_some (nth (log_to log entries) n)) ek)
        (next_no_third t book log entries (head_of s).position g.twice))
        (λ e. read_more book log e)
        (judged book log sent g
        ∙ (λ z. verdict (not (h z) else Role ⨾ for_log_read (dash t book) (seen t book b g i inside z) (log_to log entries))))
        refl refl refl
      where
        read_more : (book : List Command) (log : List ℕ) → verdict (for_log_read (dash t book) (view t book (site_at sites i)) (log_to log entries)) ≡ accepted
            → suc (head_of (site_at sites i)).position ≤ entries
        read_more book log e =
            let n = (head_of (site_at sites i)).position in
            ltb-true n entries
            (next_left t book log entries n
            ∙ first_told (is_some (nth (log_to log entries) n)) (no_third (dash t book) (take n (log_to log entries)) (nth (log_to log entries) n)) e)

-- The position of a site that has an entry left to read has room for one more.
pub position_room : (entries : ℕ) {k n : ℕ} → entries ≤ 65535 → k ≡ n → ltb k entries ≡ true → n < 65535
position_room entries {k} {n} a e h = let l = ltb-true k entries h in omega arith
