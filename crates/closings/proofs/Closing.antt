-- A fast delivery and a round end on lent buffers, from what the site's functions promise.
-- Assumes nothing.
use mathlib.Core.Path.{◌≡◌, refl, sym, ap, subst, ◌∙◌}
use Rattle.std.specs.Prelude.{Err, Option}
use Rattle.recovery.specs.declared.Sets.{Sets}
use mathlib.Core.Bool.{Bool, true, false, not}
use mathlib.Core.List.{List}
use Prim.Native.Nat.{ℕ, ◌+◌, ◌*◌, ◌≤◌, ◌<◌}
use native.Mathlib.Omega.{arith}
use lib.ListN.{length, take, drop, get_or}
use borrow.Author.Tests.{lt-ltb, le-ltb}
use Rattle.refusals.specs.Refusals.{Verdict}
use Rattle.refusals.specs.declared.Refusal.TheVariants.{Range, Role}
use Rattle.table.specs.declared.SiteTable.{SiteTable}
use Rattle.table.specs.Table.{is_good, faulty_of}
use Rattle.register.specs.declared.Command.{Command}
use Rattle.commands.specs.Book.{commands_of}
use Rattle.conflicts.specs.Conflicts.{conflict_rows}
use Rattle.calm.specs.Rows.{rows_system}
use Rattle.protocol.specs.System.{◌else◌⨾◌, verdict, correct}
use Rattle.protocol.specs.Recovery.{decide}
use Rattle.protocol.specs.Site.{deliver_fast, finish, decision, tally_or, for_fast_delivery, for_round_end}
use Rattle.protocol.specs.World.{fast_delivery, round_end}
use Rattle.system.specs.Dash.{dash}
use Rattle.layout.specs.Layout.{site_size, head_of, view, site_at}
use Rattle.layout.specs.Good.{Good}
use Rattle.entries.specs.Entries.{entry_size, entry_of, log_to, in_range_of}
use Rattle.entries.proofs.Logs.{log_take}
use Rattle.recovery.specs.Decisions.{decision_of, DecisionWithin}
use Rattle.recovery.proofs.Within.{decision-within}
use Rattle.fast.specs.Fast.{FastDelivered}
use Rattle.ending.specs.Ending.{Told, RoundEnded}
use Rattle.ending.proofs.Telling.{told}
use Rattle.rounds.specs.Rounds.{kept_rounds, Kept}
use Rattle.rounds.specs.declared.Rounds.{Rounds}
use Rattle.world.specs.World.{world_of}
use Rattle.world.specs.Parts.{lent, AtSite}
use Rattle.world.proofs.Sites.{lent_part}
use Rattle.world.proofs.Hold.{seen, refused, carried_site}
use Rattle.closings.specs.Closings.{GoodSites, GoodLog, KeptLog, Closed}

-- ---- 08

module _ (t : SiteTable) (book : List Command) (sites : List ℕ) (small : (k : ℕ) → get_or sites k 0 < 256) (i m : ℕ) where
  pub fast_no_site : t.sites ≤ i → (log : List ℕ) (entries : ℕ) → Closed t book (fast_delivery i m) log entries sites (Err Range) sites
  fast_no_site h log entries = λ sent g. refused t book (lent sites log entries sent) g (fast_delivery i m) Range (simp (le-ltb i t.sites h)) small

  module _ (a : i < t.sites) {commands : ℕ} (ec : length book ≡ commands) where
    pub fast_no_command : commands ≤ m → (log : List ℕ) (entries : ℕ) → Closed t book (fast_delivery i m) log entries sites (Err Range) sites
    fast_no_command h log entries =
        λ sent g.
        let l : length book ≤ m = omega arith in
        refused t book (lent sites log entries sent) g (fast_delivery i m) Range (simp (lt-ltb i t.sites a, le-ltb m (length book) l)) small

    module _ (n : m < commands) {f : Bool} (ef : f ≡ faulty_of t i) where
      pub fast_role : f ≡ true → (log : List ℕ) (entries : ℕ) → Closed t book (fast_delivery i m) log entries sites (Err Role) sites
      fast_role h log entries =
          λ sent g.
          let l : m < length book = omega arith in
          let e : faulty_of t i ≡ true = sym ef ∙ h in
          refused t book (lent sites log entries sent) g (fast_delivery i m) Role (simp (lt-ltb i t.sites a, lt-ltb m (length book) l, e)) small

      pub fast_carried : f ≡ false → {v : Verdict} {after : List ℕ} → AtSite i (λ b new. FastDelivered t book m b v new) sites after → (log : List ℕ) (entries : ℕ)
          → Closed t book (fast_delivery i m) log entries sites v after
      fast_carried h p log entries =
          λ sent g.
          let b = lent sites log entries sent in
          let w = world_of t book b in
          let l : m < length book = omega arith in
          carried_site t book b g (fast_delivery i m) small i a p (deliver_fast (dash t book) m) (verdict (for_fast_delivery (dash t book) m (view t book (site_at sites i)))) p.did
          (λ e. g.position i a)
          ((λ k. verdict (lt-ltb i t.sites a k else Range ⨾ lt-ltb m (length book) l k else Range ⨾ correct (dash t book) i else Role
          ⨾ for_fast_delivery (dash t book) m (w.site i)))
          ∙ (λ k. verdict (not ((sym ef ∙ h) k) else Role ⨾ for_fast_delivery (dash t book) m (seen t book b g i a k))))
          refl refl refl

-- ---- 0A

module _ (t : SiteTable) (book : List Command) (sites : List ℕ) (small : (k : ℕ) → get_or sites k 0 < 256) (i : ℕ) (log : List ℕ) (entries : ℕ) where
  pub end_no_site : t.sites ≤ i → Closed t book (round_end i) log entries sites (Err Range) sites
  end_no_site h = λ sent g. refused t book (lent sites log entries sent) g (round_end i) Range (simp (le-ltb i t.sites h)) small

  module _ (a : i < t.sites) {f : Bool} (ef : f ≡ faulty_of t i) where
    pub end_role : f ≡ true → Closed t book (round_end i) log entries sites (Err Role) sites
    end_role h =
        λ sent g.
        let e : faulty_of t i ≡ true = sym ef ∙ h in
        refused t book (lent sites log entries sent) g (round_end i) Role (simp (lt-ltb i t.sites a, e)) small

    pub end_carried : f ≡ false → (d : Option Sets) → Told t book d (decision (dash t book) (view t book (site_at sites i)) (log_to log entries)) (view t book (site_at sites i)).round
        → {v : Verdict} {after : List ℕ} → AtSite i (λ b new. RoundEnded book d b v new) sites after → Closed t book (round_end i) log entries sites v after
    end_carried h d told p =
        λ sent g.
        let b = lent sites log entries sent in
        let w = world_of t book b in
        let s = view t book (site_at sites i) in
        carried_site t book b g (round_end i) small i a p
        (λ y. finish (dash t book) (tally_or (decision (dash t book) y (log_to log entries))) y)
        (verdict (for_round_end (dash t book) s (log_to log entries))) (p.did t (log_to log entries) (g.site i a) told) (λ e. g.position i a)
        ((λ k. verdict (lt-ltb i t.sites a k else Range ⨾ correct (dash t book) i else Role ⨾ for_round_end (dash t book) (w.site i) (log_to log entries)))
        ∙ (λ k. verdict (not ((sym ef ∙ h) k) else Role ⨾ for_round_end (dash t book) (seen t book b g i a k) (log_to log entries))))
        refl refl refl

-- The part of a good site that is lent is good.
pub good_part : (t : SiteTable) (commands : ℕ) (sites : List ℕ) (i k : ℕ) → GoodSites t commands sites → i < t.sites → k ≡ site_size
    → Good t.sites commands (take k (drop (i * site_size) sites))
good_part t commands sites i k g a e = subst (Good t.sites commands) (sym (lent_part sites i k e)) (g.site i a)

pub sites_room : (t : SiteTable) (commands : ℕ) (sites : List ℕ) (i : ℕ) → GoodSites t commands sites → i < t.sites → i * site_size + site_size ≤ length sites
sites_room t commands sites i g a = let z = g.size in omega arith

-- The entries that a site has read are there.
pub read-room : (t : SiteTable) (commands : ℕ) (sites log : List ℕ) (entries i : ℕ) {k : ℕ} → GoodLog t commands sites log entries → i < t.sites
    → k ≡ (head_of (site_at sites i)).position → (k ≤ entries) × (k * entry_size ≤ length log)
read-room t commands sites log entries i g a e = let p = g.position i a in let l = g.room in (omega arith, omega arith)

-- What the decision kept of the log tells site i.
module _ (t : SiteTable) (table : is_good t ≡ true) (bytes sites log : List ℕ) {kept : Rounds} (good : KeptLog t bytes sites log kept) (i : ℕ) (a : i < t.sites)
    {k r : ℕ} (ek : k ≡ (head_of (site_at sites i)).position) (round : r ≡ (head_of (site_at sites i)).round)
    {d : Option Sets} (looked_up : (t : SiteTable) (rows log : List ℕ) → Kept t rows log kept → k ≤ kept.entries → d ≡ decision_of (rows_system t rows) (decide (rows_system t rows) r (log_to log k))) where
  abbrev commands : ℕ
  commands = length (commands_of bytes)

  read : (k ≤ kept.entries) × (k * entry_size ≤ length log)
  read = read-room t commands sites log kept.entries i good.good a ek

  abbrev rows : List ℕ
  rows = conflict_rows bytes

  ed : d ≡ decision_of (rows_system t rows) (decide (rows_system t rows) r (log_to log k))
  ed = looked_up t rows log good.rounds read.0

  logged_read : (p : ℕ) → p < k → in_range_of t.sites commands (entry_of log p) ≡ true
  logged_read p l = good.good.logged p (let q = read.0 in omega arith)

  same : decision (dash t (commands_of bytes)) (view t (commands_of bytes) (site_at sites i)) (log_to log kept.entries) ≡ decide (dash t (commands_of bytes)) r (log_to log k)
  same =
      (λ z. decide (dash t (commands_of bytes)) (sym round z) (take (sym ek z) (log_to log kept.entries)))
      ∙ ap (decide (dash t (commands_of bytes)) r) (log_take log k kept.entries read.0)

  pub site_told : Told t (commands_of bytes) d (decision (dash t (commands_of bytes)) (view t (commands_of bytes) (site_at sites i)) (log_to log kept.entries)) (view t (commands_of bytes) (site_at sites i)).round
  site_told =
      told t table bytes rows log good.bytes k r read.1 logged_read refl ed (view t (commands_of bytes) (site_at sites i)) (log_to log kept.entries) same (sym round)

  pub sets_fit : (n : ℕ) → commands ≡ n → DecisionWithin n d
  sets_fit n e = subst (λ (m : ℕ). DecisionWithin m d) e (decision-within t table bytes rows log good.bytes k r read.1 logged_read refl ed)

-- The round of a site is one that is kept.
pub round-kept : (t : SiteTable) (commands : ℕ) (sites : List ℕ) (i : ℕ) {r : ℕ} → GoodSites t commands sites → i < t.sites → r ≡ (head_of (site_at sites i)).round → r < kept_rounds
round-kept t commands sites i g a e = let l = (g.site i a).head.last in omega arith
