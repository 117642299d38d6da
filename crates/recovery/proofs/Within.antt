-- A decision by a log whose entries are in range: its sets are within the book, and its round is one that the log takes.
-- Assumes nothing.
use Rattle.std.specs.Prelude.{None, Option, Some}
use mathlib.Core.Path.{◌≡◌, refl, sym, ap, subst, ◌∙◌}
use Rattle.recovery.specs.declared.Sets.{Sets}
use mathlib.Core.Bool.{Bool, true, false, ◌||◌, not}
use mathlib.Core.List.{List}
use mathlib.Core.Logic.{⊎_elim}
use Prim.Native.Nat.{ℕ, zero, suc, ◌*◌, ◌≤◌, ◌<◌}
use native.Mathlib.Omega.{arith}
use lib.ListN.{length, get_or}
use borrow.Author.Tests.{leb-true}
use Rattle.theory.specs.Sets.{any, count}
use Rattle.theory.specs.Counting.{left, either, never, any_some, count-some}
use Rattle.sets.specs.Sets.{capacity, within_of}
use Rattle.sets.proofs.Laws.{within_at, within_of_lem}
use Rattle.table.specs.declared.SiteTable.{SiteTable}
use Rattle.table.specs.Table.{is_good, majority_of}
use Rattle.table.proofs.Laws.{good_limits}
use Rattle.register.specs.declared.Command.{Command}
use Rattle.commands.specs.Book.{commands_of}
use Rattle.conflicts.specs.Conflicts.{conflict_rows}
use Rattle.calm.specs.Rows.{rows_system}
use Rattle.protocol.specs.Recovery.{Entry, Standing, absent, valid, excluded, is_valid, nc_of, c_of, Tally, decide, nc_set}
use Rattle.protocol.specs.RecoveryLaws.{decided_count}
use Rattle.protocol.specs.StandingLaws.{Logged, logged_split, Backed}
use Rattle.protocol.proofs.StandingLaws.{decided_backed}
use Rattle.system.specs.Dash.{dash, last_round}
use Rattle.entries.specs.Entries.{entry_size, entry_of, view_entry, log_to, in_range_of}
use Rattle.entries.proofs.Judging.{in_range_told}
use Rattle.recovery.specs.Decisions.{sets_of, decision_of, DecisionWithin}
use Rattle.recovery.proofs.Decided.{decision-dash}
use Rattle.recovery.proofs.Members.{members_nc, members_c}

-- An entry in range, as the protocol knows it.
record InRange (commands : ℕ) (e : Entry) : Type 0 where
  pub round : e.round ≤ last_round
  pub nc : (m : ℕ) → m < capacity → e.nc m ≡ true → m < commands
  pub c : (m : ℕ) → m < capacity → e.c m ≡ true → m < commands

module _ (t : SiteTable) (commands : ℕ) (b : List ℕ) where
  in_range : (p : ℕ) → in_range_of t.sites commands (entry_of b p) ≡ true → InRange commands (view_entry (entry_of b p))
  in_range p h =
      let e = entry_of b p in
      let r = in_range_told t.sites commands e h in
      record { round = r.round; nc = within_at e.nc commands r.nc; c = within_at e.c commands r.c }

  -- An entry that is logged is in range, where all entries are.
  logged_range : (k : ℕ) → ((p : ℕ) → p < k → in_range_of t.sites commands (entry_of b p) ≡ true) → (e : Entry) → Logged e (log_to b k) → InRange commands e
  unfolding log_to
  logged_range zero h e g = absurd g
  logged_range (suc k) h e g =
      ⊎_elim (λ w. logged_range k (λ p l. h p (omega arith)) e w) (λ q. subst (InRange commands) (sym q) (in_range k (h k (omega arith))))
      (logged_split e (view_entry (entry_of b k)) (log_to b k) g)

module _ (t : SiteTable) (table : is_good t ≡ true) (bytes rows : List ℕ) (b : List ℕ) (small : (i : ℕ) → get_or b i 0 < 256) (k r : ℕ) (room : k * entry_size ≤ length b)
    (logged : (p : ℕ) → p < k → in_range_of t.sites (length (commands_of bytes)) (entry_of b p) ≡ true) where
  abbrev book : List Command
  book = commands_of bytes

  module _ (d : Tally) (e : decide (dash t book) r (log_to b k) ≡ Some d) where
    -- What a valid source proposed is in range.
    backed : (j : ℕ) → is_valid (d j) ≡ true → r ≤ last_round
    backed j h = go (d j) h (decided_backed (dash t book) r (log_to b k) d e j)
      where
        go : (x : Standing) → is_valid x ≡ true → Backed (dash t book) j r (log_to b k) x → r ≤ last_round
        go absent h w = absurd (never false h refl)
        go (valid nc c) h w =
            let l = (logged_range t (length book) b k logged w.1.entry w.1.logged).round in
            let q = w.1.at in
            omega arith
        go excluded h w = absurd (never false h refl)

    said : (j m : ℕ) → m < capacity → (nc_of (d j) m || c_of (d j) m) ≡ true → m < length book
    said j m l h = go (d j) h (decided_backed (dash t book) r (log_to b k) d e j)
      where
        go : (x : Standing) → (nc_of x m || c_of x m) ≡ true → Backed (dash t book) j r (log_to b k) x → m < length book
        go absent h w = absurd (never false h refl)
        go (valid nc c) h w =
            let g = logged_range t (length book) b k logged w.1.entry w.1.logged in
            ⊎_elim (λ z. g.nc m l (ap (λ (x : ℕ → Bool). x m) w.1.same_nc ∙ z)) (λ z. g.c m l (ap (λ (x : ℕ → Bool). x m) w.1.same_c ∙ z))
            (either (nc m) (c m) h)
        go excluded h w = absurd (never false h refl)

    pub decided_round : r ≤ last_round
    decided_round =
        let l = good_limits t table in
        let n = decided_count (dash t book) r (log_to b k) d e in
        let w = count-some t.sites (λ j. is_valid (d j)) (omega (arith, l.enough)) in
        backed w.0 w.2

    pub majority : 1 ≤ majority_of t
    majority = let l = good_limits t table in omega (arith, l.enough)

    nc_within : within_of (sets_of (dash t book) d).nc (length book) ≡ true
    nc_within =
        within_of_lem (sets_of (dash t book) d).nc (length book)
        (λ m l h.
        let q = leb-true (majority_of t) (count t.sites (λ j. nc_of (d j) m)) (sym (λ i. members_nc b small (dash t book) r k room d e majority i m) ∙ h) in
        let one = majority in
        let w = count-some t.sites (λ j. nc_of (d j) m) (omega arith) in
        said w.0 m l (ap (λ (x : Bool). x || c_of (d w.0) m) w.2))

    c_within : within_of (sets_of (dash t book) d).c (length book) ≡ true
    c_within =
        within_of_lem (sets_of (dash t book) d).c (length book)
        (λ m l h.
        let q = left (any t.sites (λ j. nc_of (d j) m || c_of (d j) m)) (not (nc_set (dash t book) d m)) (sym (λ i. members_c b small (dash t book) r k room d e i m) ∙ h) in
        let w = any_some t.sites (λ j. nc_of (d j) m || c_of (d j) m) q in
        said w.0 m l w.2)

  -- ---- what the answer tells

  module _ (er : rows ≡ conflict_rows bytes) {a : Option Sets} (ea : a ≡ decision_of (rows_system t rows) (decide (rows_system t rows) r (log_to b k))) where
    pub answer_is : a ≡ decision_of (dash t book) (decide (dash t book) r (log_to b k))
    answer_is =
        ea ∙ ap (λ (x : List ℕ). decision_of (rows_system t x) (decide (rows_system t x) r (log_to b k))) er ∙ decision-dash t bytes r (log_to b k)

    pub decision-within : DecisionWithin (length book) a
    decision-within = subst (DecisionWithin (length book)) (sym answer_is) (go (decide (dash t book) r (log_to b k)) refl)
      where
        go : (o : Option Tally) → decide (dash t book) r (log_to b k) ≡ o → DecisionWithin (length book) (decision_of (dash t book) o)
        go None p = tt
        go (Some d) p = (nc_within d p, c_within d p)
