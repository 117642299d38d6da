-- A site that has read k entries of a log is told what they decide of its round.
-- Assumes nothing.
use Rattle.std.specs.Prelude.{None, Option, Some}
use mathlib.Core.Path.{◌≡◌, refl, sym, subst}
use Rattle.recovery.specs.declared.Sets.{Sets}
use mathlib.Core.Bool.{true}
use mathlib.Core.List.{List}
use Prim.Native.Nat.{ℕ, ◌*◌, ◌≤◌, ◌<◌}
use lib.ListN.{length, get_or}
use Rattle.table.specs.declared.SiteTable.{SiteTable}
use Rattle.table.specs.Table.{is_good}
use Rattle.commands.specs.Book.{commands_of}
use Rattle.conflicts.specs.Conflicts.{conflict_rows}
use Rattle.protocol.specs.Recovery.{Log, Tally, decide}
use Rattle.protocol.specs.Site as protocol
use Rattle.protocol.specs.Site.{decision}
use Rattle.system.specs.Dash.{dash}
use Rattle.calm.specs.Rows.{rows_system}
use Rattle.entries.specs.Entries.{entry_size, entry_of, log_to, in_range_of}
use Rattle.recovery.specs.Decisions.{decision_of}
use Rattle.recovery.proofs.Members.{members_nc, members_c}
use Rattle.recovery.proofs.Within.{answer_is, decided_round, majority}
use Rattle.ending.specs.Ending.{Told}

module _ (t : SiteTable) (table : is_good t ≡ true) (bytes rows : List ℕ) (b : List ℕ) (small : (i : ℕ) → get_or b i 0 < 256) (k r : ℕ) (room : k * entry_size ≤ length b)
    (logged : (p : ℕ) → p < k → in_range_of t.sites (length (commands_of bytes)) (entry_of b p) ≡ true)
    (er : rows ≡ conflict_rows bytes) {a : Option Sets} (ea : a ≡ decision_of (rows_system t rows) (decide (rows_system t rows) r (log_to b k)))
    (s : protocol.Site (dash t (commands_of bytes))) (log : Log) (es : decision (dash t (commands_of bytes)) s log ≡ decide (dash t (commands_of bytes)) r (log_to b k))
    (round : s.round ≡ r) where
  pub told : Told t (commands_of bytes) a (decision (dash t (commands_of bytes)) s log) s.round
  told =
      subst (λ (n : ℕ). Told t (commands_of bytes) a (decision (dash t (commands_of bytes)) s log) n) (sym round)
      (subst (λ (o : Option Tally). Told t (commands_of bytes) a o r) (sym es)
      (subst (λ (d : Option Sets). Told t (commands_of bytes) d (decide (dash t (commands_of bytes)) r (log_to b k)) r) (sym (answer_is t table bytes rows b small k r room logged er ea))
      (go (decide (dash t (commands_of bytes)) r (log_to b k)) refl)))
    where
      go : (o : Option Tally) → decide (dash t (commands_of bytes)) r (log_to b k) ≡ o → Told t (commands_of bytes) (decision_of (dash t (commands_of bytes)) o) o r
      go None p = tt
      go (Some d) p =
          record {
            nc = members_nc b small (dash t (commands_of bytes)) r k room d p (majority t table bytes rows b small k r room logged d p);
            c = members_c b small (dash t (commands_of bytes)) r k room d p;
            last = decided_round t table bytes rows b small k r room logged d p;
          }
