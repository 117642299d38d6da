-- The system that goes by the rows of a book decides as the dash register's does.
-- Assumes nothing.
use Rattle.std.specs.Prelude.{Some}
use mathlib.Core.Path.{◌≡◌, refl, sym, ap, ◌∙◌}
use mathlib.Core.Bool.{Bool, true, false, ◌&&◌}
use mathlib.Core.List.{List, [], ◌∷◌}
use mathlib.Core.Logic.{◌⊎◌, inl, inr}
use Prim.Native.Nat.{ℕ, ◌≤◌, ◌<◌}
use native.Mathlib.Omega.{arith}
use lib.Dec.{eqb}
use lib.ListN.{length}
use Rattle.theory.specs.Sets.{Set, pick}
use Rattle.theory.specs.Counting.{same_test, lt_or_le}
use Rattle.sets.specs.Sets.{capacity, in_set}
use Rattle.table.specs.declared.SiteTable.{SiteTable}
use Rattle.table.specs.Table.{n_chk_of}
use Rattle.register.specs.Register.{conflict_at}
use Rattle.commands.specs.Book.{commands_of, command_of}
use Rattle.commands.proofs.Walk.{few_commands}
use Rattle.conflicts.specs.Conflicts.{conflict_in, conflict_rows}
use Rattle.conflicts.proofs.Laws.{in_book, out_left, out_right, in_row, rows_at}
use Rattle.protocol.specs.System.{free}
use Rattle.protocol.specs.Recovery.{Entry, Log, Standing, absent, valid, excluded, Tally, nobody, after_entry, add, valid_count, decide_from, decide}
use Rattle.protocol.specs.RecoveryLaws.{free_pair, free_of}
use Rattle.system.specs.Dash.{dash, command_at}
use Rattle.calm.specs.Rows.{conflict_by, free_by, rows_system}

module _ (s : List ℕ) where
  -- The rows say of two commands whether both are in the book and conflict.
  pub conflict_by-rows : (a b : ℕ) → a < capacity → b < capacity → conflict_by (conflict_rows s) a b ≡ conflict_in s a b
  conflict_by-rows a b la lb = ap (λ x. in_set x b) (rows_at s a la) ∙ in_row s a b lb

  -- Commands of the book, as the register says.
  pub conflict_by-book : (a b : ℕ) → a < length (commands_of s) → b < length (commands_of s)
      → conflict_by (conflict_rows s) a b ≡ conflict_at (command_at (commands_of s)) a b
  unfolding command_of
  conflict_by-book a b la lb =
      let few = few_commands s in
      conflict_by-rows a b (omega arith) (omega arith) ∙ in_book s a b la lb

  -- Beyond the book nothing conflicts.
  conflict_beyond : (a b : ℕ) → a < capacity → b < capacity → (length (commands_of s) ≤ a) ⊎ (length (commands_of s) ≤ b)
      → conflict_by (conflict_rows s) a b ≡ false
  conflict_beyond a b la lb (inl h) = conflict_by-rows a b la lb ∙ out_left s a b h
  conflict_beyond a b la lb (inr h) = conflict_by-rows a b la lb ∙ out_right s a b h

  -- A set is free of conflicts by the rows of a book where it is at the dash register.
  pub free-rows : (t : SiteTable) (x : Set) → free_by (conflict_rows s) x ≡ free (dash t (commands_of s)) x
  free-rows t x = same_test (free_by (conflict_rows s) x) (free (dash t (commands_of s)) x) there back
    where
      there : free_by (conflict_rows s) x ≡ true → free (dash t (commands_of s)) x ≡ true
      there h =
          free_of (dash t (commands_of s)) x
          (λ a b la lb ha hb. let few = few_commands s in
          sym (conflict_by-book a b la lb)
          ∙ free_pair (rows_system t (conflict_rows s)) x h a b (omega arith) (omega arith) ha hb)

      in_both : free (dash t (commands_of s)) x ≡ true → (a b : ℕ) → a < capacity → b < capacity → x a ≡ true → x b ≡ true
          → (a < length (commands_of s)) ⊎ (length (commands_of s) ≤ a) → (b < length (commands_of s)) ⊎ (length (commands_of s) ≤ b)
          → conflict_by (conflict_rows s) a b ≡ false
      in_both h a b la lb ha hb (inl ka) (inl kb) =
          conflict_by-book a b ka kb ∙ free_pair (dash t (commands_of s)) x h a b ka kb ha hb
      in_both h a b la lb ha hb (inl ka) (inr kb) = conflict_beyond a b la lb (inr kb)
      in_both h a b la lb ha hb (inr ka) kb = conflict_beyond a b la lb (inl ka)

      back : free (dash t (commands_of s)) x ≡ true → free_by (conflict_rows s) x ≡ true
      back h =
          free_of (rows_system t (conflict_rows s)) x
          (λ a b la lb ha hb. in_both h a b la lb ha hb (lt_or_le a (length (commands_of s))) (lt_or_le b (length (commands_of s))))

  module _ (t : SiteTable) where
    after-rows : (e : Entry) (k : Standing) → after_entry (rows_system t (conflict_rows s)) e k ≡ after_entry (dash t (commands_of s)) e k
    after-rows e absent = ap (λ (b : Bool). pick b (valid e.nc e.c) excluded) (free-rows t e.nc)
    after-rows e (valid nc c) = refl
    after-rows e excluded = refl

    -- So are the sources' standing and the decision.
    pub add-rows : (r : ℕ) (k : Tally) (e : Entry) → add (rows_system t (conflict_rows s)) r k e ≡ add (dash t (commands_of s)) r k e
    add-rows r k e = λ i j. pick (eqb e.site j && eqb e.round r) (after-rows e (k j) i) (k j)

    decide_from-rows : (r : ℕ) (k : Tally) (l : Log)
        → decide_from (rows_system t (conflict_rows s)) r k l ≡ decide_from (dash t (commands_of s)) r k l
    unfolding decide_from
    decide_from-rows r k [] = refl
    decide_from-rows r k (e ∷ l) =
        (λ i. pick (eqb (valid_count (dash t (commands_of s)) (add-rows r k e i)) (n_chk_of t)) (Some (add-rows r k e i))
        (decide_from (rows_system t (conflict_rows s)) r (add-rows r k e i) l))
        ∙ ap (pick (eqb (valid_count (dash t (commands_of s)) (add (dash t (commands_of s)) r k e)) (n_chk_of t)) (Some (add (dash t (commands_of s)) r k e)))
        (decide_from-rows r (add (dash t (commands_of s)) r k e) l)

    pub decide-rows : (r : ℕ) (l : Log) → decide (rows_system t (conflict_rows s)) r l ≡ decide (dash t (commands_of s)) r l
    decide-rows r l = decide_from-rows r nobody l
