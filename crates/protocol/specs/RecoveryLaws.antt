-- Laws of the decision of a round: it stays, it rests on exactly nChk valid sources, NC and C are disjoint and hold
-- every command of the valid sets. Rests on StandingLaws. That NC is free of conflicts is proved in proofs/RecoveryLaws.antt.
use Rattle.std.specs.Prelude.{◌≡◌, Bool, ◌&&◌, ◌||◌, not, ℕ, ◌<◌, Some}
use Rattle.std.proofs.Math.Path.{refl, ap}
use Rattle.std.proofs.Common.{sym, ◌∙◌}
use Rattle.std.proofs.Math.Bool.{true, false}
use mathlib.Core.List.{[], ◌∷◌, ◌++◌}
use Rattle.std.proofs.Math.Dec.{eqb}
use borrow.Author.Tests.{eqb-true}
use Rattle.theory.specs.Sets.{Set, ◌∪◌, pick}
use Rattle.theory.specs.Counting.{apart_at, apart_of}
use Rattle.protocol.specs.System.{System, free}
use Rattle.protocol.specs.Recovery.{Log, Tally, nobody, add, valid_count, decide_from, decide, nc_set, proposed, c_set}
use Rattle.protocol.specs.StandingLaws.{same_some, none-some}

module _ (S : System) where
  open S use {machine, commands, sites, n_chk, majority}

  -- Two members of a set that is free of conflicts do not conflict.
  pub free_pair : (x : Set) → free S x ≡ true → (a b : ℕ) → a < commands → b < commands → x a ≡ true → x b ≡ true
      → machine.conflict a b ≡ false
  free_pair x h = apart_at commands x x machine.conflict h

  -- And a set whose members do not conflict is free.
  pub free_of : (x : Set)
      → ((a b : ℕ) → a < commands → b < commands → x a ≡ true → x b ≡ true → machine.conflict a b ≡ false)
      → free S x ≡ true
  free_of x h = apart_of commands x x machine.conflict h

  -- What a log decides, every longer log decides the same.
  pub decide_from_grows : (r : ℕ) (t : Tally) (l more : Log) (d : Tally) → decide_from S r t l ≡ Some d → decide_from S r t (l ++ more) ≡ Some d
  unfolding decide_from
  decide_from_grows r t [] more d h = none-some h
  decide_from_grows r t (e ∷ l) more d h =
      go (eqb (valid_count S (add S r t e)) n_chk) h (decide_from_grows r (add S r t e) l more d)
    where
      go : (b : Bool) → pick b (Some (add S r t e)) (decide_from S r (add S r t e) l) ≡ Some d
          → (decide_from S r (add S r t e) l ≡ Some d → decide_from S r (add S r t e) (l ++ more) ≡ Some d)
          → pick b (Some (add S r t e)) (decide_from S r (add S r t e) (l ++ more)) ≡ Some d
      go true h ih = h
      go false h ih = ih h

  pub decide_grows : (r : ℕ) (l more : Log) (d : Tally) → decide S r l ≡ Some d → decide S r (l ++ more) ≡ Some d
  decide_grows r l more d h = decide_from_grows r nobody l more d h

  -- At a decision exactly nChk sources are valid.
  decided_count_from : (r : ℕ) (t : Tally) (l : Log) (d : Tally) → decide_from S r t l ≡ Some d → valid_count S d ≡ n_chk
  unfolding decide_from
  decided_count_from r t [] d h = none-some h
  decided_count_from r t (e ∷ l) d h = go (eqb (valid_count S (add S r t e)) n_chk) refl h (decided_count_from r (add S r t e) l d)
    where
      go : (b : Bool) → eqb (valid_count S (add S r t e)) n_chk ≡ b
          → pick b (Some (add S r t e)) (decide_from S r (add S r t e) l) ≡ Some d
          → (decide_from S r (add S r t e) l ≡ Some d → valid_count S d ≡ n_chk) → valid_count S d ≡ n_chk
      go true eb h ih = ap (valid_count S) (sym (same_some h)) ∙ eqb-true (valid_count S (add S r t e)) n_chk eb
      go false eb h ih = ih h

  pub decided_count : (r : ℕ) (l : Log) (d : Tally) → decide S r l ≡ Some d → valid_count S d ≡ n_chk
  decided_count r l d h = decided_count_from r nobody l d h

  -- NC and C are disjoint.
  pub nc_c_disjoint : (d : Tally) (m : ℕ) → (nc_set S d m && c_set S d m) ≡ false
  nc_c_disjoint d m = go (nc_set S d m) (proposed S d m)
    where
      go : (a b : Bool) → (a && (b && not a)) ≡ false
      go true true = refl
      go true false = refl
      go false b = refl

  -- They hold every command of the valid sets,
  pub proposed_decided : (d : Tally) (m : ℕ) → proposed S d m ≡ true → (nc_set S d ∪ c_set S d) m ≡ true
  proposed_decided d m h = go (nc_set S d m) (proposed S d m) h
    where
      go : (a b : Bool) → b ≡ true → (a || (b && not a)) ≡ true
      go true b e = refl
      go false true e = refl
      go false false e = e
