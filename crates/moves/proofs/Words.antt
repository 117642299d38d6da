-- The sets of a site in its bytes: as words and back, and within the book.
-- Assumes nothing.
use Rattle.std.specs.Prelude.{Some}
use mathlib.Core.Path.{◌≡◌, refl, ap}
use mathlib.Core.Bool.{Bool, true, false, ◌&&◌, ◌||◌, not}
use mathlib.Core.List.{List}
use Prim.Native.Nat.{ℕ, ◌≤◌, ◌<◌}
use lib.Dec.{ltb}
use lib.ListN.{length, get_or}
use Rattle.theory.specs.Sets as theory
use Rattle.theory.specs.Counting.{never, all_at, all_of}
use Rattle.sets.specs.Sets.{capacity, in_set, set_of}
use Rattle.sets.proofs.Laws.{has_above, set_back}
use Rattle.table.specs.declared.SiteTable.{SiteTable}
use Rattle.register.specs.declared.Command.{Command}
use Rattle.protocol.specs.Site.{undelivered, unacknowledged}
use Rattle.system.specs.Dash.{dash}
use Rattle.layout.specs.Layout.{head_of, view}
use Rattle.layout.specs.Good.{Good}
use Rattle.layout.proofs.Header.{fit}
use Rattle.world.specs.World.{known_to}

-- A part of a set that is known is known.
known_part : (c : ℕ) (p q : theory.Set) → known_to c (Some p) ≡ true → ((m : ℕ) → p m ≡ false → q m ≡ false) → known_to c (Some q) ≡ true
known_part c p q h k =
    all_of capacity (λ m. not (q m) || ltb m c) (λ m l. go (p m) (q m) (ltb m c) (all_at capacity (λ n. not (p n) || ltb n c) h m l) (k m))
  where
    go : (x y z : Bool) → (not x || z) ≡ true → (x ≡ false → y ≡ false) → (not y || z) ≡ true
    go x y true a b = or_true y
      where
        or_true : (y : Bool) → (not y || true) ≡ true
        or_true true = refl
        or_true false = refl
    go true y false a b = absurd (never false a refl)
    go false y false a b = ap (λ (x : Bool). not x || false) (b refl)

-- The first of two tests fails, or the second.
none_left : (x y : Bool) → x ≡ false → (x && y) ≡ false
none_left x y e = ap (λ (z : Bool). z && y) e

module _ (t : SiteTable) (book : List Command) (b : List ℕ) (good : Good t.sites (length book) b) (small : (i : ℕ) → get_or b i 0 < 256) where
  -- Nothing stands beyond the capacity of a word.
  received_above : (m : ℕ) → capacity ≤ m → (view t book b).received m ≡ false
  received_above m l = has_above 64 (head_of b).received.bits m (fit b small good.size).received l

  pub undelivered-word : in_set (set_of capacity (undelivered (dash t book) (view t book b))) ≡ undelivered (dash t book) (view t book b)
  undelivered-word = set_back capacity (undelivered (dash t book) (view t book b)) (λ m l. none_left ((view t book b).received m) _ (received_above m l))

  pub unacknowledged-word : in_set (set_of capacity (unacknowledged (dash t book) (view t book b))) ≡ unacknowledged (dash t book) (view t book b)
  unacknowledged-word = set_back capacity (unacknowledged (dash t book) (view t book b)) (λ m l. none_left ((view t book b).received m) _ (received_above m l))

  pub pending_word : in_set (set_of capacity (view t book b).pending) ≡ (view t book b).pending
  pending_word = set_back capacity (view t book b).pending (λ m l. has_above 64 (head_of b).pending.bits m (fit b small good.size).pending l)

  -- What is undelivered is within the book.
  pub undelivered-known : known_to (length book) (Some (undelivered (dash t book) (view t book b))) ≡ true
  undelivered-known =
      known_part (length book) (view t book b).received (undelivered (dash t book) (view t book b)) good.head.received
      (λ m e. none_left ((view t book b).received m) _ e)

  pub unacknowledged-known : known_to (length book) (Some (unacknowledged (dash t book) (view t book b))) ≡ true
  unacknowledged-known =
      known_part (length book) (view t book b).received (unacknowledged (dash t book) (view t book b)) good.head.received
      (λ m e. none_left ((view t book b).received m) _ e)
