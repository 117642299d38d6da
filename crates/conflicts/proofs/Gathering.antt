-- Laws of the commands gathered by bike: how the sets grow, and that a row is read off them.
-- Rests on Laws.
use mathlib.Core.Bool.{Bool, true, false, not, ◌&&◌, ◌||◌}
use mathlib.Core.Path.{◌≡◌, refl, sym, ap, subst, ◌∙◌}
use mathlib.Core.List.{List}
use Prim.Native.Nat.{ℕ, ◌+◌, ◌-◌, ◌≤◌, ◌<◌, ◌^◌}
use native.Mathlib.Omega.{arith}
use Rattle.std.proofs.Common.{rules}
use borrow.Author.Tests.{lt-ltb, le-ltb, eqb-true, eq-eqb}
use lib.Dec.{eqb, ltb}
use lib.IntN.{ℤ}
use lib.ListN.{length, replicate, length-set, get_or-replicate}
use Rattle.std.proofs.lemmas.List.{get_or-set_same, get_or-set_other}
use Rattle.theory.specs.Sets.{pick}
use Rattle.theory.specs.Counting.{never, and_false}
use Rattle.sets.specs.declared.Set.{Set}
use Rattle.sets.specs.Sets.{capacity, in_set, empty_of, set_of, with_of, without_of}
use Rattle.sets.proofs.Laws.{in_empty, in_with, in_without, in_set_of, build_none, build_yes, build_no, word_ext, word_lt, set_ext, with_fits, without_fits}
use Rattle.register.specs.declared.Command.{Command}
use Rattle.register.specs.declared.Command.TheVariants.{Add, Fit, Read, Trim}
use Rattle.register.specs.Register.{bikes, bike_of, is_add, is_read, alike}
use Rattle.commands.specs.Book.{commands_of, command_of}
use Rattle.commands.proofs.Places.{commands_valid}
use Rattle.conflicts.specs.declared.BikeSets.{BikeSets}
use Rattle.conflicts.specs.Conflicts.{conflict_in, conflict_row, no_sets, sets_at, with_command, joined_of, is_on, gathered_of, Gathered, opposed_of}
use Rattle.conflicts.proofs.Laws.{no_more, conflict_in-sym, in_row}

-- Which commands are alike, by kind.
add_like : (b km : ℕ) (d : Command) → is_add d ≡ alike d (Add b km)
add_like b' km' (Add b km) = refl
add_like b' km' (Fit b dash start) = refl
add_like b' km' (Read b) = refl
add_like b' km' (Trim b km) = refl

read_like : (b : ℕ) (d : Command) → is_read d ≡ alike d (Read b)
read_like b' (Add b km) = refl
read_like b' (Fit b dash start) = refl
read_like b' (Read b) = refl
read_like b' (Trim b km) = refl

fit_like : (b dash start : ℕ) (d : Command) → alike d (Fit b dash start) ≡ false
fit_like b' dash' start' (Add b km) = refl
fit_like b' dash' start' (Fit b dash start) = refl
fit_like b' dash' start' (Read b) = refl
fit_like b' dash' start' (Trim b km) = refl

trim_like : (b : ℕ) (km : ℤ) (d : Command) → alike d (Trim b km) ≡ false
trim_like b' km' (Add b km) = refl
trim_like b' km' (Fit b dash start) = refl
trim_like b' km' (Read b) = refl
trim_like b' km' (Trim b km) = refl

-- ---- how the sets grow

-- The set of the numbers up to k is that of those below it, which k joins where it is one.
joined : (t : Bool) (k : ℕ) (f : ℕ → Bool) → f k ≡ t → pick t (with_of (set_of k f) k) (set_of k f) ≡ set_of (k + 1) f
joined true k f e = build_yes k f e
joined false k f e = build_no k f e

-- Nothing is gathered yet.
pub gathered_none : (s : List ℕ) {none : Set} → none ≡ empty_of → Gathered s 0 (replicate bikes (record { all = none; adds = none; reads = none }))
gathered_none s e =
    record {
      size = search rules;
      at = λ b lb.
          get_or-replicate bikes b _ no_sets lb
          ∙ (λ i. record { all = (e ∙ build_none (is_on (λ c. true) s b)) i; adds = (e ∙ build_none (is_on is_add s b)) i; reads = (e ∙ build_none (is_on is_read s b)) i });
    }

-- The sets of a bike with the command k, by whether it is on the bike.
own_more : (s : List ℕ) (k b : ℕ) → eqb (bike_of (command_of s k)) b ≡ true → with_command (command_of s k) k (gathered_of s k b) ≡ gathered_of s (k + 1) b
own_more s k b e =
    λ i. record { all = kind (λ c. true) true refl i; adds = kind is_add (is_add (command_of s k)) refl i; reads = kind is_read (is_read (command_of s k)) refl i }
  where
    kind : (p : Command → Bool) (t : Bool) → p (command_of s k) ≡ t → pick t (with_of (set_of k (is_on p s b)) k) (set_of k (is_on p s b)) ≡ set_of (k + 1) (is_on p s b)
    kind p t h = joined t k (is_on p s b) (λ i. e i && h i)

other_more : (s : List ℕ) (k b : ℕ) → eqb (bike_of (command_of s k)) b ≡ false → gathered_of s k b ≡ gathered_of s (k + 1) b
other_more s k b e = λ i. record { all = kind (λ c. true) i; adds = kind is_add i; reads = kind is_read i }
  where
    kind : (p : Command → Bool) → set_of k (is_on p s b) ≡ set_of (k + 1) (is_on p s b)
    kind p = build_no k (is_on p s b) (ap (λ (t : Bool). t && p (command_of s k)) e)

pub bike_below : (s : List ℕ) (k : ℕ) {c : Command} → k < length (commands_of s) → c ≡ command_of s k → bike_of c < bikes
bike_below s k inside ec = subst (λ (x : Command). bike_of x < bikes) (sym ec) (commands_valid s k inside).bike

-- One command more is gathered.
pub gathered_more : (s : List ℕ) (ws : List BikeSets) (k : ℕ) {c : Command} {ws₁ : List BikeSets} → k < length (commands_of s) → c ≡ command_of s k
    → ws₁ ≡ joined_of c k ws → Gathered s k ws → Gathered s (k + 1) ws₁
gathered_more s ws k l ec ej g = subst (λ (x : List BikeSets). Gathered s (k + 1) x) (sym (ej ∙ ap (λ (d : Command). joined_of d k ws) ec)) more
  where
    q : ℕ
    q = bike_of (command_of s k)

    more : Gathered s (k + 1) (joined_of (command_of s k) k ws)
    more = record { size = length-set ws _ _ ∙ g.size; at = λ b lb. go b lb (eqb q b) refl }
      where
        go : (b : ℕ) → b < bikes → (t : Bool) → eqb q b ≡ t → sets_at (joined_of (command_of s k) k ws) b ≡ gathered_of s (k + 1) b
        go b lb true t =
            let here = eqb-true q b t in
            let inside = bike_below s k l refl in
            ap (sets_at (joined_of (command_of s k) k ws)) (sym here)
            ∙ get_or-set_same ws q _ no_sets (omega (arith, g.size))
            ∙ ap (with_command (command_of s k) k) (g.at q inside)
            ∙ own_more s k q (eq-eqb q q refl)
            ∙ ap (gathered_of s (k + 1)) here
        go b lb false t = get_or-set_other ws q b _ no_sets (λ z. never (eqb q b) (eq-eqb q b (sym z)) t) ∙ g.at b lb ∙ other_more s k b t

-- All commands are gathered, as the code counts them.
pub gathered_all : (s : List ℕ) {ws : List BikeSets} {n : ℕ} → n ≡ length (commands_of s) → Gathered s n ws → Gathered s (length (commands_of s)) ws
gathered_all s {ws} e g = subst (λ (k : ℕ). Gathered s k ws) e g

-- ---- a row

abbrev up_to : ℕ → (ℕ → Bool) → ℕ → Bool
up_to n p j = ltb j n && p j

-- The numbers below n as a set of the whole capacity.
up_to_lem : (n : ℕ) (p : ℕ → Bool) → n ≤ capacity → set_of n p ≡ set_of capacity (up_to n p)
up_to_lem n p l =
    let q : n + (capacity - n) ≡ capacity = omega arith in
    (λ i. record { bits = word_ext n p (up_to n p) (λ m h. ap (λ (t : Bool). t && p m) (sym (lt-ltb m n h))) i })
    ∙ no_more n (capacity - n) (up_to n p) (λ k g. ap (λ (t : Bool). t && p k) (le-ltb k n g))
    ∙ ap (λ (k : ℕ). set_of k (up_to n p)) q

-- A row has of a command: below is whether it is in the book, bike whether it is on the row's bike, same whether it is the row's own.
row_table : (below bike same like : Bool) → (below && (bike && not like)) && not (false || same) ≡ below && (true && (not same && (bike && not like)))
row_table false bike same like = refl
row_table true false same like = sym (and_false (not same))
row_table true true true true = refl
row_table true true true false = refl
row_table true true false true = refl
row_table true true false false = refl

-- All of a bike but those that are like the command.
less_table : (below bike like : Bool) → (below && (bike && true)) && not (below && (bike && like)) ≡ below && (bike && not like)
less_table false bike like = refl
less_table true false like = refl
less_table true true like = refl

row_fits : (s : List ℕ) (m : ℕ) → (conflict_row s m).bits < 2 ^ 64
unfolding conflict_row
row_fits s m = word_lt capacity (conflict_in s m)

module _ (s : List ℕ) (m : ℕ) (few : length (commands_of s) ≤ capacity) (inside : m < length (commands_of s)) {ws : List BikeSets} (g : Gathered s (length (commands_of s)) ws) where
  abbrev n : ℕ
  n = length (commands_of s)

  -- Whether command k is in the set of a kind on a bike.
  set_in : (p : Command → Bool) (b k : ℕ) {x : Set} → x ≡ set_of n (is_on p s b) → k < capacity → in_set x k ≡ (ltb k n && is_on p s b k)
  set_in p b k e lk = ap (λ (x : Set). in_set x k) (e ∙ up_to_lem n (is_on p s b) few) ∙ in_set_of capacity (up_to n (is_on p s b)) k lk

  set_fits : (p : Command → Bool) (b : ℕ) {x : Set} → x ≡ set_of n (is_on p s b) → x.bits < 2 ^ 64
  set_fits p b e = subst (λ (x : Set). x.bits < 2 ^ 64) (sym (e ∙ up_to_lem n (is_on p s b) few)) (word_lt capacity (up_to n (is_on p s b)))

  -- The sets of a bike have the commands for them.
  all_is : (b : ℕ) → b < bikes → (sets_at ws b).all ≡ set_of n (is_on (λ c. true) s b)
  all_is b h = ap (λ (x : BikeSets). x.all) (g.at b h)

  adds_is : (b : ℕ) → b < bikes → (sets_at ws b).adds ≡ set_of n (is_on is_add s b)
  adds_is b h = ap (λ (x : BikeSets). x.adds) (g.at b h)

  reads_is : (b : ℕ) → b < bikes → (sets_at ws b).reads ≡ set_of n (is_on is_read s b)
  reads_is b h = ap (λ (x : BikeSets). x.reads) (g.at b h)

  -- What a command is opposed to, by its kind.
  record Opposed (c : Command) : Type 0 where
    fits : (opposed_of ws c).bits < 2 ^ 64
    has : (k : ℕ) → k < capacity → in_set (opposed_of ws c) k ≡ (ltb k n && (eqb (bike_of (command_of s k)) (bike_of c) && not (alike (command_of s k) c)))

  -- A kind that is like itself is opposed to the others, any other kind to all.
  but : (b : ℕ) (p : Command → Bool) (c : Command) {x y : Set} → x ≡ set_of n (is_on (λ d. true) s b) → y ≡ set_of n (is_on p s b) → ((d : Command) → p d ≡ alike d c)
      → (k : ℕ) → k < capacity → in_set (without_of x y) k ≡ (ltb k n && (eqb (bike_of (command_of s k)) b && not (alike (command_of s k) c)))
  but b p c {x} {y} ex ey like k lk =
      in_without x y k
      ∙ (λ i. set_in (λ d. true) b k ex lk i && not ((set_in p b k ey lk ∙ ap (λ (t : Bool). ltb k n && (eqb (bike_of (command_of s k)) b && t)) (like (command_of s k))) i))
      ∙ less_table (ltb k n) (eqb (bike_of (command_of s k)) b) (alike (command_of s k) c)

  every : (b : ℕ) (c : Command) {x : Set} → x ≡ set_of n (is_on (λ d. true) s b) → ((d : Command) → alike d c ≡ false) → (k : ℕ) → k < capacity
      → in_set x k ≡ (ltb k n && (eqb (bike_of (command_of s k)) b && not (alike (command_of s k) c)))
  every b c ex none k lk = set_in (λ d. true) b k ex lk ∙ ap (λ (t : Bool). ltb k n && (eqb (bike_of (command_of s k)) b && not t)) (sym (none (command_of s k)))

  opposed : (c : Command) → bike_of c < bikes → Opposed c
  opposed (Add b km) h =
      record {
        fits = without_fits _ _ (set_fits (λ d. true) b (all_is b h)) (set_fits is_add b (adds_is b h));
        has = but b is_add (Add b km) (all_is b h) (adds_is b h) (add_like b km);
      }
  opposed (Fit b dash start) h =
      record { fits = set_fits (λ d. true) b (all_is b h); has = every b (Fit b dash start) (all_is b h) (fit_like b dash start) }
  opposed (Read b) h =
      record {
        fits = without_fits _ _ (set_fits (λ d. true) b (all_is b h)) (set_fits is_read b (reads_is b h));
        has = but b is_read (Read b) (all_is b h) (reads_is b h) (read_like b);
      }
  opposed (Trim b km) h = record { fits = set_fits (λ d. true) b (all_is b h); has = every b (Trim b km) (all_is b h) (trim_like b km) }

  abbrev on : ℕ → Bool
  on k = eqb (bike_of (command_of s k)) (bike_of (command_of s m))

  -- The row of a command, as the code tells it.
  pub row_told : {c : Command} {none with x row : Set} → c ≡ command_of s m → none ≡ empty_of → with ≡ with_of none m → x ≡ opposed_of ws c → row ≡ without_of x with → row ≡ conflict_row s m
  unfolding conflict_in
  row_told ec en ew ex er =
      er
      ∙ (λ i. without_of ((ex ∙ ap (opposed_of ws) ec) i) ((ew ∙ ap (λ (y : Set). with_of y m) en) i))
      ∙ set_ext _ (conflict_row s m) (without_fits _ _ o.fits (with_fits empty_of m (omega arith) (omega arith))) (row_fits s m) same
    where
      o : Opposed (command_of s m)
      o = opposed (command_of s m) (commands_valid s m inside).bike

      same : (k : ℕ) → k < 64 → in_set (without_of (opposed_of ws (command_of s m)) (with_of empty_of m)) k ≡ in_set (conflict_row s m) k
      same k l =
          in_without (opposed_of ws (command_of s m)) (with_of empty_of m) k
          ∙ (λ i. o.has k l i && not (in_with empty_of m k i))
          ∙ ap (λ (t : Bool). (ltb k n && (on k && not (alike (command_of s k) (command_of s m)))) && not (t || eqb k m)) (in_empty k)
          ∙ row_table (ltb k n) (on k) (eqb k m) (alike (command_of s k) (command_of s m))
          ∙ ap (λ (t : Bool). ltb k n && (t && (not (eqb k m) && (on k && not (alike (command_of s k) (command_of s m)))))) (sym (lt-ltb m n inside))
          ∙ sym (conflict_in-sym s m k)
          ∙ sym (in_row s m k l)
