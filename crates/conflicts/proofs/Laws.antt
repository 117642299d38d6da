-- Laws of the rows of conflicts: what is in a row, that rows are symmetric and irreflexive, and how the code builds them.
-- Assumes nothing.
use mathlib.Core.Bool.{Bool, true, false, ◌&&◌}
use mathlib.Core.Path.{◌≡◌, refl, sym, ap, ◌∙◌}
use mathlib.Core.List.{List, ◌∷◌, ◌++◌, append_assoc}
use Prim.Native.Nat.{ℕ, zero, suc, ◌+◌, ◌-◌, ◌≤◌, ◌<◌}
use native.Mathlib.Numerals.{add-one}
use native.Mathlib.Omega.{arith}
use borrow.Author.Tests.{lt-ltb, le-ltb}
use lib.Dec.{ltb}
use lib.ListN.{length, get_or, take, drop, replicate, length-drop, length-replicate}
use lib.Seq.{sets, sets-eq, drop-drop, take_all, drop_at, take-take, take-append-le, take-set-le, length-take-le}
use Rattle.theory.specs.Counting.{and_false}
use Rattle.sets.specs.declared.Set.{Set}
use Rattle.sets.specs.Sets.{capacity, in_set, empty_of, set_of, load_set, store_set}
use Rattle.sets.proofs.Laws.{in_set_of, build_none, build_no}
use Rattle.register.specs.Register.{conflict_at}
use Rattle.register.specs.Exchange.{conflict_at-sym, conflict_at_same}
use Rattle.commands.specs.Book.{max_commands, commands_of, command_of, Placed}
use Rattle.commands.proofs.Walk.{few_commands}
use Rattle.conflicts.specs.Conflicts.{conflict_in, conflict_row, rows_from, conflict_rows, rows_in, Noted}

swap : (x y a b : Bool) → a ≡ b → x && (y && a) ≡ y && (x && b)
swap true true a b e = e
swap true false a b e = refl
swap false true a b e = refl
swap false false a b e = refl

module _ (s : List ℕ) (m k : ℕ) where
  -- Of two commands of the book: as the register says.
  pub in_book : m < length (commands_of s) → k < length (commands_of s) → conflict_in s m k ≡ conflict_at (command_of s) m k
  unfolding conflict_in
  in_book g h = λ i. lt-ltb m (length (commands_of s)) g i && (lt-ltb k (length (commands_of s)) h i && conflict_at (command_of s) m k)

  pub out_left : length (commands_of s) ≤ m → conflict_in s m k ≡ false
  unfolding conflict_in
  out_left h = ap (λ (t : Bool). t && (ltb k (length (commands_of s)) && conflict_at (command_of s) m k)) (le-ltb m (length (commands_of s)) h)

  pub out_right : length (commands_of s) ≤ k → conflict_in s m k ≡ false
  unfolding conflict_in
  out_right h =
      ap (λ (t : Bool). ltb m (length (commands_of s)) && (t && conflict_at (command_of s) m k)) (le-ltb k (length (commands_of s)) h)
      ∙ and_false (ltb m (length (commands_of s)))

  pub conflict_in-sym : conflict_in s m k ≡ conflict_in s k m
  unfolding conflict_in
  conflict_in-sym =
      swap (ltb m (length (commands_of s))) (ltb k (length (commands_of s))) (conflict_at (command_of s) m k) (conflict_at (command_of s) k m) (conflict_at-sym (command_of s) m k)

  -- Command k is in the row of m where the two conflict.
  pub in_row : k < capacity → in_set (conflict_row s m) k ≡ conflict_in s m k
  unfolding conflict_row
  in_row h = in_set_of capacity (conflict_in s m) k h

pub conflict_in_same : (s : List ℕ) (m : ℕ) → conflict_in s m m ≡ false
unfolding conflict_in
conflict_in_same s m =
    ap (λ (t : Bool). ltb m (length (commands_of s)) && (ltb m (length (commands_of s)) && t)) (conflict_at_same (command_of s) m)
    ∙ ap (λ (t : Bool). ltb m (length (commands_of s)) && t) (and_false (ltb m (length (commands_of s))))
    ∙ and_false (ltb m (length (commands_of s)))

pub rows_symmetric : (s : List ℕ) (m k : ℕ) → m < capacity → k < capacity → in_set (conflict_row s m) k ≡ in_set (conflict_row s k) m
rows_symmetric s m k g h = in_row s m k h ∙ conflict_in-sym s m k ∙ sym (in_row s k m g)

pub rows_irreflexive : (s : List ℕ) (m : ℕ) → m < capacity → in_set (conflict_row s m) m ≡ false
rows_irreflexive s m h = in_row s m m h ∙ conflict_in_same s m

-- How one row is built.
pub no_more : (n j : ℕ) (p : ℕ → Bool) → ((k : ℕ) → n ≤ k → p k ≡ false) → set_of n p ≡ set_of (n + j) p
no_more n zero p h = let q : n ≡ n + 0 = omega arith in ap (λ (k : ℕ). set_of k p) q
no_more n (suc j) p h =
    let q : n + j + 1 ≡ n + suc j = omega arith in
    no_more n j p h ∙ build_no (n + j) p (h (n + j) (omega arith)) ∙ ap (λ (k : ℕ). set_of k p) q

row-none : (s : List ℕ) (m : ℕ) → length (commands_of s) ≤ m → empty_of ≡ conflict_row s m
unfolding conflict_row
row-none s m h = build_none (conflict_in s m) ∙ no_more 0 capacity (conflict_in s m) (λ k g. out_left s m k h)

-- How all rows are written.
length-rows : (s : List ℕ) (n m : ℕ) → length (rows_from s n m) ≡ n
unfolding rows_from
length-rows s zero m = refl
length-rows s (suc n) m = ap suc (length-rows s n (suc m))

-- There is a row for every command number.
pub rows_size : (s : List ℕ) → length (conflict_rows s) ≡ max_commands
unfolding conflict_rows
rows_size s = length-rows s max_commands 0

-- Rows past the book are empty: the first n rows, then empty ones, are all k, where the book ends within the n.
rows_filled : (s : List ℕ) (k n m : ℕ) → n ≤ k → length (commands_of s) ≤ m + n → rows_from s n m ++ drop n (replicate k 0) ≡ rows_from s k m
unfolding rows_from
rows_filled s zero zero m g h = refl
rows_filled s zero (suc n) m g h = absurd (omega arith)
rows_filled s (suc k) zero m g h =
    let e = row-none s m (omega arith) in
    let w = rows_filled s k zero (suc m) (omega arith) (omega arith) in
    λ i. (e i).bits ∷ w i
rows_filled s (suc k) (suc n) m g h =
    ap (λ (t : List ℕ). (conflict_row s m).bits ∷ t) (rows_filled s k n (suc m) (omega arith) (omega arith))

-- Words with room for 64 rows after the places.
room_for : (ws : List ℕ) {rows : List ℕ} → rows_in ws ≡ rows → length rows ≡ max_commands → length ws ≡ max_commands + max_commands
room_for ws e h = omega (arith, ap length e, length-drop max_commands ws)

pub empty_room : (ws : List ℕ) → rows_in ws ≡ replicate max_commands 0 → length ws ≡ max_commands + max_commands
empty_room ws e = room_for ws e (length-replicate {0} {A = ℕ} max_commands 0)

-- Of empty rows the first n are still to be written, where the book has n commands.
pub rows_start : (s ws : List ℕ) (n : ℕ) → n ≡ length (commands_of s) → n ≤ max_commands → rows_in ws ≡ replicate max_commands 0
    → sets ws (max_commands + 0) (rows_from s (n - 0) 0) ≡ take max_commands ws ++ conflict_rows s
unfolding conflict_rows
rows_start s ws n e h w =
    let q : n - 0 ≡ n = omega arith in
    let l = length-rows s n 0 in
    let z = empty_room ws w in
    ap (λ (k : ℕ). sets ws max_commands (rows_from s k 0)) q
    ∙ sets-eq (rows_from s n 0) ws max_commands (omega arith)
    ∙ append_assoc (take max_commands ws) (rows_from s n 0) (drop (max_commands + length (rows_from s n 0)) ws)
    ∙ ap (λ (k : ℕ). take max_commands ws ++ (rows_from s n 0 ++ drop (max_commands + k) ws)) l
    ∙ ap (λ (t : List ℕ). take max_commands ws ++ (rows_from s n 0 ++ t)) (sym (drop-drop n max_commands ws) ∙ ap (drop n) w)
    ∙ ap (λ (t : List ℕ). take max_commands ws ++ t) (rows_filled s max_commands n 0 h (omega arith))

module _ (s ws end : List ℕ) (n m : ℕ) where
  pub rows_more : {r : Set} {ws₁ : List ℕ} → m < n → r ≡ conflict_row s m → ws₁ ≡ store_set ws (max_commands + m) r → sets ws (max_commands + m) (rows_from s (n - m) m) ≡ end
      → sets ws₁ (max_commands + (m + 1)) (rows_from s (n - (m + 1)) (m + 1)) ≡ end
  unfolding rows_from
  rows_more {ws₁ = ws₁} h e es w =
      let q : suc (n - (m + 1)) ≡ n - m = omega arith in
      let p : max_commands + (m + 1) ≡ suc (max_commands + m) = omega arith in
      (λ i. sets ws₁ (p i) (rows_from s (n - (m + 1)) (add-one m i)))
      ∙ ap (λ (l : List ℕ). sets l (suc (max_commands + m)) (rows_from s (n - (m + 1)) (suc m))) (es ∙ ap (store_set ws (max_commands + m)) e)
      ∙ ap (λ (k : ℕ). sets ws (max_commands + m) (rows_from s k m)) q
      ∙ w

  pub rows_end : n ≤ m → sets ws (max_commands + m) (rows_from s (n - m) m) ≡ end → ws ≡ end
  unfolding rows_from
  rows_end h w = let q : 0 ≡ n - m = omega arith in ap (λ (k : ℕ). sets ws (max_commands + m) (rows_from s k m)) q ∙ w

-- A row that is written leaves the places.
pub still_placed : (s ws : List ℕ) (m : ℕ) (r : Set) {ws₁ : List ℕ} → ws₁ ≡ store_set ws (max_commands + m) r → Placed s ws → Placed s ws₁
still_placed s ws m r e h =
    ap (take (length (commands_of s))) e ∙ take-set-le (length (commands_of s)) ws (max_commands + m) r.bits (omega (arith, few_commands s)) ∙ h

-- ---- for a caller

-- Words in which nothing is noted yet.
abbrev pub none_noted : List ℕ
none_noted = replicate {A = ℕ} (max_commands + max_commands) 0

-- After the places the rows are noted too.
pub all_noted : (s ws : List ℕ) {after : List ℕ} → rows_in ws ≡ replicate max_commands 0 → Placed s ws → after ≡ take max_commands ws ++ conflict_rows s → Noted s after
all_noted s ws w h e =
    let l = length-take-le max_commands ws (omega (arith, empty_room ws w)) in
    let f = few_commands s in
    record {
      places =
          ap (take (length (commands_of s))) e
          ∙ take-append-le (length (commands_of s)) (take max_commands ws) (conflict_rows s) (omega arith)
          ∙ take-take (length (commands_of s)) max_commands ws f
          ∙ h;
      rows = ap rows_in e ∙ drop_at (take max_commands ws) (conflict_rows s) max_commands l;
    }

-- Where the rows are noted, they are all words from the 64th on.
module _ (s ws : List ℕ) (e : rows_in ws ≡ conflict_rows s) where
  pub rows-room : length ws ≡ max_commands + max_commands
  rows-room = room_for ws e (rows_size s)

  pub rows_part : (k : ℕ) → max_commands ≤ k → take k (rows_in ws) ≡ rows_in ws
  rows_part k h = take_all k (rows_in ws) (omega (arith, ap length e, rows_size s))

  pub rows-rest : take (length ws - max_commands) (rows_in ws) ≡ rows_in ws
  rows-rest = rows_part (length ws - max_commands) (omega (arith, rows-room))

row_at : (s : List ℕ) (n j m : ℕ) → m < n → get_or (rows_from s n j) m 0 ≡ (conflict_row s (j + m)).bits
unfolding rows_from
row_at s zero j m h = absurd (omega arith)
row_at s (suc n) j zero h = let q : j ≡ j + 0 = omega arith in ap (λ (k : ℕ). (conflict_row s k).bits) q
row_at s (suc n) j (suc m) h =
    let q : suc j + m ≡ j + suc m = omega arith in
    row_at s n (suc j) m (omega arith) ∙ ap (λ (k : ℕ). (conflict_row s k).bits) q

-- The m-th of the rows is the row of m.
pub rows_at : (s : List ℕ) (m : ℕ) → m < max_commands → load_set (conflict_rows s) m ≡ conflict_row s m
unfolding conflict_rows
rows_at s m h =
    let q : 0 + m ≡ m = omega arith in
    let e = row_at s max_commands 0 m h ∙ ap (λ (k : ℕ). (conflict_row s k).bits) q in
    λ i. record { bits = e i }
