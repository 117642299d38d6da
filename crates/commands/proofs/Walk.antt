-- Laws of walking through a book: what is left of it at a position, and how each command read makes that less.
-- Assumes nothing.
use mathlib.Core.Path.{◌≡◌, refl, sym, ap, ◌∙◌}
use Rattle.std.specs.Prelude.{Err, None, Option, Some, unwrap_or}
use mathlib.Core.List.{List, [], ◌∷◌}
use Prim.Native.Nat.{ℕ, zero, suc, ◌+◌, ◌-◌, ◌≤◌, ◌<◌}
use native.Mathlib.Decide.{ℕ_discrete}
use native.Mathlib.Omega.{arith}
use lib.ListN.{length, take, drop, length-drop}
use lib.Seq.{drop-drop}
use Rattle.refusals.specs.declared.Refusal.TheVariants.{Book}
use Rattle.refusals.specs.Refusals.{accepted}
use Rattle.wire.proofs.Laws.{part_all}
use Rattle.register.specs.declared.Command.{Command}
use Rattle.register.specs.declared.Command.TheVariants.{Add, Fit, Read, Trim}
use Rattle.commands.specs.Book.{max_commands, size_of, read_command, also, and_then, read_up_to, or_none, commands_of, verdict_of, judge_book, count_from, measure_book}
use Rattle.commands.proofs.Laws.{front}

-- The code reads the front of the part from a position on.
pub read_at : (s : List ℕ) (at : ℕ) {r q : Option Command} → r ≡ read_command (take (length s - at) (drop at s)) → r ≡ q → read_command (drop at s) ≡ q
read_at s at e w = ap read_command (sym (part_all s at)) ∙ sym e ∙ w

-- A command that was read there ends inside the bytes.
pub read_inside : (s : List ℕ) (at : ℕ) {r : Option Command} {c : Command} → at ≤ length s → r ≡ read_command (take (length s - at) (drop at s)) → r ≡ Some c → at + size_of c ≤ length s
read_inside s at h e w = omega (arith, (front (drop at s) (read_at s at e w)).size, length-drop at s)

pub size_small : (c : Command) → (2 ≤ size_of c) × (size_of c ≤ 10)
size_small (Add b km) = (omega arith, omega arith)
size_small (Fit b d t) = (omega arith, omega arith)
size_small (Read b) = (omega arith, omega arith)
size_small (Trim b km) = (omega arith, omega arith)

step_at : (n : ℕ) (l : List ℕ) → 0 < length l → read_up_to (suc n) l ≡ and_then (read_command l) (λ c. also c (read_up_to n (drop (size_of c) l)))
step_at n [] h = absurd (omega arith)
step_at n (b ∷ l) h = refl

pub whole_at : (n : ℕ) (l : List ℕ) {c : Command} → 0 < length l → read_command l ≡ Some c → read_up_to (suc n) l ≡ also c (read_up_to n (drop (size_of c) l))
whole_at n l h e = rw (step_at n l h, e) refl

full_at : (l : List ℕ) → 0 < length l → read_up_to 0 l ≡ None
full_at [] h = absurd (omega arith)
full_at (b ∷ l) h = refl

bad_at : (n : ℕ) (l : List ℕ) → 0 < length l → read_command l ≡ None → read_up_to n l ≡ None
bad_at zero l h e = full_at l h
bad_at (suc n) l h e = rw (step_at n l h, e) refl

end_at : (n : ℕ) (l : List ℕ) → length l ≡ 0 → read_up_to n l ≡ Some []
end_at zero [] h = refl
end_at (suc n) [] h = refl
end_at n (b ∷ l) h = absurd (omega arith)

count-also : (k : ℕ) (c : Command) (o : Option (List Command)) → count_from (k + 1) o ≡ count_from k (also c o)
count-also k c None = refl
count-also k c (Some cs) = let q : k + 1 + length cs ≡ k + suc (length cs) = omega arith in ap Some q

-- The number of commands, where k were passed and the book is left from a position on.
module _ (s : List ℕ) (k at : ℕ) where
  pub measure_all : count_from 0 (read_up_to (max_commands - 0) (drop 0 s)) ≡ measure_book s
  unfolding measure_book
  measure_all = refl

  pub measure_end : length s ≤ at → count_from k (read_up_to (max_commands - k) (drop at s)) ≡ measure_book s → Some k ≡ measure_book s
  measure_end h e =
      let q : k ≡ k + 0 = omega arith in
      ap Some q ∙ ap (count_from k) (sym (end_at (max_commands - k) (drop at s) (omega (arith, length-drop at s)))) ∙ e

  pub measure_full : at < length s → max_commands ≤ k → count_from k (read_up_to (max_commands - k) (drop at s)) ≡ measure_book s → None ≡ measure_book s
  measure_full h g e =
      let q : max_commands - k ≡ 0 = omega arith in
      ap (count_from k) (sym (full_at (drop at s) (omega (arith, length-drop at s)))) ∙ ap (λ (n : ℕ). count_from k (read_up_to n (drop at s))) (sym q) ∙ e

  pub measure_bad : at < length s → read_command (drop at s) ≡ None → count_from k (read_up_to (max_commands - k) (drop at s)) ≡ measure_book s → None ≡ measure_book s
  measure_bad h r e = ap (count_from k) (sym (bad_at (max_commands - k) (drop at s) (omega (arith, length-drop at s)) r)) ∙ e

  pub measure_more : {c : Command} {z : ℕ} → at < length s → k < max_commands → read_command (drop at s) ≡ Some c → z ≡ size_of c → count_from k (read_up_to (max_commands - k) (drop at s)) ≡ measure_book s
      → count_from (k + 1) (read_up_to (max_commands - (k + 1)) (drop (at + z) s)) ≡ measure_book s
  measure_more {c} h g r z e =
      let q : max_commands - k ≡ suc (max_commands - (k + 1)) = omega arith in
      ap (λ (n : ℕ). count_from (k + 1) (read_up_to (max_commands - (k + 1)) (drop (at + n) s))) z
      ∙ ap (λ (l : List ℕ). count_from (k + 1) (read_up_to (max_commands - (k + 1)) l)) (sym (drop-drop (size_of c) at s))
      ∙ count-also k c (read_up_to (max_commands - (k + 1)) (drop (size_of c) (drop at s)))
      ∙ ap (count_from k) (sym (whole_at (max_commands - (k + 1)) (drop at s) (omega (arith, length-drop at s)) r))
      ∙ ap (λ (n : ℕ). count_from k (read_up_to n (drop at s))) (sym q)
      ∙ e

counted : (o : Option (List Command)) {n : ℕ} → count_from 0 o ≡ Some n → (accepted ≡ verdict_of o) × (n ≡ length (or_none o))
counted None h = absurd (let z : ◌≡◌ {A = ℕ} 0 1 = cc in omega arith)
counted (Some cs) {n} h = (refl, let q : 0 + length cs ≡ n = cc in omega arith)

uncounted : (o : Option (List Command)) → count_from 0 o ≡ None → (Err Book ≡ verdict_of o) × (0 ≡ length (or_none o))
uncounted None h = (refl, refl)
uncounted (Some cs) h = absurd (let z : ◌≡◌ {A = ℕ} 0 1 = cc in omega arith)

pub is_counted : (s : List ℕ) {n : ℕ} → measure_book s ≡ Some n → (accepted ≡ judge_book s) × (n ≡ length (commands_of s))
unfolding measure_book judge_book commands_of
is_counted s h = counted (read_up_to max_commands s) h

pub not-counted : (s : List ℕ) → measure_book s ≡ None → (Err Book ≡ judge_book s) × (0 ≡ length (commands_of s))
unfolding measure_book judge_book commands_of
not-counted s h = uncounted (read_up_to max_commands s) h

-- How many commands a book has, 0 where it is refused.
count_or : (s : List ℕ) (o : Option ℕ) → measure_book s ≡ o → unwrap_or o 0 ≡ length (commands_of s)
count_or s None h = (not-counted s h).1
count_or s (Some n) h = (is_counted s h).1

pub count_is : (s : List ℕ) {o : Option ℕ} {n : ℕ} → o ≡ measure_book s → n ≡ unwrap_or o 0 → n ≡ length (commands_of s)
count_is s {o} e n = n ∙ count_or s o (sym e)

some-counted : (o : Option (List Command)) → verdict_of o ≡ accepted → count_from 0 o ≡ Some (length (or_none o))
some-counted None h = absurd (let z : ◌≡◌ {A = ℕ} 0 1 = cc in omega arith)
some-counted (Some cs) h = let q : 0 + length cs ≡ length cs = omega arith in ap Some q

pub taken-counted : (s : List ℕ) → judge_book s ≡ accepted → measure_book s ≡ Some (length (commands_of s))
unfolding measure_book judge_book commands_of
taken-counted s h = some-counted (read_up_to max_commands s) h

-- The commands that are left from a position on, k of them passed.
unfoldable pub rest : List ℕ → ℕ → ℕ → List Command
rest s k at = or_none (read_up_to (max_commands - k) (drop at s))

pub rest_all : (s : List ℕ) → rest s 0 0 ≡ commands_of s
unfolding rest commands_of
rest_all s = refl

-- The first command of some bytes, of which at most n are read.
record First (n : ℕ) (l : List ℕ) : Type 0 where
  command : Command
  read : read_command l ≡ Some command
  left : or_none (read_up_to (suc n) l) ≡ command ∷ or_none (read_up_to n (drop (size_of command) l))

first_whole : (n : ℕ) (l : List ℕ) (c : Command) (o : Option (List Command)) → 0 < length l → read_command l ≡ Some c → read_up_to n (drop (size_of c) l) ≡ o → 0 < length (or_none (also c o)) → First n l
first_whole n l c None g e q h = absurd (omega arith)
first_whole n l c (Some cs) g e q h = record { command = c; read = e; left = rw (whole_at n l g e, q) refl }

first_read : (n : ℕ) (l : List ℕ) (r : Option Command) → 0 < length l → read_command l ≡ r → 0 < length (or_none (and_then r (λ c. also c (read_up_to n (drop (size_of c) l))))) → First n l
first_read n l None g e h = absurd (omega arith)
first_read n l (Some c) g e h = first_whole n l c (read_up_to n (drop (size_of c) l)) g e refl h

first : (n : ℕ) (l : List ℕ) → 0 < length (or_none (read_up_to (suc n) l)) → First n l
first n [] h = absurd (omega arith)
first n (b ∷ l) h = first_read n (b ∷ l) (read_command (b ∷ l)) (omega arith) refl h

none_left : (l : List ℕ) → length (or_none (read_up_to 0 l)) ≡ 0
none_left [] = refl
none_left (b ∷ l) = refl

few : (n : ℕ) (l : List ℕ) → length (or_none (read_up_to n l)) ≤ n
few zero l = omega (arith, none_left l)
few (suc n) l =
    elim (ℕ_discrete (length (or_none (read_up_to (suc n) l))) 0) [
      | yes e ↦ omega arith
      | no z ↦ let f = first n l (omega arith) in omega (arith, few n (drop (size_of f.command) l), ap length f.left)
    ]

-- A book has at most 64 commands.
pub few_commands : (s : List ℕ) → length (commands_of s) ≤ max_commands
unfolding commands_of
few_commands s = few max_commands s

-- The next command at a position where some are left.
pub record Next (s : List ℕ) (k at : ℕ) : Type 0 where
  pub command : Command
  pub read : read_command (drop at s) ≡ Some command
  pub left : rest s k at ≡ command ∷ rest s (k + 1) (at + size_of command)
  pub inside : at + size_of command ≤ length s

pub next : (s : List ℕ) (k at : ℕ) → at ≤ length s → 0 < length (rest s k at) → Next s k at
unfolding rest
next s k at g h =
    let p : 0 < max_commands - k = omega (arith, few (max_commands - k) (drop at s)) in
    let q : max_commands - k ≡ suc (max_commands - (k + 1)) = omega arith in
    let f = first (max_commands - (k + 1)) (drop at s) (rw q at h) in
    let i = (front (drop at s) f.read).size in
    record {
      command = f.command;
      read = f.read;
      left =
          ap (λ (n : ℕ). or_none (read_up_to n (drop at s))) q
          ∙ f.left
          ∙ ap (λ (l : List ℕ). f.command ∷ or_none (read_up_to (max_commands - (k + 1)) l)) (drop-drop (size_of f.command) at s);
      inside = omega (arith, i, length-drop at s);
    }

-- The same, where it is known which command was read, and z is its size.
pub record Took (s : List ℕ) (k at : ℕ) (c : Command) (z : ℕ) : Type 0 where
  pub left : rest s k at ≡ c ∷ rest s (k + 1) (at + z)
  pub inside : at + z ≤ length s
  pub size : z ≡ size_of c
  pub small : z ≤ 10

pub took : (s : List ℕ) (k at : ℕ) {c : Command} {z : ℕ} → at ≤ length s → 0 < length (rest s k at) → read_command (drop at s) ≡ Some c → z ≡ size_of c → Took s k at c z
took s k at {c} {z} g h r e =
    let n = next s k at g h in
    let q : n.command ≡ c = let z = sym n.read ∙ r in cc in
    let m : size_of n.command ≡ z = ap size_of q ∙ sym e in
    record {
      left = n.left ∙ (λ i. q i ∷ rest s (k + 1) (at + m i));
      inside = omega (arith, n.inside);
      size = e;
      small = omega (arith, size_small c);
    }

pub not_bad : (s : List ℕ) (k at : ℕ) → at ≤ length s → 0 < length (rest s k at) → read_command (drop at s) ≡ None → ⊥
not_bad s k at g h r =
    let n = next s k at g h in
    let z : ◌≡◌ {A = ℕ} 0 1 = cc (sym n.read ∙ r) in
    omega arith

pub whole_is : {c d : Command} → Some c ≡ Some d → c ≡ d
whole_is e = cc

pub not_whole : {c : Command} → None ≡ Some c → ⊥
not_whole e = let z : ◌≡◌ {A = ℕ} 0 1 = cc in omega arith
