-- Laws of finding a command by its number, from the noted places.
-- Assumes nothing.
use mathlib.Core.Path.{◌≡◌, refl, sym, ap, subst, ◌∙◌}
use Rattle.std.specs.Prelude.{Some}
use mathlib.Core.List.{List, [], ◌∷◌}
use Prim.Native.Nat.{ℕ, zero, suc, ◌+◌, ◌≤◌, ◌<◌}
use native.Mathlib.Decide.{dec_le}
use native.Mathlib.Omega.{arith}
use lib.ListN.{length, get_or, take, drop, length-take, length-drop}
use lib.Seq.{sets, sets-eq, take_at, get_or-take}
use Rattle.register.specs.Register.{Valid}
use Rattle.register.specs.declared.Command.{Command}
use Rattle.register.specs.declared.Command.TheVariants.{Read}
use Rattle.commands.specs.Book.{size_of, read_command, commands_of, command_of, places_from, places_of, Placed}
use Rattle.commands.proofs.Laws.{front}
use Rattle.commands.proofs.Walk.{rest, rest_all, next, size_small}

placed : (k : ℕ) (s : List ℕ) (j at : ℕ) → at ≤ length s → k < length (rest s j at)
    → read_command (drop (get_or (places_from at (rest s j at)) k 0) s) ≡ Some (get_or (rest s j at) k (Read 0))
placed zero s j at g h = let n = next s j at g h in rw n.left n.read
placed (suc k) s j at g h =
    let n = next s j at g (omega arith) in
    let i = placed k s (j + 1) (at + size_of n.command) n.inside (omega (arith, ap length n.left)) in
    rw n.left i

valid_at : (k : ℕ) (s : List ℕ) (j at : ℕ) → at ≤ length s → k < length (rest s j at) → Valid (get_or (rest s j at) k (Read 0))
valid_at zero s j at g h = let n = next s j at g h in rw n.left (front (drop at s) n.read).valid
valid_at (suc k) s j at g h =
    let n = next s j at g (omega arith) in
    let i = valid_at k s (j + 1) (at + size_of n.command) n.inside (omega (arith, ap length n.left)) in
    rw n.left i

-- Every command of a book has its bike and start in range.
pub commands_valid : (s : List ℕ) (k : ℕ) → k < length (commands_of s) → Valid (command_of s k)
unfolding command_of
commands_valid s k h =
    let q = rest_all s in
    subst (λ (cs : List Command). Valid (get_or cs k (Read 0))) q (valid_at k s 0 0 (omega arith) (omega (arith, ap length q)))

pub length_places : (at : ℕ) (cs : List Command) → length (places_from at cs) ≡ length cs
length_places at [] = refl
length_places at (c ∷ cs) = ap suc (length_places (at + size_of c) cs)

-- What the noted places tell of the k-th command.
module _ (s p : List ℕ) (k : ℕ) (h : k < length (commands_of s)) (e : Placed s p) where
  pub place_noted : k < length p
  unfolding places_of
  place_noted =
      let q : length (take (length (commands_of s)) p) ≡ length (commands_of s) = ap length e ∙ length_places 0 (commands_of s) in
      omega (arith, length-take (length (commands_of s)) p)

  place_is : get_or p k 0 ≡ get_or (places_from 0 (rest s 0 0)) k 0
  unfolding places_of
  place_is =
      sym (get_or-take (length (commands_of s)) p k 0 h) ∙ ap (λ (l : List ℕ). get_or l k 0) e ∙ ap (λ (cs : List Command). get_or (places_from 0 cs) k 0) (sym (rest_all s))

  there : read_command (drop (get_or (places_from 0 (rest s 0 0)) k 0) s) ≡ Some (get_or (rest s 0 0) k (Read 0))
  there = placed k s 0 0 (omega arith) (omega (arith, ap length (rest_all s)))

  pub place_read : read_command (drop (get_or p k 0) s) ≡ Some (command_of s k)
  unfolding command_of
  place_read =
      ap (λ (n : ℕ). read_command (drop n s)) place_is ∙ there ∙ ap (λ (cs : List Command). Some (get_or cs k (Read 0))) (rest_all s)

  -- A noted place is inside the book.
  pub place_inside : get_or p k 0 ≤ length s
  place_inside = elim (dec_le (get_or p k 0) (length s)) [ yes l ↦ l | no n ↦ absurd (omega (arith, (front _ place_read).size, length-drop (get_or p k 0) s, size_small (command_of s k))) ]

-- Places that were noted in enough room are the places of the book.
pub index_noted : (s p : List ℕ) {q : List ℕ} → length (commands_of s) ≤ length p → q ≡ sets p 0 (places_of s) → Placed s q
unfolding places_of
index_noted s p h e =
    let l = length_places 0 (commands_of s) in
    ap (take (length (commands_of s))) (e ∙ sets-eq (places_from 0 (commands_of s)) p 0 (omega arith))
    ∙ take_at (places_from 0 (commands_of s)) (drop (0 + length (places_from 0 (commands_of s))) p) (length (commands_of s)) l
