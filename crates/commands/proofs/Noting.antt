-- Laws of the walk that judges a book and notes its places.
-- Assumes nothing.
use mathlib.Core.Path.{◌≡◌, refl, sym, ap, ◌∙◌}
use Rattle.std.specs.Prelude.{None, Some, Option}
use mathlib.Core.Bool.{Bool, true, false}
use mathlib.Core.List.{List, [], ◌∷◌}
use Prim.Native.Nat.{ℕ, zero, suc, ◌+◌, ◌-◌, ◌≤◌, ◌<◌}
use native.Mathlib.Numerals.{add-one}
use native.Mathlib.Omega.{arith}
use lib.ListN.{length, drop, set, length-drop}
use lib.Seq.{drop-drop, drop-set-lt, sets}
use Rattle.theory.specs.Sets.{pick}
use Rattle.register.specs.declared.Command.{Command}
use Rattle.commands.specs.Book.{max_commands, size_of, read_command, also, and_then, read_up_to, or_none, commands_of, count_from, measure_book, places_from, places_of, Placed, read_on, readable, noted_places}
use Rattle.commands.proofs.Walk.{few_commands, measure_end, measure_full, measure_bad, measure_more}
use Rattle.commands.proofs.Places.{length_places, index_noted}

-- A walk that has come to a position with k commands passed: how many the book has, and how the places end.
pub record Walking (s end : List ℕ) (k at : ℕ) (p : List ℕ) : Type 0 where
  pub counted : count_from k (read_up_to (max_commands - k) (drop at s)) ≡ measure_book s
  pub noted : sets p k (places_from at (readable (max_commands - k) (drop at s))) ≡ end

pub walk_all : (s p : List ℕ) → Walking s (sets p 0 (noted_places s)) 0 0 p
unfolding noted_places measure_book
walk_all s p = record { counted = refl; noted = refl }

bad_read : (n : ℕ) (s : List ℕ) → read_command s ≡ None → readable n s ≡ []
bad_read zero s e = refl
bad_read (suc n) s e = rw e refl

-- No command stands in no bytes.
none_read : (s : List ℕ) → length s ≡ 0 → read_command s ≡ None
unfolding read_command
none_read [] h = refl
none_read (b ∷ s) h = absurd (omega arith)

module _ (s end p : List ℕ) (k at : ℕ) (w : Walking s end k at p) where
  none_after : readable (max_commands - k) (drop at s) ≡ [] → p ≡ end
  none_after e = ap (λ (cs : List Command). sets p k (places_from at cs)) (sym e) ∙ w.noted

  pub walk_end : length s ≤ at → (Some k ≡ measure_book s) × (p ≡ end)
  walk_end h =
      (measure_end s k at h w.counted, none_after (bad_read (max_commands - k) (drop at s) (none_read (drop at s) (omega (arith, length-drop at s)))))

  module _ (h : at < length s) where
    pub walk_full : k ≡ max_commands → (None ≡ measure_book s) × (p ≡ end)
    walk_full g =
        let q : max_commands - k ≡ 0 = omega arith in
        (measure_full s k at h (omega arith) w.counted, none_after (ap (λ (n : ℕ). readable n (drop at s)) q))

    pub walk_bad : read_command (drop at s) ≡ None → (None ≡ measure_book s) × (p ≡ end)
    walk_bad e = (measure_bad s k at h e w.counted, none_after (bad_read (max_commands - k) (drop at s) e))

    pub walk_more : {c : Command} {z : ℕ} → k < max_commands → read_command (drop at s) ≡ Some c → z ≡ size_of c → Walking s end (k + 1) (at + z) (set p k at)
    walk_more {c} {z} g e ez = record { counted = measure_more s k at h g e ez w.counted; noted = more }
      where
        here : readable (max_commands - k) (drop at s) ≡ c ∷ readable (max_commands - (k + 1)) (drop (at + z) s)
        here =
            let q : max_commands - k ≡ suc (max_commands - (k + 1)) = omega arith in
            ap (λ (n : ℕ). readable n (drop at s)) q
            ∙ ap (λ (r : Option Command). read_on r (λ d. readable (max_commands - (k + 1)) (drop (size_of d) (drop at s)))) e
            ∙ ap (λ (l : List ℕ). c ∷ readable (max_commands - (k + 1)) l) (drop-drop (size_of c) at s)
            ∙ ap (λ (n : ℕ). c ∷ readable (max_commands - (k + 1)) (drop (at + n) s)) (sym ez)

        more : sets (set p k at) (k + 1) (places_from (at + z) (readable (max_commands - (k + 1)) (drop (at + z) s))) ≡ end
        more =
            ap (λ (j : ℕ). sets (set p k at) j (places_from (at + z) (readable (max_commands - (k + 1)) (drop (at + z) s)))) (add-one k)
            ∙ ap (λ (n : ℕ). sets p k (at ∷ places_from (at + n) (readable (max_commands - (k + 1)) (drop (at + z) s)))) ez
            ∙ ap (λ (cs : List Command). sets p k (places_from at cs)) (sym here)
            ∙ w.noted

-- The walk through a book that is taken reads its commands.
some_read : (n : ℕ) (l : List ℕ) (c : Command) (cs : List Command) (o : Option (List Command)) → ((s : List ℕ) (ds : List Command) → read_up_to n s ≡ Some ds → readable n s ≡ ds)
    → read_up_to n (drop (size_of c) l) ≡ o → also c o ≡ Some cs → c ∷ readable n (drop (size_of c) l) ≡ cs
some_read n l c cs None ih q e = absurd (let z : ◌≡◌ {A = ℕ} 0 1 = cc in omega arith)
some_read n l c cs (Some ds) ih q e = let same : c ∷ ds ≡ cs = cc in ap (λ (r : List Command). c ∷ r) (ih (drop (size_of c) l) ds q) ∙ same

by_reading : (n : ℕ) (l : List ℕ) (cs : List Command) (r : Option Command) → ((s : List ℕ) (ds : List Command) → read_up_to n s ≡ Some ds → readable n s ≡ ds)
    → and_then r (λ c. also c (read_up_to n (drop (size_of c) l))) ≡ Some cs → read_on r (λ c. readable n (drop (size_of c) l)) ≡ cs
by_reading n l cs None ih e = absurd (let z : ◌≡◌ {A = ℕ} 0 1 = cc in omega arith)
by_reading n l cs (Some c) ih e = some_read n l c cs (read_up_to n (drop (size_of c) l)) ih refl e

readable-some : (n : ℕ) (s : List ℕ) (cs : List Command) → read_up_to n s ≡ Some cs → readable n s ≡ cs
readable-some zero [] cs e = cc
readable-some zero (b ∷ s) cs e = absurd (let z : ◌≡◌ {A = ℕ} 0 1 = cc in omega arith)
readable-some (suc n) [] cs e = let same : [] ≡ cs = cc in bad_read (suc n) [] (none_read [] refl) ∙ same
readable-some (suc n) (b ∷ s) cs e = by_reading n (b ∷ s) cs (read_command (b ∷ s)) (λ l ds q. readable-some n l ds q) e

counted-some : (o : Option (List Command)) {n : ℕ} → count_from 0 o ≡ Some n → o ≡ Some (or_none o)
counted-some None e = absurd (let z : ◌≡◌ {A = ℕ} 0 1 = cc in omega arith)
counted-some (Some cs) e = refl

-- The places that are noted of a book that is taken.
pub note_noted : (s p : List ℕ) {q : List ℕ} {n : ℕ} → max_commands ≤ length p → measure_book s ≡ Some n → q ≡ sets p 0 (noted_places s) → Placed s q
unfolding noted_places places_of measure_book commands_of
note_noted s p h e w =
    index_noted s p (omega (arith, few_commands s))
    (w ∙ ap (λ (cs : List Command). sets p 0 (places_from 0 cs)) (readable-some max_commands s (or_none (read_up_to max_commands s)) (counted-some (read_up_to max_commands s) e)))

-- ---- the words past the places

past-sets : (k : ℕ) (p : List ℕ) (i : ℕ) (vs : List ℕ) → i + length vs ≤ k → drop k (sets p i vs) ≡ drop k p
past-sets k p i [] h = refl
past-sets k p i (v ∷ vs) h = past-sets k (set p i v) (suc i) vs (omega arith) ∙ drop-set-lt k p i v (omega arith)

readable_few : (n : ℕ) (s : List ℕ) → length (readable n s) ≤ n
readable_few zero s = omega arith
readable_few (suc n) s = go (read_command s) (λ c. readable_few n (drop (size_of c) s))
  where
    go : (r : Option Command) → ((c : Command) → length (readable n (drop (size_of c) s)) ≤ n) → length (read_on r (λ c. readable n (drop (size_of c) s))) ≤ suc n
    go (Some c) h = omega (arith, h c)
    go None h = omega arith

-- A walk, where there is one, leaves what is past the room for places.
pub past_noted : (walked : Bool) (s p : List ℕ) → drop max_commands (pick walked (sets p 0 (noted_places s)) p) ≡ drop max_commands p
unfolding noted_places
past_noted true s p =
    past-sets max_commands p 0 (places_from 0 (readable max_commands s)) (omega (arith, length_places 0 (readable max_commands s), readable_few max_commands s))
past_noted false s p = refl
