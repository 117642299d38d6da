-- What a whole reading tells of the bytes it was read from.
-- Assumes nothing.
use mathlib.Core.Bool.{Bool, true, false}
use Rattle.std.specs.Prelude.{None, Some}
use mathlib.Core.Path.{◌≡◌, refl, sym, ap, subst, ◌∙◌}
use mathlib.Core.List.{List, ◌∷◌, ◌++◌, append_assoc}
use Prim.Native.Nat.{ℕ, zero, suc, ◌+◌, ◌*◌, ◌≤◌, ◌<◌}
use native.Mathlib.Omega.{arith}
use borrow.Author.Tests.{leb-true}
use lib.Dec.{leb}
use lib.ListN.{length, get_or, drop}
use lib.Seq.{drop-cons}
use Rattle.wire.specs.Wire.{read_le, bytes}
use Rattle.wire.proofs.Laws.{read_lt, peel}
use Rattle.sets.specs.Sets.{set_bytes, read_set}
use Rattle.steps.specs.declared.Step.{Step}
use Rattle.steps.specs.Steps.{size_of, byte, given, uncut, read_as, read_step, encode_step, InRange}

-- Every byte is below 256.
abbrev pub Small : List ℕ → Type 0
Small s = (i : ℕ) → get_or s i 0 < 256

pub record Front (s : List ℕ) (t : Step) : Type 0 where
  -- the step's bytes are there
  pub size : size_of t ≤ length s
  -- its sets fit their bytes
  pub range : Small s → InRange t
  -- the step written in front of what is left gives the bytes
  pub back : Small s → encode_step t ++ drop (size_of t) s ≡ s

module _ (s : List ℕ) where
  from : (k : ℕ) → k < length s → byte s k ∷ drop (suc k) s ≡ drop k s
  from k h = sym (drop-cons s k 0 h)

  module _ {k : ℕ} (e : byte s 0 ≡ k) where
    back_2 : 2 ≤ length s → k ∷ byte s 1 ∷ drop 2 s ≡ s
    back_2 h =
        ap (λ (l : List ℕ). k ∷ l) (from 1 (omega arith)) ∙ ap (λ (n : ℕ). n ∷ drop 1 s) (sym e) ∙ from 0 (omega arith)

    back_3 : 3 ≤ length s → k ∷ byte s 1 ∷ byte s 2 ∷ drop 3 s ≡ s
    back_3 h = ap (λ (l : List ℕ). k ∷ byte s 1 ∷ l) (from 2 (omega arith)) ∙ back_2 (omega arith)

    back_4 : 4 ≤ length s → k ∷ byte s 1 ∷ byte s 2 ∷ byte s 3 ∷ drop 4 s ≡ s
    back_4 h = ap (λ (l : List ℕ). k ∷ byte s 1 ∷ byte s 2 ∷ l) (from 3 (omega arith)) ∙ back_3 (omega arith)

    back_5 : 5 ≤ length s → k ∷ byte s 1 ∷ byte s 2 ∷ byte s 3 ∷ byte s 4 ∷ drop 5 s ≡ s
    back_5 h = ap (λ (l : List ℕ). k ∷ byte s 1 ∷ byte s 2 ∷ byte s 3 ∷ l) (from 4 (omega arith)) ∙ back_4 (omega arith)

    -- A set after the round of a message.
    back_set : 4 + set_bytes ≤ length s → Small s → k ∷ byte s 1 ∷ byte s 2 ∷ byte s 3 ∷ bytes set_bytes (read_le set_bytes s 4) ++ drop (4 + set_bytes) s ≡ s
    back_set h small = ap (λ (l : List ℕ). k ∷ byte s 1 ∷ byte s 2 ∷ byte s 3 ∷ l) (peel s small set_bytes 4 (omega arith)) ∙ back_4 (omega arith)

    -- The two sets of a log entry.
    back_entry : 3 + 2 * set_bytes ≤ length s → Small s → k ∷ byte s 1 ∷ byte s 2 ∷ (bytes set_bytes (read_le set_bytes s 3) ++ bytes set_bytes (read_le set_bytes s (3 + set_bytes))) ++ drop (3 + 2 * set_bytes) s ≡ s
    back_entry h small =
        ap (λ (l : List ℕ). k ∷ byte s 1 ∷ byte s 2 ∷ l)
        (append_assoc (bytes set_bytes (read_le set_bytes s 3)) (bytes set_bytes (read_le set_bytes s (3 + set_bytes))) (drop (3 + 2 * set_bytes) s)
        ∙ ap (λ (l : List ℕ). bytes set_bytes (read_le set_bytes s 3) ++ l) (peel s small set_bytes (3 + set_bytes) (omega arith))
        ∙ peel s small set_bytes 3 (omega arith))
        ∙ back_3 (omega arith)

given-true : (b : Bool) (u : Step) {t : Step} → given b u ≡ Some t → (b ≡ true) × (u ≡ t)
given-true true u {t} h = (refl, let q : u ≡ t = cc in q)
given-true false u h = absurd (let z : ◌≡◌ {A = ℕ} 0 1 = cc in omega arith)

not_whole : {t : Step} → None ≡ Some t → ⊥
not_whole e = let z : ◌≡◌ {A = ℕ} 0 1 = cc in omega arith

-- An uncut reading that is whole.
from_uncut : (s : List ℕ) (u : Step) {t : Step} → (size_of u ≤ length s → Front s u) → uncut s u ≡ Some t → Front s t
unfolding uncut
from_uncut s u f q =
    let g = given-true (leb (size_of u) (length s)) u q in
    subst (λ (d : Step). Front s d) g.1 (f (leb-true (size_of u) (length s) g.0))

by_code : (k : ℕ) (s : List ℕ) {t : Step} → byte s 0 ≡ k → read_as k s ≡ Some t → Front s t
unfolding read_as read_set
by_code zero s e q = absurd (not_whole q)
by_code (suc zero) s e q = from_uncut s _ (λ h. record { size = h; range = λ small. tt; back = λ small. back_3 s e h }) q
by_code (suc (suc zero)) s e q = from_uncut s _ (λ h. record { size = h; range = λ small. tt; back = λ small. back_5 s e h }) q
by_code (suc (suc (suc zero))) s e q = from_uncut s _ (λ h. record { size = h; range = λ small. tt; back = λ small. back_4 s e h }) q
by_code (suc (suc (suc (suc zero)))) s e q = from_uncut s _ (λ h. record { size = h; range = λ small. read_lt s small set_bytes 4 h; back = back_set s e h }) q
by_code (suc (suc (suc (suc (suc zero))))) s e q = from_uncut s _ (λ h. record { size = h; range = λ small. read_lt s small set_bytes 4 h; back = back_set s e h }) q
by_code (suc (suc (suc (suc (suc (suc zero)))))) s e q = from_uncut s _ (λ h. record { size = h; range = λ small. (read_lt s small set_bytes 3 (omega arith), read_lt s small set_bytes (3 + set_bytes) h); back = back_entry s e h }) q
by_code (suc (suc (suc (suc (suc (suc (suc zero))))))) s e q = from_uncut s _ (λ h. record { size = h; range = λ small. tt; back = λ small. back_2 s e h }) q
by_code (suc (suc (suc (suc (suc (suc (suc (suc zero)))))))) s e q = from_uncut s _ (λ h. record { size = h; range = λ small. tt; back = λ small. back_3 s e h }) q
by_code (suc (suc (suc (suc (suc (suc (suc (suc (suc zero))))))))) s e q = from_uncut s _ (λ h. record { size = h; range = λ small. tt; back = λ small. back_2 s e h }) q
by_code (suc (suc (suc (suc (suc (suc (suc (suc (suc (suc zero)))))))))) s e q = from_uncut s _ (λ h. record { size = h; range = λ small. tt; back = λ small. back_2 s e h }) q
by_code (suc (suc (suc (suc (suc (suc (suc (suc (suc (suc (suc k))))))))))) s e q = absurd (not_whole q)

pub front : (s : List ℕ) {t : Step} → read_step s ≡ Some t → Front s t
unfolding read_step
front s q = by_code (byte s 0) s refl q
