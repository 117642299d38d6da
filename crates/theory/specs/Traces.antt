-- Command sequences that differ by exchanges of neighbours without conflict: they give the same state and the same answers.
-- Assumes nothing.
use Rattle.std.specs.Prelude.{◌≡◌, refl, Bool, true, false, List, ◌∷◌, ◌≢◌, ℕ, eqb, Option, Some}
use Rattle.std.proofs.Common.{sym, ◌∙◌, ap, eqb-true}
use Rattle.theory.specs.Sets.{pick}
use Rattle.theory.specs.Machine.{Machine, Exchange, run, answer_in}

module _ (M : Machine) where
  open M use {State, Answer, execute, answer, conflict}

  -- The least congruence that exchanges two different neighbours without conflict.
  pub data Alike : List ℕ → List ℕ → Type 0 where
    same : {l : List ℕ} → Alike l l
    swap : {x y : ℕ} {l : List ℕ} → x ≢ y → conflict x y ≡ false → Alike (x ∷ y ∷ l) (y ∷ x ∷ l)
    keep : {x : ℕ} {a b : List ℕ} → Alike a b → Alike (x ∷ a) (x ∷ b)
    chain : {a b c : List ℕ} → Alike a b → Alike b c → Alike a c

  module _ (law : Exchange M) where
    -- Alike sequences give the same state, from every state.
    pub alike_state : {a b : List ℕ} (s : State) → Alike a b → run M s a ≡ run M s b
    alike_state s same = refl
    alike_state s (swap {x} {y} {l} n h) = ap (λ (t : State). run M t l) (law.state s x y n h)
    alike_state s (keep {x} k) = alike_state (execute s x) k
    alike_state s (chain k h) = alike_state s k ∙ alike_state s h

    -- And every command the same answer.
    pub alike-answer : {a b : List ℕ} (s : State) (m : ℕ) → Alike a b → answer_in M s a m ≡ answer_in M s b m
    alike-answer s m same = refl
    alike-answer s m (swap {x} {y} {l} n h) = go (eqb m x) refl (eqb m y) refl
      where
        go : (p : Bool) → eqb m x ≡ p → (q : Bool) → eqb m y ≡ q →
            pick p (Some (answer s x)) (pick q (Some (answer (execute s x) y)) (answer_in M (execute (execute s x) y) l m))
            ≡ pick q (Some (answer s y)) (pick p (Some (answer (execute s y) x)) (answer_in M (execute (execute s y) x) l m))
        go true ep true eq = absurd (n (sym (eqb-true m x ep) ∙ eqb-true m y eq))
        go true ep false eq = ap Some (sym (law.answers s y x (λ e. n (sym e)) (law.symmetric y x ∙ h)))
        go false ep true eq = ap Some (law.answers s x y n h)
        go false ep false eq = ap (λ (t : State). answer_in M t l m) (law.state s x y n h)
    alike-answer s m (keep {x} {a} {b} k) = ap (λ (o : Option Answer). pick (eqb m x) (Some (answer s x)) o) (alike-answer (execute s x) m k)
    alike-answer s m (chain k h) = alike-answer s m k ∙ alike-answer s m h
