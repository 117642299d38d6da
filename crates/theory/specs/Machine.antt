-- A deterministic machine over numbered commands, what a sequence of commands does and answers, and the law of exchange.
-- Assumes nothing.
use Rattle.std.specs.Prelude.{◌≡◌, Bool, false, List, [], ◌∷◌, ◌≢◌, ℕ, eqb, None, Option, Some}
use Rattle.theory.specs.Sets.{pick}

pub record Machine : Type 1 where
  pub State : Type 0
  pub Answer : Type 0
  pub initial : State
  pub execute : State → ℕ → State
  pub answer : State → ℕ → Answer
  pub conflict : ℕ → ℕ → Bool

-- A command delivered, with the answer that it was given.
pub record Delivery (Answer : Type 0) : Type 0 where
  pub command : ℕ
  pub answer : Answer

module _ (M : Machine) where
  open M use {State, Answer, execute, answer, conflict}

  -- The state after the commands of a list, one after another.
  abbrev pub run : State → List ℕ → State
  run s [] = s
  run s (x ∷ l) = run (execute s x) l

  -- Each command of a list with the answer that it gets.
  abbrev pub answered : State → List ℕ → List (Delivery Answer)
  answered s [] = []
  answered s (x ∷ l) = record { command = x; answer = answer s x } ∷ answered (execute s x) l

  -- The answer that one command gets in a list; none where it does not stand there.
  abbrev pub answer_in : State → List ℕ → ℕ → Option Answer
  answer_in s [] m = None
  answer_in s (x ∷ l) m = pick (eqb m x) (Some (answer s x)) (answer_in (execute s x) l m)

  -- Two different commands that do not conflict give, in either order, the same state and the same two answers.
  pub record Exchange : Type 0 where
    pub symmetric : (a b : ℕ) → conflict a b ≡ conflict b a
    pub irreflexive : (a : ℕ) → conflict a a ≡ false
    pub state : (s : State) (a b : ℕ) → a ≢ b → conflict a b ≡ false → execute (execute s a) b ≡ execute (execute s b) a
    pub answers : (s : State) (a b : ℕ) → a ≢ b → conflict a b ≡ false → answer (execute s a) b ≡ answer s b
