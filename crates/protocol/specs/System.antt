-- What the protocol is played over: a machine, its commands, the sites and the quorum sizes. And how a step is judged.
-- Assumes nothing.
use Rattle.std.specs.Prelude.{Bool, true, false, ◌&&◌, ◌||◌, not, ℕ, ltb, Err}
use Rattle.refusals.specs.declared.Refusal.{Refusal}
use Rattle.refusals.specs.Refusals.{Verdict, accepted}
use Rattle.theory.specs.Sets.{Set, all}
use Rattle.theory.specs.Machine.{Machine}

pub record System : Type 1 where
  pub machine : Machine
  -- the number of commands in the book; a command is a number below it
  pub commands : ℕ
  -- the greatest number of commands that a book may have: sets are looked at below it
  pub capacity : ℕ
  pub sites : ℕ
  -- document 01: a liar
  pub faulty : ℕ → Bool
  pub n_ack : ℕ
  pub n_chk : ℕ
  pub majority : ℕ
  -- the last round that the log takes; a site's round is at most one more
  pub rounds : ℕ

-- What a step asks for, in order, each with the refusal that it earns where it does not hold.
infixr 25 ◌else◌⨾◌
pub data Demands : Type 0 where
  granted : Demands
  ◌else◌⨾◌ : Bool → Refusal → Demands → Demands

-- The first demand that does not hold refuses the step.
abbrev pub verdict : Demands → Verdict
verdict granted = accepted
verdict (true else r ⨾ ds) = verdict ds
verdict (false else r ⨾ ds) = Err r

module _ (S : System) where
  open S use {machine, commands, capacity, faulty}

  abbrev pub correct : ℕ → Bool
  correct i = not (faulty i)

  -- A set without a command beyond the book.
  abbrev pub known : Set → Bool
  known x = all capacity (λ m. not (x m) || ltb m commands)

  -- No two commands of a set conflict.
  abbrev pub free : Set → Bool
  free x = all commands (λ a. all commands (λ b. not (x a && (x b && machine.conflict a b))))
