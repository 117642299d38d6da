-- Bytes that agree on a part.
-- Rests on Laws.
use mathlib.Core.Path.{◌≡◌, ap, ◌∙◌}
use mathlib.Core.List.{List}
use mathlib.Core.Logic.{◌⊎◌, inl, inr}
use Prim.Native.Nat.{ℕ, ◌+◌, ◌≤◌}
use native.Mathlib.Omega.{arith}
use lib.ListN.{length}
use Rattle.wire.specs.Wire.{read_le, splice}
use Rattle.wire.proofs.Laws.{read-before, read-after}

-- Every number that stands between two places is the same in both.
pub record Agree (b b' : List ℕ) (from to : ℕ) : Type 0 where
  pub reads : (n k : ℕ) → from ≤ k → k + n ≤ to → read_le n b' k ≡ read_le n b k

-- A write changes nothing before it and nothing after it.
pub agree_before : (b : List ℕ) (at : ℕ) (bs : List ℕ) (from : ℕ) → at ≤ length b → Agree b (splice b at bs) from at
agree_before b at bs from h = record { reads = λ n k l m. read-before n b at bs k h m }

pub agree_after : (b : List ℕ) (at : ℕ) (bs : List ℕ) (from to : ℕ) → at + length bs ≤ length b → at + length bs ≤ from → Agree b (splice b at bs) from to
agree_after b at bs from to h l = record { reads = λ n k m o. read-after n b at bs k (omega arith) h }

pub agree_equal : {b b' : List ℕ} (from to : ℕ) → b' ≡ b → Agree b b' from to
agree_equal from to e = record { reads = λ n k l m. ap (λ (x : List ℕ). read_le n x k) e }

pub agree_trans : {a b c : List ℕ} {from to : ℕ} → Agree a b from to → Agree b c from to → Agree a c from to
agree_trans p q = record { reads = λ n k l m. q.reads n k l m ∙ p.reads n k l m }

pub agree_part : {a b : List ℕ} {from to : ℕ} (from' to' : ℕ) → Agree a b from to → from ≤ from' → to' ≤ to → Agree a b from' to'
agree_part from' to' p h l = record { reads = λ n k m o. p.reads n k (omega arith) (omega arith) }

-- A write of n bytes beside a part leaves it.
pub agree_sized : (b : List ℕ) (at : ℕ) (bs : List ℕ) (n from to : ℕ) → length bs ≡ n → at + n ≤ length b → (to ≤ at) ⊎ (at + n ≤ from)
    → Agree b (splice b at bs) from to
agree_sized b at bs n from to e h (inl l) = agree_part from to (agree_before b at bs from (omega arith)) (omega arith) l
agree_sized b at bs n from to e h (inr l) = agree_after b at bs from to (omega arith) (omega arith)
