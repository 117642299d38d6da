-- `Set::beyond` meets its contract: the greatest word without its first digits.
-- Rests on Beyond.
use native.Mathlib.Omega.{arith}
use Rattle.sets.proofs.Beyond.{beyond_word, beyond_none}
use Rattle.sets.proofs.Set.beyond.Goals as goal

pub returns-then-n-lt-CAPACITY : goal.returns-then-n-lt-CAPACITY
returns-then-n-lt-CAPACITY c = beyond_word _ (omega arith)

pub returns-else-n-lt-CAPACITY : goal.returns-else-n-lt-CAPACITY
returns-else-n-lt-CAPACITY c = beyond_none _ (omega arith)
