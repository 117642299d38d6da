-- `Set::has` meets its contract: by `holds` below 64, and from 64 on no number is in a word.
-- Assumes nothing.
use borrow.Author.Rules.{rules}
use native.Mathlib.Omega.{arith}
use mathlib.Core.Path.{sym}
use Rattle.sets.proofs.Laws.{in_above}
use Rattle.sets.proofs.Set.has.Goals as goal

pub returns-else-m-lt-CAPACITY : goal.returns-else-m-lt-CAPACITY
returns-else-m-lt-CAPACITY c = let a = c.args in sym (in_above a.self a.m (search rules) (omega arith))
