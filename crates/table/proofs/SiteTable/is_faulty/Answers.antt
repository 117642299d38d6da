-- `SiteTable::is_faulty` meets its contract: by the digit below 16, and from 16 on no bit is in a mask.
-- Assumes nothing.
use borrow.Author.Rules.{rules}
use native.Mathlib.Omega.{arith}
use mathlib.Core.Path.{sym}
use Rattle.sets.specs.Sets.{has}
use Rattle.sets.proofs.Laws.{has_above}
use Rattle.table.proofs.SiteTable.is_faulty.Goals as goal

pub returns-then-site-lt-MASK_BITS : goal.returns-then-site-lt-MASK_BITS
unfolding has
returns-then-site-lt-MASK_BITS c = search rules

pub returns-else-site-lt-MASK_BITS : goal.returns-else-site-lt-MASK_BITS
returns-else-site-lt-MASK_BITS c = let a = c.args in sym (has_above 16 a.self.mask a.site (search rules) (omega arith))
