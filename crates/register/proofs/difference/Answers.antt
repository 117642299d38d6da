-- `register::difference`: both readings are small, so is their difference.
-- Assumes nothing.
use mathlib.Core.Path.{◌≡◌}
use native.Mathlib.Omega.{arith}
use lib.Dec.{lit≤}
use lib.IntN.{pos, ◌-ℤ◌}
use mir.Syntax.{w32}
use mir.Val.{SFits, to_z}
use mir.Facts.{to_z_pos}
use Rattle.signed.proofs.Laws.{kept, sfits_diff}
use Rattle.register.proofs.difference.Reads as reads
use Rattle.register.proofs.difference.Lts as lts
use Rattle.register.proofs.difference.Goals as goal

value : (c : lts.Start reads.Pre reads.Post) → to_z w32 c.args.new -ℤ to_z w32 c.args.old ≡ pos c.args.new -ℤ pos c.args.old
value c = λ i. to_z_pos w32 {n = c.args.new} (omega arith) i -ℤ to_z_pos w32 {n = c.args.old} (omega arith) i

small : (c : lts.Start reads.Pre reads.Post) → SFits w32 (pos c.args.new -ℤ pos c.args.old)
small c = sfits_diff w32 c.args.new c.args.old {m = 1000000} (omega arith) (omega arith) (lit≤ tt)

pub returns : goal.returns
returns c = kept (value c) (small c)
