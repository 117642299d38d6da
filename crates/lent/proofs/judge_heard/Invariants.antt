-- `lent::judge_heard`: the senders before are good, and of this sender the rounds before.
-- Rests on Judged.
use mathlib.Core.Bool.{true}
use mathlib.Core.Path.{◌≡◌}
use Prim.Native.Nat.{◌+◌}
use Rattle.theory.specs.Sets.{all}
use Rattle.layout.specs.Good.{good_cell}
use Rattle.lent.proofs.judge_heard.Given as goal

abbrev pub invariant-loop-k : goal.invariant-loop-k
invariant-loop-k l = all l.k (λ i. good_cell l.sites l.commands l.site l.sender (i + 1)) ≡ true

abbrev pub invariant-loop-sender : goal.invariant-loop-sender
invariant-loop-sender l = all l.sender (λ j. all l.rounds (λ i. good_cell l.sites l.commands l.site j (i + 1))) ≡ true
