-- `lent::judge_heard`: the senders before are good, and of this sender the rounds before.
-- Rests on Judged.
use mathlib.Core.Path.{◌≡◌, sym, ap, ◌∙◌}
use Prim.Native.Nat.{ℕ, ◌+◌}
use Rattle.theory.specs.Sets.{all}
use Rattle.theory.specs.Counting.{all_none, all_more}
use Rattle.layout.specs.Good.{good_cell}
use Rattle.lent.proofs.Judged.{heard_bad}
use native.Mathlib.Omega.{arith}
use Rattle.lent.proofs.judge_heard.Goals as goal

pub loop-sender-init : goal.loop-sender-init
loop-sender-init c = all_none _

pub loop-k-init : goal.loop-k-init
loop-k-init c = all_none _

pub returns-then-not-judge_cell : goal.returns-then-not-judge_cell
returns-then-not-judge_cell c = let a = c.args in heard_bad a.site.now a.sites a.commands c.get-rounds.ensures c.loop-sender.sender c.loop-k.k (omega arith) (omega arith) c.judge_cell.ensures c.if-not-judge_cell.true

pub loop-k-preserved : goal.loop-k-preserved
loop-k-preserved c = all_more _ _ c.loop-k.invariant (sym c.judge_cell.ensures ∙ c.if-not-judge_cell.false)

pub loop-sender-preserved : goal.loop-sender-preserved
loop-sender-preserved c =
    let a = c.args in
    let e : c.loop-k.k ≡ c.get-rounds.result = omega arith in
    all_more _ _ c.loop-sender.invariant (ap (λ (n : ℕ). all n (λ i. good_cell a.sites a.commands a.site.now c.loop-sender.sender (i + 1))) (sym e) ∙ c.loop-k.invariant)
