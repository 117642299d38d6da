-- `ending::judge`: each test of the code is one of the definition, in its order.
-- Rests on Verdicts.
use Prim.Native.Nat.{◌+◌}
use Rattle.ending.proofs.Verdicts.{end_acknowledging, end_full, end_met}
use Rattle.ending.proofs.Closing.{size_small}
use native.Mathlib.Omega.{arith}
use Rattle.ending.proofs.judge.Goals as goal

pub returns-then-recorded-more : goal.returns-then-recorded-more
returns-then-recorded-more c =
    let a = c.args in
    end_full a.header a.commands a.sets _ c.in-Waiting.is c.due.ensures c.due-in-Waiting.ensures
    (λ i. c.size.ensures i + c.size-in-Waiting.ensures i) c.if-recorded-more.true

pub returns-in-Acknowledging : goal.returns-in-Acknowledging
returns-in-Acknowledging c = let a = c.args in end_acknowledging a.header a.commands a.sets c.in-Acknowledging.is

pub returns-else-recorded-more : goal.returns-else-recorded-more
returns-else-recorded-more c =
    let a = c.args in
    end_met a.header a.commands a.sets _ c.in-Waiting.is c.due.ensures c.due-in-Waiting.ensures
    (λ i. c.size.ensures i + c.size-in-Waiting.ensures i) c.if-recorded-more.false

pub overflow_add-more : goal.overflow_add-more
overflow_add-more c =
    let p = size_small c.due.result c.size.ensures in
    let q = size_small c.due-in-Waiting.result c.size-in-Waiting.ensures in
    record { fits = omega arith }

pub overflow_add-recorded : goal.overflow_add-recorded
overflow_add-recorded c =
    let p = size_small c.due.result c.size.ensures in
    let q = size_small c.due-in-Waiting.result c.size-in-Waiting.ensures in
    record { fits = omega arith }
