-- `arrivals::judge_false`: the verdict on a message, by what the set and the table say.
-- Assumes nothing.
use mathlib.Core.Path.{◌∙◌}
use Rattle.arrivals.specs.Messages.{message_verdict}
use Rattle.arrivals.proofs.judge_false.Goals as goal

pub returns : goal.returns
returns c =
    let a = c.args in
    c.judge_message.ensures ∙ (λ k. message_verdict a.rules.table a.i a.j a.r (c.within-within.ensures k) (c.is_faulty-faulty.ensures k))
