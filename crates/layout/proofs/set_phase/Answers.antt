-- `layout::set_phase`: the number and both sets are written.
-- Assumes nothing.
use Rattle.layout.proofs.Fields.{phase_set}
use Rattle.layout.proofs.set_phase.Goals as goal

pub returns : goal.returns
returns c =
    phase_set _ c.args.phase c.proposal-proposal.ensures c.from.ensures
    c.put.ensures c.write.ensures
    c.write-2.ensures
