-- `layout::phase_of`: a tag of 0 is acknowledging, any other is waiting.
-- Assumes nothing.
use Rattle.layout.proofs.Header.{phase_waiting}
use Rattle.layout.proofs.phase_of.Goals as goal

pub returns : goal.returns
returns c = phase_waiting _ _ _ c.if-tag-eq0.false
