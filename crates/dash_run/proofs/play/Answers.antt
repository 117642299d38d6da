-- `dash_run::play`: what is answered is within the print's buffer.
-- Assumes nothing.
use mathlib.Core.Path.{sym}
use lib.Seq.{length-take-le}
use Rattle.run.proofs.Laws.{answer_fits}
use Rattle.dash_run.proofs.play.Goals as goal

pub slice_bounds-write_all-end : goal.slice_bounds-write_all-end
slice_bounds-write_all-end c = answer_fits _ _ _ c.run-end.ensures.0

pub slice_bounds-write_all-end-2 : goal.slice_bounds-write_all-end-2
slice_bounds-write_all-end-2 c = sym (length-take-le _ _ (answer_fits _ _ _ c.run-end.ensures.0))
