-- `engine::take_message`: by the kind.
-- Assumes nothing.
use Rattle.message.specs.declared.Kind.TheVariants.{Acknowledgment, Check}
use Rattle.engine.proofs.Laws.{took_by}
use Rattle.engine.proofs.take_message.Goals as goal

pub returns-in-Acknowledgment : goal.returns-in-Acknowledgment
returns-in-Acknowledgment c = let a = c.args in took_by a.message.kind Acknowledgment a.sender a.message.round a.message.set a.site.now _ c.in-Acknowledgment.is c.hear.ensures

pub returns-in-Check : goal.returns-in-Check
returns-in-Check c = let a = c.args in took_by a.message.kind Check a.sender a.message.round a.message.set a.site.now _ c.in-Check.is c.receive.ensures
