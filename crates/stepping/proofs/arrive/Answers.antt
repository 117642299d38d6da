-- `stepping::arrive`: each kind by its function.
-- Assumes nothing.
use Rattle.stepping.proofs.Arms.{arrived, no_arrival}
use Rattle.stepping.proofs.arrive.Goals as goal

pub returns-in-Command : goal.returns-in-Command
returns-in-Command c =
    let o = c in
    let h = c.command.ensures in
    arrived o.args.rules.table o.args.rules.commands o.args.sent.now o.args.sites.now _ c.in-Command.is (h o.args.sent.now)

pub returns-in-Acknowledgment : goal.returns-in-Acknowledgment
returns-in-Acknowledgment c =
    let o = c in
    let h = c.acknowledgment.ensures in
    arrived o.args.rules.table o.args.rules.commands o.args.sent.now o.args.sites.now _ c.in-Acknowledgment.is h

pub returns-in-Check : goal.returns-in-Check
returns-in-Check c =
    let o = c in
    let h = c.check.ensures in
    arrived o.args.rules.table o.args.rules.commands o.args.sent.now o.args.sites.now _ c.in-Check.is h

pub returns-in-FalseAcknowledgment : goal.returns-in-FalseAcknowledgment
returns-in-FalseAcknowledgment c =
    let o = c in
    let h = c.false_acknowledgment.ensures in
    arrived o.args.rules.table o.args.rules.commands o.args.sent.now o.args.sites.now _ c.in-FalseAcknowledgment.is (h o.args.sent.now)

pub returns-in-FalseCheck : goal.returns-in-FalseCheck
returns-in-FalseCheck c =
    let o = c in
    let h = c.false_check.ensures in
    arrived o.args.rules.table o.args.rules.commands o.args.sent.now o.args.sites.now _ c.in-FalseCheck.is (h o.args.sent.now)

pub returns-in_default : goal.returns-in_default
returns-in_default c = λ e. absurd (no_arrival c.args.step c.in_default.in_default-own.keys6 e)
