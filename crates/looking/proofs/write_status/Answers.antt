-- `looking::write_status`: four numbers are written side by side.
-- Assumes nothing.
use mathlib.Core.Path.{ap, ◌∙◌}
use Rattle.wire.specs.Wire.{splice}
use Rattle.layout.specs.declared.Site.{Site}
use Rattle.looking.specs.Looking.{head_status}
use Rattle.looking.proofs.Laws.{status_written}
use Rattle.looking.proofs.write_status.Goals as goal

pub returns : goal.returns
returns c =
    status_written c.args.out.now c.read-header.result c.from.ensures c.put.ensures c.put-2.ensures c.put-3.ensures c.put-4.ensures
    ∙ ap (λ (h : Site). splice c.args.out.now 0 (head_status h)) c.read-header.ensures
