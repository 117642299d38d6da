-- `sent::check`: the flag tells whether there is a check message.
-- Rests on Laws.
use mathlib.Core.Path.{ap, ◌∙◌}
use Rattle.sent.specs.Sent.{flag_place, check_place}
use Rattle.sent.proofs.Laws.{in_table_lem, no_check, some_check}
use Rattle.sent.proofs.check.Goals as goal

pub returns-then-flag-ne1 : goal.returns-then-flag-ne1
returns-then-flag-ne1 c = let a = c.args in no_check a.sent.now a.j a.r (in_table_lem a.j a.r c.requires.1 c.requires.2 c.requires.3) (c.flag_at.ensures ∙ ap flag_place c.cell_of-cell.ensures.0) c.get-flag.ensures c.if-flag-ne1.true

pub returns : goal.returns
returns c =
    let a = c.args in
    some_check a.sent.now a.j a.r (in_table_lem a.j a.r c.requires.1 c.requires.2 c.requires.3) (c.flag_at.ensures ∙ ap flag_place c.cell_of-cell.ensures.0) c.get-flag.ensures c.if-flag-ne1.false
    (c.check_at.ensures ∙ ap check_place c.cell_of-cell.ensures.0) c.read-set.ensures
