-- `deliver::deliver`: the command of the book is executed, and the answer is recorded at the k-th place.
-- Assumes nothing.
use mathlib.Core.Path.{refl, sym, subst, ◌∙◌}
use native.Mathlib.Omega.{arith}
use mir.Syntax.{w32}
use Rattle.register.specs.Register.{Valid}
use Rattle.commands.specs.Book.{commands_of}
use Rattle.commands.proofs.Places.{commands_valid}
use Rattle.commands.proofs.Walk.{few_commands}
use Rattle.signed.proofs.Laws.{returned}
use Rattle.deliver.proofs.Ledger.{delivered_one, command_at_lem, command_valid}
use Rattle.deliver.proofs.deliver.Goals as goal

pub execute-answer-requires : goal.execute-answer-requires
execute-answer-requires c =
    let s = c in
    (omega (arith, s.requires.0), s.requires.1, subst Valid (sym c.indexed-command.ensures) (commands_valid _ _ s.requires.3))

pub returns : goal.returns
returns c =
    let s = c in
    let a = s.args in
    let f = few_commands a.book.now in
    let h = s.requires.3 in
    delivered_one (commands_of a.book.now) a.k a.m a.site.now s.requires.0 s.requires.1 s.requires.4 h (omega arith) (command_valid a.book.now a.m h)
    (c.indexed-command.ensures ∙ command_at_lem a.book.now a.m)
    c.execute-answer.ensures (returned w32 c.execute-answer.type_inv refl)
    c.record_delivery.ensures

pub overflow_cast-m : goal.overflow_cast-m
overflow_cast-m c =
    let s = c in
    let f = few_commands s.args.book.now in
    let h = s.requires.3 in
    record { fits = omega arith }
