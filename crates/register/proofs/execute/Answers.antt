-- `register::execute`: the bike is read, its answer and change are those of the definition, and it is written back.
-- Assumes nothing.
use native.Mathlib.Omega.{arith}
use mir.Syntax.{w32}
use Rattle.signed.proofs.Laws.{returned}
use Rattle.register.specs.Lent.{register_of}
use Rattle.register.proofs.Laws.{reading-within}
use Rattle.register.proofs.Lent.{executed}
use borrow.Author.Rules.{rules}
use Rattle.register.proofs.execute.Goals as goal

pub reply_to-answer-requires : goal.reply_to-answer-requires
reply_to-answer-requires c =
    let s = c in
    reading-within (register_of s.args.register.now s.args.at) c.bike_of-bike.result s.requires.1 c.bike_at-before.ensures

pub changed-requires : goal.changed-requires
changed-requires c = reading-within (register_of c.args.register.now c.args.at) c.bike_of-bike.result c.requires.1 c.bike_at-before.ensures

pub returns : goal.returns
returns c =
    let s = c in
    let k = c.bike_of-bike in
    let valid = s.requires.2 in
    let bound = valid.bike in
    let named = k.ensures in
    executed s.args.command s.args.at s.args.register.now (omega arith) (omega arith) named
    c.bike_at-before.ensures
    (returned w32 c.reply_to-answer.type_inv c.reply_to-answer.ensures)
    c.changed.ensures
    (search rules)
    (search rules)
    c.put_bike.ensures
