use native.Mathlib.Omega.{arith}
use mathlib.Core.Path.{refl, ap, sym, ◌∙◌}
use lib.ListN.{length}
use Rattle.commands.proofs.Walk.{rest_all, read_at, took, not_bad}
use Rattle.commands.proofs.Writing.{left_all, left_length, left_more, left_none}
use Rattle.commands.proofs.write_commands.Goals as goal

pub loop-init : goal.loop-init
loop-init c =
    let s = c.args.book.now in
    let a = left_all s c.args.out.now c.args.at in
    (omega (arith, ap length (rest_all s), c.count-n.ensures), omega arith, refl, omega (arith, a.0), a.1)

pub returns-in_default : goal.returns-in_default
returns-in_default c =
    let s = c.args.book.now in
    let l = c.loop in
    absurd (not_bad s l.counter l.from (omega arith) (omega arith) (read_at s l.from c.read_command.ensures c.in_default.is))

pub write_command-to-requires : goal.write_command-to-requires
write_command-to-requires c =
    let s = c.args.book.now in
    let l = c.loop in
    let t = took s l.counter l.from (omega arith) (omega arith) (read_at s l.from c.read_command.ensures c.in-Some.is) refl in
    omega (arith, left_length s l.counter l.from t)

pub loop-preserved : goal.loop-preserved
loop-preserved c =
    let s = c.args.book.now in
    let l = c.loop in
    let w = c.write_command-to.ensures in
    let t = took s l.counter l.from (omega arith) (omega arith) (read_at s l.from c.read_command.ensures c.in-Some.is) c.size-from.ensures in
    let e = left_length s l.counter l.from t in
    (omega (arith, ap length t.left), t.inside, c.write_command-to.auto.out ∙ l.invariant.2, omega (arith, e, w.0), left_more s l.counter l.from l.out t (omega (arith, e)) w.0 w.1 ∙ l.invariant.4)

pub returns : goal.returns
returns c =
    let s = c.args.book.now in
    let l = c.loop in
    let e = left_none s l.counter l.from l.out l.to (omega arith) in
    (omega (arith, e.0), sym e.1 ∙ l.invariant.4)
