-- `commands::note`: command by command.
-- Rests on Noting.
use native.Mathlib.Omega.{arith}
use mathlib.Core.Path.{refl}
use lib.ListN.{length-set}
use Rattle.commands.proofs.Walk.{read_at, size_small, read_inside}
use Rattle.commands.proofs.Noting.{walk_all, walk_full, walk_end, walk_bad, walk_more}
use Rattle.commands.proofs.note.Goals as goal

pub loop-at-init : goal.loop-at-init
loop-at-init c = (refl, omega arith, omega arith, omega arith, refl, walk_all _ _)

pub returns-then-k-eq-MAX_COMMANDS : goal.returns-then-k-eq-MAX_COMMANDS
returns-then-k-eq-MAX_COMMANDS c = let l = c.loop-at in walk_full _ _ _ l.k l.at l.invariant.5 (omega arith) c.if-k-eq-MAX_COMMANDS.true

pub returns-in_err-command : goal.returns-in_err-command
returns-in_err-command c =
    let l = c.loop-at in
    rw c.from_residual.ensures (walk_bad _ _ _ l.k l.at l.invariant.5 (omega arith) (read_at _ l.at c.read_command.ensures c.in_err-command.was))

pub loop-at-smaller : goal.loop-at-smaller
loop-at-smaller c =
    let l = c.loop-at in
    omega (arith, c.size-at.ensures, size_small c.in_ok-command.command, read_inside c.args.book.now l.at (omega arith) c.read_command.ensures c.in_ok-command.was)

pub loop-at-preserved : goal.loop-at-preserved
loop-at-preserved c =
    let l = c.loop-at in
    let e = read_at _ l.at c.read_command.ensures c.in_ok-command.was in
    let i = read_inside c.args.book.now l.at (omega arith) c.read_command.ensures c.in_ok-command.was in (
      refl,
      omega (arith, c.size-at.ensures, i),
      omega arith,
      omega (arith, c.size-at.ensures, size_small c.in_ok-command.command),
      simp length-set l.invariant.4,
      walk_more _ _ _ l.k l.at l.invariant.5 (omega arith) (omega arith) e c.size-at.ensures,
    )

pub returns : goal.returns
returns c = let l = c.loop-at in walk_end _ _ _ l.k l.at l.invariant.5 (omega arith)
