use mir.Syntax.{w16}
use Rattle.signed.proofs.Laws.{returned}
use native.Mathlib.Omega.{arith}
use mathlib.Core.Path.{refl}
use Rattle.commands.proofs.Laws.{too_short, no_bike, of_kind, add_whole, add_cut, fit_cut, fit_far, fit_whole, read_whole, trim_cut, trim_whole, no_kind}
use Rattle.commands.proofs.read_command.Goals as goal

pub returns-then-n-lt2 : goal.returns-then-n-lt2
returns-then-n-lt2 c = too_short _ (omega arith)

pub returns-then-bike : goal.returns-then-bike
returns-then-bike c = no_bike _ (omega arith) (omega arith)

pub returns-then-n-lt4 : goal.returns-then-n-lt4
returns-then-n-lt4 c = of_kind _ 1 (omega arith) (omega arith) c.in-1.is (add_cut _ (omega arith))

pub returns-then-n-lt10 : goal.returns-then-n-lt10
returns-then-n-lt10 c = of_kind _ 2 (omega arith) (omega arith) c.in-2.is (fit_cut _ (omega arith))

pub returns-then-start-gt-MAX_READING : goal.returns-then-start-gt-MAX_READING
returns-then-start-gt-MAX_READING c = of_kind _ 2 (omega arith) (omega arith) c.in-2.is (fit_far _ (omega arith) (omega arith))

pub returns-then-n-lt4-2 : goal.returns-then-n-lt4-2
returns-then-n-lt4-2 c = of_kind _ 4 (omega arith) (omega arith) c.in-4.is (trim_cut _ (omega arith))

pub returns-else-n-lt4 : goal.returns-else-n-lt4
returns-else-n-lt4 c = of_kind _ 1 (omega arith) (omega arith) c.in-1.is (add_whole _ (omega arith) c.get-km.ensures)

pub returns-else-start-gt-MAX_READING : goal.returns-else-start-gt-MAX_READING
returns-else-start-gt-MAX_READING c = of_kind _ 2 (omega arith) (omega arith) c.in-2.is (fit_whole _ (omega arith) (omega arith) c.get-dash.ensures c.get-start.ensures)

pub returns-in-3 : goal.returns-in-3
returns-in-3 c = of_kind _ 3 (omega arith) (omega arith) c.in-3.is (read_whole _)

pub returns-else-n-lt4-2 : goal.returns-else-n-lt4-2
returns-else-n-lt4-2 c =
    of_kind _ 4 (omega arith) (omega arith) c.in-4.is
    (trim_whole _ (omega arith) (returned w16 c.get-km-in-4.type_inv c.get-km-in-4.ensures))

pub returns-in_default : goal.returns-in_default
returns-in_default c = let r = c.in_default.in_default-own.rest in of_kind _ _ (omega arith) (omega arith) refl (no_kind _ _ r.0.0.0.1 r.0.0.1 r.0.1 r.1)
