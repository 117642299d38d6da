-- `register::changed`: each arm is the definition's row.
-- Assumes nothing.
use mathlib.Core.Path.{refl, ap, ◌∙◌}
use Prim.Native.Nat.{ℕ}
use lib.IntN.{ℤ, pos, ◌+ℤ◌}
use mir.Syntax.{w16}
use mir.Facts.{to_z-of_z}
use Rattle.register.specs.Register.{bike, held}
use Rattle.register.proofs.Laws.{change_of}
use borrow.Author.Rules.{rules}
use Rattle.register.proofs.changed.Goals as goal

pub returns-in-Add : goal.returns-in-Add
returns-in-Add c =
    let e = c.args.before in
    change_of e c.in-Add.is (ap (λ (n : ℕ). bike n e.dash) c.added.ensures)

pub returns-in-Fit : goal.returns-in-Fit
returns-in-Fit c = change_of c.args.before c.in-Fit.is refl

pub returns-in-Read : goal.returns-in-Read
returns-in-Read c = change_of c.args.before c.in-Read.is refl

pub returns-in-Trim : goal.returns-in-Trim
returns-in-Trim c =
    let e = c.args.before in
    change_of e c.in-Trim.is
    (ap (λ (n : ℕ). bike n e.dash) c.trimmed.ensures.0
    ∙ ap (λ (z : ℤ). bike (held (pos e.reading +ℤ z)) e.dash) (to_z-of_z {w = w16} {z = c.in-Trim.km} (search rules)))
