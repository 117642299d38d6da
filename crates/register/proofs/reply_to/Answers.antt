-- `register::reply_to`: each arm is the definition's row.
-- Assumes nothing.
use mathlib.Core.Path.{refl, ap, ◌∙◌}
use mathlib.Core.Logic.{inl, inr}
use native.Mathlib.Omega.{arith}
use Prim.Native.Nat.{ℕ}
use lib.IntN.{ℤ, pos, ◌+ℤ◌, ◌-ℤ◌}
use mir.Syntax.{w16, w32}
use mir.Facts.{to_z-of_z, to_z_pos}
use Rattle.signed.proofs.Laws.{returned}
use Rattle.register.specs.Register.{held}
use Rattle.register.proofs.Laws.{reply_of}
use borrow.Author.Rules.{rules}
use Rattle.register.proofs.reply_to.Goals as goal

pub returns-in-Add : goal.returns-in-Add
returns-in-Add c = reply_of c.args.before c.in-Add.is refl

pub returns-in-Fit : goal.returns-in-Fit
returns-in-Fit c =
    let e = c.args.before in
    let q = to_z_pos w32 {n = e.reading} (omega arith) in
    elim c.in-Fit.is [ inl w ↦ reply_of e w.3 q | inr w ↦ reply_of e w.1 q ]

pub returns-in-Trim : goal.returns-in-Trim
returns-in-Trim c =
    let e = c.args.before in
    reply_of e c.in-Trim.is
    (returned w32 c.difference.type_inv (c.difference.ensures ∙ ap (λ (n : ℕ). pos n -ℤ pos e.reading) c.trimmed.ensures.0
    ∙ ap (λ (z : ℤ). pos (held (pos e.reading +ℤ z)) -ℤ pos e.reading) (to_z-of_z {w = w16} {z = c.in-Trim.km} (search rules))))
