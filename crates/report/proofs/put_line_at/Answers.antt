-- `report::put_line_at`: nothing where the site is faulty, else its line.
-- Assumes nothing.
use native.Mathlib.Omega.{arith}
use mathlib.Core.Path.{◌≡◌, sym, subst, ◌∙◌}
use Prim.Native.Nat.{ℕ, ◌+◌, ◌*◌, ◌-◌}
use lib.ListN.{take, drop}
use Rattle.layout.specs.Layout.{site_size}
use Rattle.layout.specs.Layout.{site_at}
use Rattle.report.specs.Report.{Printable}
use Rattle.report.proofs.Laws.{faulty_line, correct_line}
use Rattle.report.proofs.put_line_at.Goals as goal

pub returns-then-is_faulty : goal.returns-then-is_faulty
returns-then-is_faulty c =
    let a = c.args in
    (faulty_line a.table a.sites.now a.i a.text.now (sym c.is_faulty.ensures ∙ c.if-is_faulty.true) (omega arith), omega arith)

pub put_site_line-requires : goal.put_site_line-requires
unfolding site_at
put_site_line-requires c =
    let a = c.args in
    let q : (a.i * site_size + site_size) - a.i * site_size ≡ site_size = omega arith in
    let p : Printable (site_at a.sites.now a.i) = c.requires.1 (sym c.is_faulty.ensures ∙ c.if-is_faulty.false) in
    (subst (λ (k : ℕ). Printable (take k (drop (a.i * site_size) a.sites.now))) (sym q) p, omega arith)

pub returns : goal.returns
returns c =
    let a = c.args in
    let q : (a.i * site_size + site_size) - a.i * site_size ≡ site_size = omega arith in
    let w = c.put_site_line.ensures in
    (correct_line a.table a.sites.now a.i (sym c.is_faulty.ensures ∙ c.if-is_faulty.false) q w.0, omega (arith, w.1))
