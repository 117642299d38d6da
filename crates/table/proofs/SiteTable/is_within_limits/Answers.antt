-- `SiteTable::is_within_limits` meets its contract: a law for each answer.
-- Assumes nothing.
use native.Mathlib.Omega.{arith}
use mathlib.Core.Path.{sym}
use Rattle.table.proofs.Laws.{no_site, many_sites, many_faults, few_sites, bit_beyond, bits-count}
use Rattle.table.proofs.SiteTable.is_within_limits.Goals as goal

pub returns-then-sites-lt1 : goal.returns-then-sites-lt1
returns-then-sites-lt1 c =
    let a = c.args in
    sym (no_site a.sites a.faults a.mask (omega arith))

pub returns-then-sites-gt-MAX_SITES : goal.returns-then-sites-gt-MAX_SITES
returns-then-sites-gt-MAX_SITES c =
    let a = c.args in
    sym (many_sites a.sites a.faults a.mask (omega arith) (omega arith))

pub returns-then-faults-gt-MAX_FAULTS : goal.returns-then-faults-gt-MAX_FAULTS
returns-then-faults-gt-MAX_FAULTS c =
    let a = c.args in
    sym (many_faults a.sites a.faults a.mask (omega arith) (omega arith) (omega arith))

pub returns-then-sites-faults : goal.returns-then-sites-faults
returns-then-sites-faults c =
    let a = c.args in
    sym (few_sites a.sites a.faults a.mask (omega arith) (omega arith) (omega arith) (omega arith))

pub returns-then-mask-sites-ne0 : goal.returns-then-mask-sites-ne0
returns-then-mask-sites-ne0 c =
    let a = c.args in
    sym (bit_beyond a.sites a.faults a.mask (omega arith) (omega arith) (omega arith) (omega arith) c.if-mask-sites-ne0.true)

pub returns : goal.returns
returns c =
    let a = c.args in
    sym (bits-count a.sites a.faults a.mask (omega arith) (omega arith) (omega arith) (omega arith) c.if-mask-sites-ne0.false)
