-- `closings::fast_delivery`: one law for each answer.
-- Assumes nothing.
use mathlib.Core.Path.{sym, subst, ◌∙◌}
use native.Mathlib.Omega.{arith}
use Prim.Native.Nat.{ℕ, ◌+◌, ◌*◌, ◌-◌}
use Rattle.commands.specs.Book.{commands_of}
use Rattle.layout.specs.Layout.{site_size}
use Rattle.world.proofs.Sites.{at_site}
use Rattle.fast.specs.Fast.{FastDelivered}
use Rattle.closings.specs.Closings.{GoodSites}
use Rattle.closings.proofs.Closing.{good_part, sites_room, fast_no_site, fast_no_command, fast_role, fast_carried}
use Rattle.closings.proofs.fast_delivery.Goals as goal

pub returns-then-i-table : goal.returns-then-i-table
returns-then-i-table c =
    let a = c.args in
    fast_no_site a.rules.table (commands_of a.book.now.bytes.now) a.sites.now (λ k. (c.type_inv.sites k).fits) a.site a.command (omega arith)

pub returns-then-m-rules : goal.returns-then-m-rules
returns-then-m-rules c =
    let o = c in
    let a = o.args in
    fast_no_command a.rules.table (commands_of a.book.now.bytes.now) a.sites.now (λ k. (c.type_inv.sites k).fits) a.site a.command (omega arith) (sym a.book.now.counted ∙ o.requires.2) (omega arith)

pub returns-then-is_faulty : goal.returns-then-is_faulty
returns-then-is_faulty c =
    let o = c in
    let a = o.args in
    fast_role a.rules.table (commands_of a.book.now.bytes.now) a.sites.now (λ k. (c.type_inv.sites k).fits) a.site a.command (omega arith) (sym a.book.now.counted ∙ o.requires.2) (omega arith) c.is_faulty.ensures c.if-is_faulty.true

pub fast_delivery-requires : goal.fast_delivery-requires
fast_delivery-requires c =
    let o = c in
    let a = o.args in
    let good = subst (λ (n : ℕ). GoodSites a.rules.table n a.sites.now) (sym o.requires.2) o.requires.0 in
    (good_part a.rules.table a.book.now.len a.sites.now a.site ((a.site * site_size + site_size) - a.site * site_size) good (omega arith) (omega arith), o.requires.1, omega (arith, o.requires.2))

pub returns : goal.returns
returns c =
    let o = c in
    let a = o.args in
    fast_carried a.rules.table (commands_of a.book.now.bytes.now) a.sites.now (λ k. (c.slice_known-1.given k).fits) a.site a.command (omega arith) (sym a.book.now.counted ∙ o.requires.2) (omega arith) c.is_faulty.ensures c.if-is_faulty.false
    (at_site (λ b new. FastDelivered a.rules.table (commands_of a.book.now.bytes.now) a.command b c.fast_delivery.result new) a.sites.now a.site ((a.site * site_size + site_size) - a.site * site_size) _ (omega arith)
    (sites_room a.rules.table a.rules.commands a.sites.now a.site o.requires.0 (omega arith)) c.fast_delivery.auto.site c.fast_delivery.ensures)
