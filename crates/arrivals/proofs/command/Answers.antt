-- `arrivals::command`: one law for each answer.
-- Assumes nothing.
use Prim.Native.Nat.{◌+◌, ◌*◌, ◌-◌}
use native.Mathlib.Omega.{arith}
use Rattle.site.specs.Steps.{Commanded}
use Rattle.layout.specs.Layout.{site_size}
use Rattle.world.proofs.Sites.{at_site}
use Rattle.arrivals.proofs.Arriving.{no_site, no_command, faulty_site, commanded}
use Rattle.arrivals.proofs.command.Goals as goal

pub returns-then-i-table : goal.returns-then-i-table
returns-then-i-table c =
    let a = c.args in
    λ sent. no_site a.rules.table a.rules.commands sent a.sites.now (λ k. (c.type_inv.sites k).fits) a.site a.command (omega arith)

pub returns-then-m-rules : goal.returns-then-m-rules
returns-then-m-rules c =
    let a = c.args in
    λ sent. no_command a.rules.table a.rules.commands sent a.sites.now (λ k. (c.type_inv.sites k).fits) a.site a.command (omega arith) (omega arith)

pub returns-then-is_faulty : goal.returns-then-is_faulty
returns-then-is_faulty c =
    let a = c.args in
    λ sent. faulty_site a.rules.table a.rules.commands sent a.sites.now (λ k. (c.type_inv.sites k).fits) a.site a.command (omega arith) (omega arith) c.is_faulty.ensures c.if-is_faulty.true

pub returns : goal.returns
returns c =
    let a = c.args in
    λ sent. commanded a.rules.table a.rules.commands sent a.sites.now (λ k. (c.slice_known-1.given k).fits) a.site a.command (omega arith) (omega arith) c.is_faulty.ensures c.if-is_faulty.false
    (at_site (Commanded a.command) a.sites.now a.site ((a.site * site_size + site_size) - a.site * site_size) _ (omega arith) (omega arith)
    c.receive_command.auto.site c.receive_command.ensures)
