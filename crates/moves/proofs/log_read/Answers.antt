-- `moves::log_read`: one law for each answer.
-- Assumes nothing.
use borrow.Author.Rules.{rules}
use native.Mathlib.Omega.{arith}
use mathlib.Core.Path.{ap, ◌∙◌}
use Prim.Native.Nat.{◌+◌, ◌*◌, ◌-◌}
use lib.Dec.{ltb}
use mathlib.Core.Bool.{false}
use Rattle.layout.specs.declared.Site.{Site}
use Rattle.layout.specs.Layout.{site_size}
use Rattle.site.specs.Steps.{ReadEntry}
use Rattle.world.proofs.Sites.{at_site, head_at}
use Rattle.moves.proofs.LogReads.{read_range, read_role, read_carried, position_room}
use Rattle.moves.proofs.log_read.Goals as goal

pub returns-then-i-table : goal.returns-then-i-table
returns-then-i-table c =
    let a = c.args in
    read_range a.rules.table a.site a.entries a.sites.now (λ k. (c.type_inv.sites k).fits) (omega arith)

pub returns-then-is_faulty : goal.returns-then-is_faulty
returns-then-is_faulty c =
    let a = c.args in
    read_role a.rules.table a.site a.entries a.sites.now (λ k. (c.type_inv.sites k).fits) (omega arith) c.is_faulty.ensures c.if-is_faulty.true

pub read_entry-requires : goal.read_entry-requires
read_entry-requires c =
    let o = c in
    (search rules, λ h. position_room o.args.entries o.requires.1 (ap (λ (x : Site). x.position) c.read-header.ensures) h)

pub returns : goal.returns
returns c =
    let o = c in
    let a = o.args in
    read_carried a.rules.table a.site a.entries a.sites.now (λ k. (c.slice_known-1.given k).fits) (omega arith) c.is_faulty.ensures c.if-is_faulty.false
    (ap (λ (h : Site). h.position) (c.read-header.ensures ∙ head_at a.sites.now a.site ((a.site * site_size + site_size) - a.site * site_size) (omega arith)))
    (at_site (λ b new. ReadEntry (ltb c.read-header.result.position a.entries) false b c.read_entry.result new) a.sites.now a.site ((a.site * site_size + site_size) - a.site * site_size) _ (omega arith) (omega arith)
    c.read_entry.auto.site c.read_entry.ensures)
