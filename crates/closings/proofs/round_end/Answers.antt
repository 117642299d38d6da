-- `closings::round_end`: one law for each answer.
-- Assumes nothing.
use mathlib.Core.Path.{sym, ap, subst, ◌∙◌}
use native.Mathlib.Omega.{arith}
use Prim.Native.Nat.{ℕ, ◌+◌, ◌*◌, ◌-◌, ◌<◌}
use Rattle.commands.specs.Book.{commands_of}
use Rattle.layout.specs.declared.Site.{Site}
use Rattle.layout.specs.Layout.{site_size}
use Rattle.ending.specs.Ending.{RoundEnded}
use Rattle.world.proofs.Sites.{at_site, head_at}
use Rattle.closings.specs.Closings.{GoodSites}
use Rattle.closings.proofs.Closing.{good_part, sites_room, round-kept, end_no_site, end_role, end_carried, site_told, sets_fit}
use Rattle.closings.proofs.round_end.Goals as goal

pub returns-then-i-table : goal.returns-then-i-table
returns-then-i-table c =
    let a = c.args in
    λ log k. end_no_site a.rules.table (commands_of a.book.now.bytes.now) a.sites.now (λ n. (c.type_inv.sites n).fits) a.site log a.kept.now.entries (omega arith)

pub returns-then-is_faulty : goal.returns-then-is_faulty
returns-then-is_faulty c =
    let a = c.args in
    let i : a.site < a.rules.table.sites = omega (arith, c.if-i-table.false) in
    λ log k. end_role a.rules.table (commands_of a.book.now.bytes.now) a.sites.now (λ n. (c.type_inv.sites n).fits) a.site log a.kept.now.entries i c.is_faulty.ensures c.if-is_faulty.true

pub decision-decision-requires : goal.decision-decision-requires
decision-decision-requires c =
    let o = c in
    let a = o.args in
    (round-kept a.rules.table a.rules.commands a.sites.now a.site o.requires.0 (omega arith) (ap (λ (h : Site). h.round) (c.read-header.ensures ∙ head_at a.sites.now a.site ((a.site * site_size + site_size) - a.site * site_size) (omega arith))))

pub round_end-requires : goal.round_end-requires
round_end-requires c =
    let o = c in
    let a = o.args in
    let i : a.site < a.rules.table.sites = omega (arith, c.if-i-table.false) in
    let k = (a.site * site_size + site_size) - a.site * site_size in
    let h = c.read-header.ensures ∙ head_at a.sites.now a.site k (omega arith) in
    let good = subst (λ (n : ℕ). GoodSites a.rules.table n a.sites.now) (sym o.requires.3) o.requires.0 in (
      (a.rules.table.sites, good_part a.rules.table a.book.now.len a.sites.now a.site k good i (omega arith)),
      sets_fit a.rules.table o.requires.2 a.book.now.bytes.now a.sites.now o.requires.1.0 o.requires.1.1 a.site i (λ z. (h z).position) (λ z. (h z).round) c.decision-decision.ensures a.book.now.len (sym a.book.now.counted),
    )

pub returns : goal.returns
returns c =
    let o = c in
    let a = o.args in
    let i : a.site < a.rules.table.sites = omega (arith, c.if-i-table.false) in
    let k = (a.site * site_size + site_size) - a.site * site_size in
    let h = c.read-header.ensures ∙ head_at a.sites.now a.site k (omega arith) in
    let d = c.decision-decision in
    let r = c.round_end in
    λ log g.
    end_carried a.rules.table (commands_of a.book.now.bytes.now) a.sites.now (λ n. (c.slice_known-1.given n).fits) a.site log a.kept.now.entries i c.is_faulty.ensures c.if-is_faulty.false d.result
    (site_told a.rules.table o.requires.2 a.book.now.bytes.now a.sites.now log g a.site i (λ z. (h z).position) (λ z. (h z).round) d.ensures)
    (at_site (λ b after. RoundEnded (commands_of a.book.now.bytes.now) d.result b r.result after) a.sites.now a.site k _ (omega arith)
    (sites_room a.rules.table a.rules.commands a.sites.now a.site o.requires.0 i) r.auto.site r.ensures)
