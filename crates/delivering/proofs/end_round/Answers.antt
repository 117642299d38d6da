-- `delivering::end_round`: the round ends as the entries that the site has read decide it.
-- Assumes nothing.
use mathlib.Core.Path.{sym, ap, ◌∙◌}
use native.Mathlib.Omega.{arith}
use lib.ListN.{length}
use Rattle.conflicts.proofs.Laws.{rows_size, rows-room, rows-rest}
use Rattle.layout.specs.declared.Site.{Site}
use Rattle.delivering.proofs.Laws.{decided_by, within-sets, ended_as_decided}
use Rattle.delivering.proofs.end_round.Goals as goal

pub decide-decision-requires : goal.decide-decision-requires
decide-decision-requires c =
    let o = c in
    let a = o.args in
    let p = o.requires in
    let r = p.2.rows in
    (p.1, omega (arith, p.4, ap (λ (h : Site). h.position) c.read-header.ensures), ap length (rows-rest a.book.now a.noted.now r ∙ r) ∙ rows_size a.book.now)

pub round_end-requires : goal.round_end-requires
round_end-requires c =
    let o = c in
    let a = o.args in
    let p = o.requires in
    let d = decided_by a.rules.table a.book.now a.log.now a.site.now (rows-rest a.book.now a.noted.now p.2.rows ∙ p.2.rows) (ap (λ (h : Site). h.position) c.read-header.ensures) (ap (λ (h : Site). h.round) c.read-header.ensures) c.decide-decision.ensures in (
      (a.rules.table.sites, p.0),
      within-sets a.rules.table p.1 a.book.now a.log.now a.site.now p.3 (λ i. (c.type_inv.log i).fits) p.4 p.5 d,
    )

pub returns : goal.returns
returns c =
    let o = c in
    let a = o.args in
    let p = o.requires in
    let d = decided_by a.rules.table a.book.now a.log.now a.site.now (rows-rest a.book.now a.noted.now p.2.rows ∙ p.2.rows) (ap (λ (h : Site). h.position) c.read-header.ensures) (ap (λ (h : Site). h.round) c.read-header.ensures) c.decide-decision.ensures in
    ended_as_decided a.rules.table p.1 a.book.now a.log.now a.site.now p.3 (λ i. (c.type_inv.log i).fits) p.4 p.5 d p.0 c.round_end.ensures

pub slice_bounds-rows-count : goal.slice_bounds-rows-count
slice_bounds-rows-count c = omega (arith, rows-room c.args.book.now c.args.noted.now c.requires.2.rows)

pub slice_bounds-rows-start : goal.slice_bounds-rows-start
slice_bounds-rows-start c = omega (arith, rows-room c.args.book.now c.args.noted.now c.requires.2.rows)

pub invariant_of-book : goal.invariant_of-book
invariant_of-book c = record { counted = sym c.requires.3; placed = c.requires.2.places }
