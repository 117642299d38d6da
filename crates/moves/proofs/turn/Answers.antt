-- `moves::turn`: one law for each answer.
-- Assumes nothing.
use native.Mathlib.Omega.{arith}
use mathlib.Core.Path.{refl, ap, ◌∙◌}
use Prim.Native.Nat.{◌+◌, ◌*◌, ◌-◌, ◌<◌}
use lib.ListN.{length}
use Rattle.std.specs.Prelude.{Ok}
use Rattle.std.proofs.lemmas.Result.{err_from_is_err_and}
use Rattle.layout.specs.declared.Site.{Site}
use Rattle.layout.specs.Layout.{site_size}
use Rattle.world.specs.Parts.{lent}
use Rattle.world.proofs.Sites.{at_site, length_part, head_at}
use Rattle.conflicts.proofs.Laws.{rows_size}
use Rattle.moves.specs.Moves.{TurnedBy}
use Rattle.moves.proofs.Turns.{turn_range, turn_role, round_told, turn_refused, room_told, acknowledged, proposed}
use Rattle.moves.proofs.turn.Goals as goal

pub returns-then-i-table : goal.returns-then-i-table
returns-then-i-table c =
    let o = c in
    let a = o.args in
    let b = lent a.sites.now a.log.now a.kept.now.entries a.sent.now in
    ((λ book ready. turn_range a.rules.table book a.rows.now b a.site ready (λ k. (c.type_inv.sites k).fits) (omega arith)), o.requires.1)

pub returns-then-is_faulty : goal.returns-then-is_faulty
returns-then-is_faulty c =
    let o = c in
    let a = o.args in
    let b = lent a.sites.now a.log.now a.kept.now.entries a.sent.now in
    ((λ book ready. turn_role a.rules.table book a.rows.now b a.site ready (λ k. (c.type_inv.sites k).fits) (omega arith) c.is_faulty.ensures c.if-is_faulty.true), o.requires.1)

pub read-header-requires : goal.read-header-requires
read-header-requires c =
    let o = c in
    let a = o.args in
    length_part a.sites.now a.site ((a.site * site_size + site_size) - a.site * site_size) (omega arith) (omega (arith, o.requires.0.1.world.size))

pub turn_by-requires : goal.turn_by-requires
turn_by-requires c =
    let o = c in
    let a = o.args in
    let b = lent a.sites.now a.log.now a.kept.now.entries a.sent.now in
    let i : a.site < a.rules.table.sites = omega (arith, c.if-i-table.false) in
    let e = ap (λ (h : Site). h.round) (c.read-header.ensures ∙ head_at a.sites.now a.site ((a.site * site_size + site_size) - a.site * site_size) (omega arith)) in
    let p = round_told a.rules.table o.requires.0.0 a.rows.now b a.site o.requires.0.1 (λ k. (c.slice_known-1.given k).fits) i e in (
      length_part a.sites.now a.site ((a.site * site_size + site_size) - a.site * site_size) (omega arith) (omega (arith, o.requires.0.1.world.size)),
      ap length o.requires.0.1.conflicts ∙ rows_size o.requires.0.0,
      p.2,
      omega (arith, p.1, ap (λ (h : Site). h.round) c.read-header.ensures),
    )

pub add_acknowledgment-requires : goal.add_acknowledgment-requires
add_acknowledgment-requires c =
    let o = c in
    let a = o.args in
    let b = lent a.sites.now a.log.now a.kept.now.entries a.sent.now in
    let i : a.site < a.rules.table.sites = omega (arith, c.if-i-table.false) in
    let e = ap (λ (h : Site). h.round) (c.read-header.ensures ∙ head_at a.sites.now a.site ((a.site * site_size + site_size) - a.site * site_size) (omega arith)) in
    let p = round_told a.rules.table o.requires.0.0 a.rows.now b a.site o.requires.0.1 (λ k. (c.slice_known-1.given k).fits) i e in
    let h = at_site (TurnedBy a.rows.now a.kept.now a.site c.turn_by.result) a.sites.now a.site ((a.site * site_size + site_size) - a.site * site_size) _ (omega arith)
    (omega (arith, i, o.requires.0.1.world.size)) c.turn_by.auto.site c.turn_by.ensures in (
      o.requires.0.1.world.sent,
      p.2,
      p.0,
      p.1,
      room_told a.rules.table o.requires.0.0 a.rows.now b a.site o.requires.0.1 (λ k. (c.slice_known-1.given k).fits) i c.is_faulty.ensures c.if-is_faulty.false refl o.requires.1 h _ (c.in_ok-turn.was ∙ ap Ok c.in-Acknowledged.is) _ e,
    )

pub put_check-requires : goal.put_check-requires
put_check-requires c =
    let o = c in
    let a = o.args in
    let b = lent a.sites.now a.log.now a.kept.now.entries a.sent.now in
    let i : a.site < a.rules.table.sites = omega (arith, c.if-i-table.false) in
    let e = ap (λ (h : Site). h.round) (c.read-header.ensures ∙ head_at a.sites.now a.site ((a.site * site_size + site_size) - a.site * site_size) (omega arith)) in
    let p = round_told a.rules.table o.requires.0.0 a.rows.now b a.site o.requires.0.1 (λ k. (c.slice_known-1.given k).fits) i e in
    (o.requires.0.1.world.sent, p.2, p.0, p.1)

pub append-requires : goal.append-requires
append-requires c =
    let o = c in
    let a = o.args in
    let b = lent a.sites.now a.log.now a.kept.now.entries a.sent.now in
    let i : a.site < a.rules.table.sites = omega (arith, c.if-i-table.false) in
    let e = ap (λ (h : Site). h.round) (c.read-header.ensures ∙ head_at a.sites.now a.site ((a.site * site_size + site_size) - a.site * site_size) (omega arith)) in
    let p = round_told a.rules.table o.requires.0.0 a.rows.now b a.site o.requires.0.1 (λ k. (c.slice_known-1.given k).fits) i e in
    (o.requires.0.1.table, o.requires.1, omega (arith, o.requires.0.1.room), ap length o.requires.0.1.conflicts ∙ rows_size o.requires.0.0, i, omega (arith, p.1))

pub returns-in_err-turn : goal.returns-in_err-turn
returns-in_err-turn c =
    let o = c in
    let a = o.args in
    let b = lent a.sites.now a.log.now a.kept.now.entries a.sent.now in
    let i : a.site < a.rules.table.sites = omega (arith, c.if-i-table.false) in
    let h = at_site (TurnedBy a.rows.now a.kept.now a.site c.turn_by.result) a.sites.now a.site ((a.site * site_size + site_size) - a.site * site_size) _ (omega arith)
    (omega (arith, i, o.requires.0.1.world.size)) c.turn_by.auto.site c.turn_by.ensures in
    let p = err_from_is_err_and c.from_residual.result c.from_residual.ensures.1 in
    rw (p.1, p.2) ((λ book ready. turn_refused a.rules.table book a.rows.now b a.site ready (λ k. (c.slice_known-1.given k).fits) i c.is_faulty.ensures c.if-is_faulty.false refl o.requires.1 h _ c.in_err-turn.was), o.requires.1)

pub returns-in-Acknowledged : goal.returns-in-Acknowledged
returns-in-Acknowledged c =
    let o = c in
    let a = o.args in
    let b = lent a.sites.now a.log.now a.kept.now.entries a.sent.now in
    let i : a.site < a.rules.table.sites = omega (arith, c.if-i-table.false) in
    let e = ap (λ (h : Site). h.round) (c.read-header.ensures ∙ head_at a.sites.now a.site ((a.site * site_size + site_size) - a.site * site_size) (omega arith)) in
    let h = at_site (TurnedBy a.rows.now a.kept.now a.site c.turn_by.result) a.sites.now a.site ((a.site * site_size + site_size) - a.site * site_size) _ (omega arith)
    (omega (arith, i, o.requires.0.1.world.size)) c.turn_by.auto.site c.turn_by.ensures in (
      (λ book ready. acknowledged a.rules.table book a.rows.now b a.site ready (λ k. (c.slice_known-1.given k).fits) i c.is_faulty.ensures c.if-is_faulty.false refl o.requires.1 h _ (c.in_ok-turn.was ∙ ap Ok c.in-Acknowledged.is) _ e
          c.add_acknowledgment.ensures),
      o.requires.1,
    )

pub returns-in-Proposed : goal.returns-in-Proposed
returns-in-Proposed c =
    let o = c in
    let a = o.args in
    let b = lent a.sites.now a.log.now a.kept.now.entries a.sent.now in
    let i : a.site < a.rules.table.sites = omega (arith, c.if-i-table.false) in
    let e = ap (λ (h : Site). h.round) (c.read-header.ensures ∙ head_at a.sites.now a.site ((a.site * site_size + site_size) - a.site * site_size) (omega arith)) in
    let h = at_site (TurnedBy a.rows.now a.kept.now a.site c.turn_by.result) a.sites.now a.site ((a.site * site_size + site_size) - a.site * site_size) _ (omega arith)
    (omega (arith, i, o.requires.0.1.world.size)) c.turn_by.auto.site c.turn_by.ensures in
    let w = c.append.ensures in (
      (λ book ready. proposed a.rules.table book a.rows.now b a.site ready (λ k. (c.slice_known-1.given k).fits) i c.is_faulty.ensures c.if-is_faulty.false refl o.requires.1 h _ _ (c.in_ok-turn.was ∙ ap Ok c.in-Proposed.is) _ e
          c.put_check.ensures w.0 w.1),
      w.2,
    )
