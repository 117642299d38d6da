-- `arrivals::false_entry`: one law for each answer.
-- Assumes nothing.
use native.Mathlib.Omega.{arith}
use mathlib.Core.Path.{sym, ◌∙◌}
use Rattle.table.proofs.Laws.{good_limits}
use Rattle.entries.proofs.Judging.{in_range_told}
use Rattle.arrivals.proofs.Entering.{entry_out, entry_correct, entry_third, entered}
use mathlib.Core.Path.{ap}
use mathlib.Core.Bool.{not}
use Rattle.arrivals.proofs.false_entry.Goals as goal

pub returns-then-not-in_range : goal.returns-then-not-in_range
returns-then-not-in_range c =
    let o = c in
    let a = o.args in
    (entry_out a.rules.table a.rules.commands a.log.now a.kept.now.entries a.from a.round a.nc a.c c.in_range.ensures (ap not c.if-not-in_range.true), o.requires.2)

pub returns-then-not-is_faulty : goal.returns-then-not-is_faulty
returns-then-not-is_faulty c =
    let o = c in
    let a = o.args in
    (entry_correct a.rules.table a.rules.commands a.log.now a.kept.now.entries a.from a.round a.nc a.c c.in_range.ensures (ap not c.if-not-in_range.false) c.is_faulty.ensures (ap not c.if-not-is_faulty.true), o.requires.2)

pub third-requires : goal.third-requires
third-requires c =
    let o = c in
    let a = o.args in
    let p = in_range_told a.rules.table.sites a.rules.commands (record { site = a.from; round = a.round; nc = a.nc; c = a.c }) (sym c.in_range.ensures ∙ c.if-not-in_range.false) in
    let n = (good_limits a.rules.table o.requires.1).sites in
    (omega (arith, p.site), omega (arith, p.round))

pub returns-then-third : goal.returns-then-third
returns-then-third c =
    let o = c in
    let a = o.args in (
      entry_third a.rules.table a.rules.commands a.log.now a.kept.now.entries a.from a.round a.nc a.c c.in_range.ensures (ap not c.if-not-in_range.false) c.is_faulty.ensures (ap not c.if-not-is_faulty.false)
          (c.third.ensures a.rules.table a.rows.now a.log.now o.requires.2) c.if-third.true,
      o.requires.2,
    )

pub append-requires : goal.append-requires
append-requires c =
    let o = c in
    let a = o.args in
    let p = in_range_told a.rules.table.sites a.rules.commands (record { site = a.from; round = a.round; nc = a.nc; c = a.c }) (sym c.in_range.ensures ∙ c.if-not-in_range.false) in
    (o.requires.1, o.requires.2, omega (arith, o.requires.0), o.requires.3, p.site, omega (arith, p.round))

pub returns : goal.returns
returns c =
    let o = c in
    let a = o.args in
    let e = c.append.ensures in
    let p = in_range_told a.rules.table.sites a.rules.commands (record { site = a.from; round = a.round; nc = a.nc; c = a.c }) (sym c.in_range.ensures ∙ c.if-not-in_range.false) in
    let l = p.round in (
      entered a.rules.table a.rules.commands a.log.now a.kept.now.entries a.from a.round a.nc a.c c.in_range.ensures (ap not c.if-not-in_range.false) c.is_faulty.ensures (ap not c.if-not-is_faulty.false)
          (c.third.ensures a.rules.table a.rows.now a.log.now o.requires.2) c.if-third.false
          (record { site = omega arith; round = omega arith; nc = o.well_formed.1.1.1.1.1.1.0.1.1.0.1; c = o.well_formed.1.1.1.1.1.1.1.0.1.1.0.1 }) o.requires.0 e.0 e.1,
      e.2,
    )
