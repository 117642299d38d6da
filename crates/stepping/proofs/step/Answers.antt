-- `stepping::step`: each kind by its function.
-- Assumes nothing.
use native.Mathlib.Omega.{arith}
use mathlib.Core.Path.{refl, sym, ap, ◌∙◌}
use lib.ListN.{length}
use Rattle.commands.specs.Book.{commands_of}
use Rattle.conflicts.proofs.Laws.{rows_size}
use Rattle.world.specs.Parts.{lent}
use Rattle.stepping.proofs.Arms.{is_arrival, arm, ready_as, read_to, good_sites, kept_log, few}
use Rattle.stepping.proofs.step.Goals as goal

pub false_entry-requires : goal.false_entry-requires
false_entry-requires c =
    let o = c in
    let a = o.args in
    let b = lent a.sites.now a.log.now a.kept.now.entries a.sent.now in
    (o.requires.0.room, o.requires.0.table, o.requires.2, ap length o.requires.0.conflicts ∙ rows_size a.book.now.bytes.now)

pub turn-requires : goal.turn-requires
turn-requires c =
    let o = c in
    let a = o.args in
    let b = lent a.sites.now a.log.now a.kept.now.entries a.sent.now in
    ((a.book.now.bytes.now, ready_as a.rules.table a.book.now.bytes.now b c.in-Turn.is refl o.requires.0), o.requires.2)

pub fast_delivery-requires : goal.fast_delivery-requires
fast_delivery-requires c =
    let o = c in
    let a = o.args in
    let b = lent a.sites.now a.log.now a.kept.now.entries a.sent.now in
    (good_sites a.rules.table a.book.now.bytes.now a.rules.commands b (sym a.book.now.counted ∙ o.requires.1) o.requires.0.world, o.requires.0.table, o.requires.1)

pub log_read-requires : goal.log_read-requires
log_read-requires c =
    let o = c in
    let a = o.args in
    let b = lent a.sites.now a.log.now a.kept.now.entries a.sent.now in
    let w = o.requires.0.world in
    (w.size, omega (arith, w.room, w.short, c.entries-entries.ensures))

pub round_end-requires : goal.round_end-requires
round_end-requires c =
    let o = c in
    let a = o.args in
    let b = lent a.sites.now a.log.now a.kept.now.entries a.sent.now in
    (good_sites a.rules.table a.book.now.bytes.now a.rules.commands b (sym a.book.now.counted ∙ o.requires.1) o.requires.0.world, (a.log.now, kept_log a.rules.table a.book.now.bytes.now a.rules.commands b (sym a.book.now.counted ∙ o.requires.1) o.requires.0.world o.requires.0.conflicts (λ k. (c.type_inv.log k).fits) refl o.requires.2), o.requires.0.table, o.requires.1)

pub arrive-requires : goal.arrive-requires
arrive-requires c =
    let o = c in
    let a = o.args in
    let b = lent a.sites.now a.log.now a.kept.now.entries a.sent.now in
    (o.requires.0.world.size, o.requires.0.table, o.requires.0.world.sent, few a.rules.table a.book.now.bytes.now a.rules.commands b (sym a.book.now.counted ∙ o.requires.1) o.requires.0.world)

pub returns-in-FalseEntry : goal.returns-in-FalseEntry
returns-in-FalseEntry c =
    let o = c in
    let a = o.args in
    let b = lent a.sites.now a.log.now a.kept.now.entries a.sent.now in
    let e = c.false_entry.ensures in (
      arm a.rules.table (commands_of a.book.now.bytes.now) b _ c.in-FalseEntry.is
          (e.0 (commands_of a.book.now.bytes.now) a.sites.now a.sent.now (sym o.requires.1 ∙ a.book.now.counted) o.requires.0.world (λ k. (c.type_inv.sites k).fits)),
      e.1,
    )

pub returns-in-Turn : goal.returns-in-Turn
returns-in-Turn c =
    let o = c in
    let a = o.args in
    let b = lent a.sites.now a.log.now a.kept.now.entries a.sent.now in
    let e = c.turn.ensures in
    (arm a.rules.table (commands_of a.book.now.bytes.now) b _ c.in-Turn.is (e.0 a.book.now.bytes.now (ready_as a.rules.table a.book.now.bytes.now b c.in-Turn.is refl o.requires.0)), e.1)

pub returns-in-FastDelivery : goal.returns-in-FastDelivery
returns-in-FastDelivery c =
    let o = c in
    let a = o.args in
    let b = lent a.sites.now a.log.now a.kept.now.entries a.sent.now in
    (arm a.rules.table (commands_of a.book.now.bytes.now) b _ c.in-FastDelivery.is (c.fast_delivery.ensures a.log.now a.kept.now.entries a.sent.now o.requires.0.world), o.requires.2)

pub returns-in-LogRead : goal.returns-in-LogRead
returns-in-LogRead c =
    let o = c in
    let a = o.args in
    let b = lent a.sites.now a.log.now a.kept.now.entries a.sent.now in
    (arm a.rules.table (commands_of a.book.now.bytes.now) b _ c.in-LogRead.is (read_to a.rules.table _ a.sites.now _ c.entries-entries.ensures c.log_read.ensures (commands_of a.book.now.bytes.now) a.log.now a.sent.now o.requires.0.world), o.requires.2)

pub returns-in-RoundEnd : goal.returns-in-RoundEnd
returns-in-RoundEnd c =
    let o = c in
    let a = o.args in
    let b = lent a.sites.now a.log.now a.kept.now.entries a.sent.now in
    (arm a.rules.table (commands_of a.book.now.bytes.now) b _ c.in-RoundEnd.is (c.round_end.ensures a.log.now (kept_log a.rules.table a.book.now.bytes.now a.rules.commands b (sym a.book.now.counted ∙ o.requires.1) o.requires.0.world o.requires.0.conflicts (λ k. (c.type_inv.log k).fits) refl o.requires.2) a.sent.now o.requires.0.world), o.requires.2)

pub returns-in_default : goal.returns-in_default
returns-in_default c =
    let o = c in
    let a = o.args in
    let b = lent a.sites.now a.log.now a.kept.now.entries a.sent.now in
    (c.arrive.ensures (is_arrival a.step c.in_default.in_default-own.keys6) (commands_of a.book.now.bytes.now) a.log.now a.kept.now.entries (sym o.requires.1 ∙ a.book.now.counted) o.requires.0.world, o.requires.2)
