-- `Rounds::append` meets its contract: the entry is written, taken in and counted.
-- Assumes nothing.
use mathlib.Core.Path.{refl, sym, ap, subst}
use Prim.Native.Nat.{◌+◌, ◌<◌}
use native.Mathlib.Omega.{arith}
use Rattle.table.proofs.Laws.{good_limits}
use Rattle.entries.specs.declared.Entry.{Entry}
use Rattle.rounds.proofs.Keeping.{kept-written, new_entry, kept_more}
use Rattle.rounds.proofs.Rounds.append.Goals as goal

pub write_entry-requires : goal.write_entry-requires
write_entry-requires c =
    let l = (good_limits c.args.table c.requires.0).sites in
    (c.requires.2, omega (arith, c.requires.4), omega (arith, c.requires.5))

pub enter-requires : goal.enter-requires
enter-requires c =
    let a = c.args in
    let l = (good_limits a.table c.requires.0).sites in
    let ew = c.write_entry.ensures in
    let k = a.self.now.entries in
    let h = kept-written a.table a.rows.now a.log.now k a.self.now a.entry ew c.requires.2 c.requires.1 in
    let e = new_entry a.log.now k a.entry ew c.requires.2
    (record { site = omega (arith, c.requires.4); round = omega (arith, c.requires.5); nc = omega arith; c = omega arith }) in (
      c.requires.0,
      omega (arith, c.requires.2, c.write_entry.auto.log),
      h.counts a.entry.round c.requires.5,
      h.decides a.entry.round c.requires.5,
      c.requires.3,
      subst (λ (x : Entry). x.site < a.table.sites) (sym e) c.requires.4,
      ap (λ (x : Entry). x.round) e,
    )

pub returns : goal.returns
returns c =
    let a = c.args in
    let l = (good_limits a.table c.requires.0).sites in
    let ew = c.write_entry.ensures in
    let k = a.self.now.entries in
    let h = kept-written a.table a.rows.now a.log.now k a.self.now a.entry ew c.requires.2 c.requires.1 in
    let e = new_entry a.log.now k a.entry ew c.requires.2
    (record { site = omega (arith, c.requires.4); round = omega (arith, c.requires.5); nc = omega arith; c = omega arith }) in (
      ew,
      refl,
      kept_more a.table a.rows.now c.write_entry.new.log k a.entry.round a.self.now c.enter.new.self (k + 1) c.requires.0 (omega arith) c.requires.5
          (ap (λ (x : Entry). x.round) e) h c.enter.ensures.0 c.enter.ensures.1,
    )
