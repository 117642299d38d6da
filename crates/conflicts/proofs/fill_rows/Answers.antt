-- `conflicts::fill_rows`: a row at each turn.
-- Rests on Laws.
use mathlib.Core.Path.{◌∙◌, refl}
use native.Mathlib.Omega.{arith}
use Rattle.commands.proofs.Walk.{few_commands}
use Rattle.conflicts.proofs.Laws.{empty_room, rows_start, rows_more, rows_end, still_placed}
use Rattle.conflicts.proofs.fill_rows.Goals as goal

pub loop-m-init : goal.loop-m-init
loop-m-init c =
    let a = c.args in
    let p = c.requires in
    let s = a.book.now in
    (refl, rows_start s a.noted.now a.n p.1 (omega (arith, few_commands s)) p.0, p.2)

pub row-found-requires : goal.row-found-requires
row-found-requires c =
    let a = c.args in
    let p = c.requires in
    (omega arith, p.3)

pub store-requires : goal.store-requires
store-requires c =
    let o = c in
    omega (arith, few_commands o.args.book.now, empty_room o.args.noted.now o.requires.0, c.loop-m.invariant.0)

pub loop-m-preserved : goal.loop-m-preserved
loop-m-preserved c =
    let a = c.args in
    let l = c.loop-m in
    let e = c.store.ensures in (
      c.store.auto.words ∙ l.invariant.0,
      rows_more a.book.now l.noted _ a.n l.m (omega arith) c.row-found.ensures e l.invariant.1,
      still_placed a.book.now l.noted l.m _ e l.invariant.2,
    )

pub returns : goal.returns
returns c =
    let a = c.args in
    let l = c.loop-m in
    rows_end a.book.now l.noted _ a.n l.m (omega arith) l.invariant.1

pub overflow_add-m : goal.overflow_add-m
overflow_add-m c = omega (arith, few_commands c.args.book.now)

pub invariant_of-read : goal.invariant_of-read
invariant_of-read c = record { counted = c.requires.1; placed = c.loop-m.invariant.2 }
