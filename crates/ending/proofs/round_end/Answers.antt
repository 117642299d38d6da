-- `ending::round_end`: the protocol's verdict, then what is due of both sets and the header of the next round.
-- Assumes nothing.
use mathlib.Core.Path.{sym, ◌∙◌}
use native.Mathlib.Omega.{arith}
use lib.ListN.{length}
use Rattle.std.proofs.lemmas.Result.{err_from_is_err_and}
use Rattle.commands.specs.Book.{commands_of}
use Rattle.commands.proofs.Walk.{few_commands}
use Rattle.ending.proofs.Next.{read_head}
use Rattle.ending.proofs.Closing.{ready, within-due, decided_within, round_undecided, round_refused, round-taken}
use Rattle.ending.proofs.round_end.Goals as goal

pub returns-in_default : goal.returns-in_default
returns-in_default c =
    let a = c.args in
    round_undecided (commands_of a.book.now.bytes.now) a.site.now (λ i. (c.type_inv.site i).fits) c.in_default.is

pub returns-in_err-judge : goal.returns-in_err-judge
returns-in_err-judge c =
    let s = c in
    let a = s.args in
    let known = c.in-Some.known_told-1-own.given.0.1.1 in
    let w = decided_within c.in-Some.sets c.in-Some.is (sym s.args.book.now.counted) s.requires.1 in
    let p = err_from_is_err_and c.from_residual.result c.from_residual.ensures.1 in
    rw (p.1, p.2)
    (λ t log g told.
    round_refused t (commands_of a.book.now.bytes.now) (few_commands a.book.now.bytes.now) a.site.now (λ i. (c.slice_known-1.given i).fits) g c.in-Some.sets
    known.0.1.1.0.1 known.1.0.1.1.0.1 w.0 w.1 c.in-Some.is log told (sym s.args.book.now.counted) c.read-header.ensures c.judge.ensures _ c.in_err-judge.was)

pub deliver_all-between-requires : goal.deliver_all-between-requires
deliver_all-between-requires c =
    let s = c in
    let a = s.args in
    let h = c.read-header.result in
    let few = few_commands a.book.now.bytes.now in
    let g = s.requires.0.1 in
    let en = (sym s.args.book.now.counted) in
    let room = ready h a.book.now.len c.in-Some.sets c.judge.ensures c.in_ok-judge.was c.due-first.ensures c.due-second.ensures in (
      g.size,
      g.tables.readings,
      a.book.now.placed,
      within-due h c.in-Some.sets.nc (length (commands_of a.book.now.bytes.now)) c.due-first.ensures (decided_within c.in-Some.sets c.in-Some.is en s.requires.1).0,
      omega arith,
    )

pub deliver_all-total-requires : goal.deliver_all-total-requires
deliver_all-total-requires c =
    let s = c in
    let a = s.args in
    let h = c.read-header.result in
    let few = few_commands a.book.now.bytes.now in
    let en = (sym s.args.book.now.counted) in
    let room = ready h a.book.now.len c.in-Some.sets c.judge.ensures c.in_ok-judge.was c.due-first.ensures c.due-second.ensures in
    let d = c.deliver_all-between.ensures in
    let e = d.0 in (
      d.1.size,
      d.1.readings,
      a.book.now.placed,
      within-due h c.in-Some.sets.c (length (commands_of a.book.now.bytes.now)) c.due-second.ensures (decided_within c.in-Some.sets c.in-Some.is en s.requires.1).1,
      omega arith,
    )

pub next_round-requires : goal.next_round-requires
next_round-requires c =
    let s = c in
    let d = c.deliver_all-total.ensures.1 in
    let l = read_head s.args.site.now s.requires.0.1 (λ i. (c.slice_known-1.given i).fits) c.read-header.ensures in
    (d.size, l.0, d.header ∙ c.deliver_all-between.ensures.1.header ∙ l.1)

pub returns : goal.returns
returns c =
    let s = c in
    let a = s.args in
    let known = c.in-Some.known_told-1-own.given.0.1.1 in
    let w = decided_within c.in-Some.sets c.in-Some.is (sym s.args.book.now.counted) s.requires.1 in
    λ t log g told.
    round-taken t (commands_of a.book.now.bytes.now) (few_commands a.book.now.bytes.now) a.site.now (λ i. (c.slice_known-1.given i).fits) g c.in-Some.sets
    known.0.1.1.0.1 known.1.0.1.1.0.1 w.0 w.1 c.in-Some.is log told (sym s.args.book.now.counted) c.read-header.ensures c.judge.ensures c.in_ok-judge.was
    c.due-first.ensures c.due-second.ensures c.deliver_all-between.ensures.0 c.deliver_all-between.ensures.1 c.deliver_all-total.ensures.0 c.deliver_all-total.ensures.1
    c.next_round.ensures (λ i. (c.type_inv.site i).fits)

pub overflow_cast-total : goal.overflow_cast-total
overflow_cast-total c =
    let s = c in
    let a = s.args in
    let few = few_commands a.book.now.bytes.now in
    let en = (sym s.args.book.now.counted) in
    let room = ready c.read-header.result a.book.now.len c.in-Some.sets c.judge.ensures c.in_ok-judge.was c.due-first.ensures c.due-second.ensures in
    let d = c.deliver_all-between.ensures.0 in
    let e = c.deliver_all-total.ensures.0 in
    record { fits = omega arith }
