-- `fast::judge`: each test of the code is one of the protocol's demands, in their order.
-- Rests on Judging.
use mathlib.Core.Path.{ap}
use native.Mathlib.Omega.{arith}
use Rattle.table.proofs.Laws.{good_limits}
use Rattle.layout.specs.declared.Site.{Site}
use Rattle.fast.proofs.Judging.{silent_senders, not_open, too_few, no_room, all_met}
use Rattle.fast.proofs.judge.Goals as goal

pub returns-then-not-holds : goal.returns-then-not-holds
returns-then-not-holds c =
    let s = c in
    let a = s.args in
    λ book el. not_open a.table book a.site.now a.m s.requires.1 c.without-open.ensures c.holds.ensures c.if-not-holds.true

pub has_senders-requires : goal.has_senders-requires
has_senders-requires c =
    let s = c in
    let g = s.requires.0 in
    let e = ap (λ (h : Site). h.round) s.requires.1 in
    let l = good_limits s.args.table s.requires.2 in
    (g.size, s.requires.1, omega (arith, g.head.first), omega (arith, g.head.last), s.requires.3, omega (arith, c.n_ack.ensures, l.enough))

pub returns-then-not-has_senders : goal.returns-then-not-has_senders
returns-then-not-has_senders c =
    let s = c in
    let a = s.args in
    let l = good_limits a.table s.requires.2 in
    let silent = silent_senders a.site.now a.header.round a.m s.requires.0 l.sites in
    λ book el.
    too_few a.table book a.site.now a.m s.requires.1 c.without-open.ensures c.holds.ensures c.if-not-holds.false
    c.n_ack.ensures c.has_senders.ensures silent c.if-not-has_senders.true

pub returns-then-recorded-commands : goal.returns-then-recorded-commands
returns-then-recorded-commands c =
    let s = c in
    let a = s.args in
    let l = good_limits a.table s.requires.2 in
    let silent = silent_senders a.site.now a.header.round a.m s.requires.0 l.sites in
    λ book el.
    no_room a.table book a.site.now a.m s.requires.1 c.without-open.ensures c.holds.ensures c.if-not-holds.false
    c.n_ack.ensures c.has_senders.ensures silent c.if-not-has_senders.false (let h = c.if-recorded-commands.true in omega arith)

pub returns : goal.returns
returns c =
    let s = c in
    let a = s.args in
    let l = good_limits a.table s.requires.2 in
    let silent = silent_senders a.site.now a.header.round a.m s.requires.0 l.sites in
    λ book el.
    all_met a.table book a.site.now a.m s.requires.1 c.without-open.ensures c.holds.ensures c.if-not-holds.false
    c.n_ack.ensures c.has_senders.ensures silent c.if-not-has_senders.false (let h = c.if-recorded-commands.false in omega arith)
