-- `with_entry` meets its contract, one law for each answer.
-- Assumes nothing.
use Prim.Native.Nat.{◌+◌}
use native.Mathlib.Omega.{arith}
use Rattle.table.proofs.Laws.{good_limits}
use Rattle.entries.specs.Entries.{entry_of}
use Rattle.standing.proofs.Steps.{other_round, no_site, entry_marked}
use Rattle.standing.proofs.with_entry.Goals as goal

pub returns-then-round_of-round : goal.returns-then-round_of-round
returns-then-round_of-round c =
    let a = c.args in
    λ rows f. other_round a.table rows a.round (a.k + 1) (entry_of a.log.now a.k) a.before c.round_of.ensures c.if-round_of-round.true

pub returns-then-site-table : goal.returns-then-site-table
returns-then-site-table c =
    let a = c.args in
    λ rows f. no_site a.table rows a.round (a.k + 1) (entry_of a.log.now a.k) a.before c.round_of.ensures c.if-round_of-round.false c.site_of-site.ensures (omega arith)

pub valid_after-valid-requires : goal.valid_after-valid-requires
valid_after-valid-requires c = let s = c in omega (arith, good_limits s.args.table s.requires.0)

pub with-requires : goal.with-requires
with-requires c = let s = c in omega (arith, good_limits s.args.table s.requires.0)

pub returns : goal.returns
returns c =
    let a = c.args in
    λ rows f. entry_marked a.table rows a.round (a.k + 1) (entry_of a.log.now a.k) a.before c.round_of.ensures c.if-round_of-round.false c.site_of-site.ensures (omega arith)
    (c.valid_after-valid.ensures rows (entry_of a.log.now a.k).nc f) c.with.ensures c.size.ensures c.n_chk.ensures
