-- `decide` meets its contract, one law for each answer.
-- Assumes nothing.
use native.Mathlib.Omega.{arith}
use Rattle.entries.proofs.Prefix.{first_told}
use Rattle.recovery.proofs.Decided.{not_decided, decided_place, decided_from, is_decided}
use Rattle.recovery.proofs.decide.Goals as goal

pub standing_after-sources-requires : goal.standing_after-sources-requires
standing_after-sources-requires c =
    let s = c in
    let f = first_told s.args.log.now s.args.round s.args.k c.first_of-first.ensures in
    (s.requires.0, s.requires.1, s.requires.2, f.0, f.1)

pub returns-then-not-sources : goal.returns-then-not-sources
returns-then-not-sources c = let s = c in let a = s.args in not_decided a.table a.rows.now a.round a.log.now s.requires.0 a.k c.standing_after-sources.ensures c.if-not-sources.true

pub decided_sets-sets-requires : goal.decided_sets-sets-requires
decided_sets-sets-requires c =
    let s = c in
    let a = s.args in
    let f = first_told a.log.now a.round a.k c.first_of-first.ensures in
    let place = decided_place a.table a.rows.now a.round a.log.now s.requires.0 a.k c.standing_after-sources.ensures c.if-not-sources.false in
    let after = decided_from a.table a.rows.now a.round a.log.now s.requires.0 a.k c.standing_after-sources.ensures c.first_of-first.result f.1 c.if-not-sources.false in
    (s.requires.0, omega (arith, s.requires.1, place), after, f.1)

pub returns : goal.returns
returns c = let s = c in let a = s.args in is_decided a.table a.rows.now a.round a.log.now s.requires.0 a.k c.standing_after-sources.ensures c.if-not-sources.false c.decided_sets-sets.ensures
