-- `fast::fast_delivery`: the protocol's verdict, then one delivery and the two fields that it changes.
-- Assumes nothing.
use mathlib.Core.Path.{sym, subst}
use Prim.Native.Nat.{ℕ, ◌<◌}
use native.Mathlib.Omega.{arith}
use Rattle.std.proofs.lemmas.Result.{err_from_is_err_and}
use Rattle.layout.specs.Good.{Good}
use Rattle.commands.proofs.Walk.{few_commands}
use Rattle.commands.specs.Book.{commands_of}
use Rattle.fast.proofs.Bytes.{fast_space, fast_refused, fast_taken}
use Rattle.fast.proofs.fast_delivery.Goals as goal

pub judge-requires : goal.judge-requires
judge-requires c =
    let s = c in
    let few = few_commands s.args.book.now.bytes.now in
    (s.requires.0, c.read-header.ensures, s.requires.1, omega (arith, s.args.book.now.counted, s.requires.2))

pub returns-in_err-judge : goal.returns-in_err-judge
returns-in_err-judge c =
    let s = c in
    let a = s.args in
    let p = err_from_is_err_and c.from_residual.result c.from_residual.ensures.1 in
    let book = commands_of a.book.now.bytes.now in
    let g = subst (λ (n : ℕ). Good a.table.sites n a.site.now) s.args.book.now.counted s.requires.0 in
    rw (p.1, p.2) (fast_refused a.table book a.site.now (λ i. (c.slice_known-1.given i).fits) g a.m _ (c.judge.ensures book (sym s.args.book.now.counted)) c.in_err-judge.was)

pub deliver-requires : goal.deliver-requires
deliver-requires c =
    let s = c in
    let a = s.args in
    let book = commands_of a.book.now.bytes.now in
    let few = few_commands a.book.now.bytes.now in
    let g = subst (λ (n : ℕ). Good a.table.sites n a.site.now) s.args.book.now.counted s.requires.0 in
    let m = subst (λ (n : ℕ). a.m < n) s.args.book.now.counted s.requires.2 in (
      g.size,
      g.tables.readings,
      a.book.now.placed,
      m,
      fast_space a.table book a.site.now (λ i. (c.slice_known-1.given i).fits) g a.m few (c.judge.ensures book (sym s.args.book.now.counted)) c.in_ok-judge.was (λ i. (c.read-header.ensures i).deliveries),
    )

pub with-requires : goal.with-requires
with-requires c =
    let s = c in
    let few = few_commands s.args.book.now.bytes.now in
    omega (arith, s.args.book.now.counted, s.requires.2)

pub returns : goal.returns
returns c =
    let s = c in
    let a = s.args in
    let book = commands_of a.book.now.bytes.now in
    let few = few_commands a.book.now.bytes.now in
    let g = subst (λ (n : ℕ). Good a.table.sites n a.site.now) s.args.book.now.counted s.requires.0 in
    let m = subst (λ (n : ℕ). a.m < n) s.args.book.now.counted s.requires.2 in
    let e = c.read-header.ensures in
    fast_taken a.table book a.site.now (λ i. (c.slice_known-1.given i).fits) g a.m few m (c.judge.ensures book (sym s.args.book.now.counted))
    c.in_ok-judge.was (λ i. (e i).deliveries) (λ i. (e i).fast) c.deliver.ensures c.with.ensures
    c.write.ensures c.put.ensures (λ i. (c.type_inv.site i).fits)
