-- `world::start`: the sites so far are fresh.
-- Assumes nothing.
use mathlib.Core.Path.{◌≡◌, ◌∙◌}
use Prim.Native.Nat.{◌*◌, ◌-◌, ◌+◌, ◌≤◌}
use native.Mathlib.Omega.{arith}
use borrow.Author.Rules.{rules}
use lib.ListN.{length}
use Rattle.layout.specs.Layout.{site_size}
use Rattle.world.proofs.AllFresh.{fresh-more, started}
use Rattle.world.proofs.Sites.{length_part}
use Rattle.world.proofs.start.Goals as goal

pub loop-i-preserved : goal.loop-i-preserved
loop-i-preserved c =
    let l = c.loop-i in
    let k = c in
    let e : (l.i * site_size + site_size) - l.i * site_size ≡ site_size = omega arith in
    let room : l.i * site_size + site_size ≤ length l.sites = omega arith in
    let size = k.fresh.auto.site ∙ length_part l.sites l.i ((l.i * site_size + site_size) - l.i * site_size) e room in (
      search rules,
      fresh-more _ l.sites l.i ((l.i * site_size + site_size) - l.i * site_size) _ e room size l.invariant.1 k.fresh.ensures,
    )

pub returns : goal.returns
returns c =
    let l = c.loop-i in
    let o = c in
    started o.args.table l.i (omega arith) (l.invariant.0 ∙ o.requires.0) l.invariant.1 c.clear.ensures
