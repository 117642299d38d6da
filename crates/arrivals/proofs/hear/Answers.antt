-- `arrivals::hear`: the part of site i is lent.
-- Assumes nothing.
use Prim.Native.Nat.{◌+◌, ◌*◌, ◌-◌}
use native.Mathlib.Omega.{arith}
use Rattle.site.specs.Steps.{Heard}
use Rattle.layout.specs.Layout.{site_size}
use Rattle.world.proofs.Sites.{at_site}
use Rattle.arrivals.proofs.hear.Goals as goal

pub returns : goal.returns
returns c =
    let o = c in
    at_site (Heard o.args.j o.args.r o.args.set) o.args.sites.now o.args.i ((o.args.i * site_size + site_size) - o.args.i * site_size) _ (omega arith) (omega arith)
    c.hear.auto.site c.hear.ensures
