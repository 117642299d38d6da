-- `lent::judge_header` asks what the definition asks, test by test.
-- Assumes nothing.
use mathlib.Core.Bool.{◌&&◌}
use mathlib.Core.Path.{ap, ◌∙◌}
use lib.Dec.{leb}
use Rattle.sets.specs.Sets.{within_of}
use Rattle.layout.specs.declared.Proposal.{Proposal}
use Rattle.layout.specs.Good.{good_head}
use Rattle.lent.proofs.judge_header.Goals as goal

pub returns : goal.returns
unfolding good_head
returns c =
    let h = c.args.header in
    let n = c.args.commands in
    let p = c.proposal-proposal.ensures in
    λ i. leb 1 h.round && leb h.round 33 && leb h.deliveries n && leb h.deliveries 64 && leb h.span 33
    && c.within.ensures i && c.within-2.ensures i && c.within-3.ensures i && c.within-4.ensures i
    && (c.within-5.ensures ∙ ap (λ (x : Proposal). within_of x.nc n) p) i && (c.within-6.ensures ∙ ap (λ (x : Proposal). within_of x.c n) p) i
