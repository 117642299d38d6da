-- `fast::has_senders`: the invariant is that the senders so far are counted, and that they are too few.
-- Rests on Judging.
use mathlib.Core.Path.{◌≡◌}
use Prim.Native.Nat.{◌<◌}
use Rattle.theory.specs.Sets.{count}
use Rattle.layout.specs.Layout.{heard_of}
use Rattle.fast.proofs.has_senders.Given as goal

abbrev pub invariant-loop-sender : goal.invariant-loop-sender
invariant-loop-sender l = (l.n ≡ count l.sender (λ j. heard_of l.site j l.round l.m)) × (l.n < l.needed)
