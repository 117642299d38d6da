-- What holds of the world after every list of steps.
-- Rests on the modules of its parts.
use Rattle.std.specs.Prelude.{ℕ, List}
use Rattle.protocol.specs.System.{System}
use Rattle.protocol.specs.World.{World, Step, start, demands, change, step, play}
use Rattle.protocol.specs.Steps.{Met, step_keeps, play_keeps}
use Rattle.agreement.specs.History.{AllSettled, settled-start, settled_keeps}
use Rattle.agreement.specs.Pending.{AllPending, pending_start, pending_keeps}
use Rattle.agreement.specs.Promises.{Promises, promises_start, promises_keep}
use Rattle.agreement.specs.Heard.{AllHeard, heard_start, heard_keeps}
use Rattle.agreement.specs.Acked.{Sizes}
use Rattle.agreement.specs.Answers.{AllFaithful, faithful_start, faithful_keeps}
use Rattle.agreement.proofs.Sequence.{AllTraced, traced_start, traced_keeps}

module _ (S : System) where
  pub record Good (w : World S) : Type 0 where
    pub settled : AllSettled S w
    pub pending : AllPending S w
    pub promises : Promises S w
    pub heard : AllHeard S w
    pub faithful : AllFaithful S w
    pub traced : AllTraced S w

  pub good_start : Good (start S)
  good_start =
      record {
        settled = settled-start S;
        pending = pending_start S;
        promises = promises_start S;
        heard = heard_start S;
        faithful = faithful_start S;
        traced = traced_start S;
      }

  module _ (f : ℕ) (sizes : Sizes S f) where
    pub good_keeps : (w : World S) (t : Step) → Good w → Met (demands S w t) → Good (change S w t)
    good_keeps w t g h =
        record {
          settled = settled_keeps S w t g.settled h;
          pending = pending_keeps S w t g.pending h;
          promises = promises_keep S w t g.pending g.promises h;
          heard = heard_keeps S w t g.heard h;
          faithful = faithful_keeps S w t g.faithful h;
          traced = traced_keeps S f sizes w t g.settled g.pending g.promises g.heard g.traced h;
        }

    pub good_step : (w : World S) (t : Step) → Good w → Good (step S w t)
    good_step = step_keeps S Good good_keeps

    pub good_play : (l : List Step) → Good (play S (start S) l)
    good_play l = play_keeps S Good good_keeps (start S) l good_start
