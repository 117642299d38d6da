-- Demand 3 over parameters: any machine with the exchange law, any quorum sizes that satisfy the inequalities, any list of steps.
-- Rests on Common, Explained and ReadOff.
use Rattle.std.specs.Prelude.{◌&&◌, List, ℕ}
use Rattle.std.proofs.Common.{sym, ◌∙◌, subst}
use Rattle.theory.specs.Counting.{any_ext}
use Rattle.theory.specs.Lists.{contents}
use Rattle.theory.specs.Machine.{Exchange}
use Rattle.protocol.specs.System.{System, correct}
use Rattle.protocol.specs.World.{World, Step, start, play}
use Rattle.protocol.specs.CommonSequence.{Explains, CommonSequence, taken, delivers}
use Rattle.agreement.specs.Acked.{Sizes}
use Rattle.agreement.proofs.Invariant.{Good, good_play}
use Rattle.agreement.proofs.Common.{list_of, sequence, sequence_once, sequence_exactly, completed}
use Rattle.agreement.specs.Explained.{explains}
use Rattle.agreement.proofs.ReadOff.{read_off}

module _ (S : System) (f : ℕ) (sizes : Sizes S f) (law : Exchange S.machine) where
  open S use {sites}

  -- After every list of steps, refused ones included, the correct sites have a common sequence
  -- that explains all that they delivered, answered and hold.
  pub common_sequence : (steps : List Step) → CommonSequence S steps
  common_sequence steps =
      record {
        sequence = sequence S f sizes w good;
        exactly = λ m. sequence_exactly S f sizes w good m
            ∙ any_ext sites (λ i. correct S i && contents (list_of S w i) m) (λ i. correct S i && contents (delivers S i w.log (taken S (start S) steps)) m)
            (λ i l k. correct S i && contents (sym (read_off S f sizes i steps) k) m);
        once = sequence_once S f sizes w good;
        site = λ i l c. let k = completed S f sizes w good i l c in
            subst (λ (d : List ℕ). Explains S (sequence S f sizes w good) d (w.site i)) (sym (read_off S f sizes i steps))
            (explains S law (w.site i) k.rest (sequence S f sizes w good) (good.faithful i) (sequence_once S f sizes w good) k.alike);
      }
    where
      w : World S
      w = play S (start S) steps

      good : Good S w
      good = good_play S f sizes steps
