-- `Rounds::none` meets its contract: every round is one with no entry.
-- Assumes nothing.
use mathlib.Core.Path.{refl, sym, subst}
use lib.ListN.{replicate}
use Rattle.rounds.specs.declared.Round.{Round}
use Rattle.rounds.specs.Rounds.{kept_rounds, Kept}
use Rattle.rounds.proofs.Keeping.{rounds_start}
use Rattle.rounds.proofs.Rounds.none.Goals as goal

pub returns : goal.returns
returns c =
    (refl, λ t rows log. subst (λ (x : Round). Kept t rows log (record { rounds = replicate {A = Round} kept_rounds x; entries = 0 })) (sym c.none.ensures) (rounds_start t rows log))
