-- The verdict on a round end, by the code's tests and by the protocol's.
-- Assumes nothing.
use mathlib.Core.Path.{◌≡◌, refl, sym, ap, ◌∙◌}
use Rattle.std.specs.Prelude.{Err}
use mathlib.Core.Bool.{Bool, true, false}
use Prim.Native.Nat.{ℕ, ◌+◌, ◌≤◌, ◌<◌}
use native.Mathlib.Omega.{arith}
use lib.Dec.{leb}
use borrow.Author.Tests.{le-leb, lt-leb, leb-true}
use Rattle.refusals.specs.declared.Refusal.TheVariants.{Disabled, Full}
use Rattle.refusals.specs.Refusals.{accepted}
use Rattle.sets.specs.declared.Set.{Set}
use Rattle.sets.specs.Sets.{size_of}
use Rattle.protocol.specs.System.{Demands, granted, ◌else◌⨾◌, verdict}
use Rattle.protocol.specs.Site as protocol
use Rattle.recovery.specs.declared.Sets.{Sets}
use Rattle.layout.specs.declared.Proposal.{Proposal}
use Rattle.layout.specs.declared.Phase.{Phase}
use Rattle.layout.specs.declared.Phase.TheVariants.{Acknowledging, Waiting}
use Rattle.layout.specs.declared.Site.{Site}
use Rattle.layout.specs.Layout.{phase_seen}
use Rattle.ending.specs.Ending.{due_of, more_of, judged_in, judged_end}

-- ---- the paths of the code

module _ (h : Site) (commands : ℕ) (s : Sets) where
  pub end_acknowledging : h.phase ≡ Acknowledging → Err Disabled ≡ judged_end h commands s
  unfolding judged_end
  end_acknowledging e = simp e

  module _ (p : Proposal) (e : h.phase ≡ Waiting p) {x y : Set} {k : ℕ} (ex : x ≡ due_of h s.nc) (ey : y ≡ due_of h s.c) (ek : k ≡ size_of x + size_of y) where
    total : h.deliveries + k ≡ h.deliveries + more_of h s
    total = ap (λ (n : ℕ). h.deliveries + n) (ek ∙ (λ i. size_of (ex i) + size_of (ey i)))

    pub end_full : commands < h.deliveries + k → Err Full ≡ judged_end h commands s
    unfolding judged_end
    end_full l = let t = total in simp (e, lt-leb (h.deliveries + more_of h s) commands (omega arith))

    pub end_met : h.deliveries + k ≤ commands → accepted ≡ judged_end h commands s
    unfolding judged_end
    end_met l = let t = total in simp (e, le-leb (h.deliveries + more_of h s) commands (omega arith))

-- ---- the verdict by its tests

met : (p : Phase) (r : Bool) → judged_in p r ≡ accepted → r ≡ true
met (Waiting p) true h = refl
met (Waiting p) false h = absurd (let z : ◌≡◌ {A = ℕ} 0 1 = cc h in omega arith)
met Acknowledging r h = absurd (let z : ◌≡◌ {A = ℕ} 0 1 = cc h in omega arith)

-- A round end that is taken has room.
pub end_taken : (h : Site) (commands : ℕ) (s : Sets) → judged_end h commands s ≡ accepted → h.deliveries + more_of h s ≤ commands
unfolding judged_end
end_taken h commands s e = leb-true (h.deliveries + more_of h s) commands (met h.phase (leb (h.deliveries + more_of h s) commands) e)

-- Where the round is decided, the code's verdict is that of equal tests.
pub same_verdict : (h : Site) (commands : ℕ) (s : Sets) (decided room : Bool) → decided ≡ true → leb (h.deliveries + more_of h s) commands ≡ room
    → judged_end h commands s ≡ verdict (protocol.is_waiting (phase_seen h.phase) else Disabled ⨾ decided else Disabled ⨾ room else Full ⨾ granted)
unfolding judged_end
same_verdict h commands s decided room ed er =
    by_phase h.phase ∙ (λ i. verdict (protocol.is_waiting (phase_seen h.phase) else Disabled ⨾ sym ed i else Disabled ⨾ er i else Full ⨾ granted))
  where
    by_phase : (p : Phase) → judged_in p (leb (h.deliveries + more_of h s) commands)
        ≡ verdict (protocol.is_waiting (phase_seen p) else Disabled ⨾ true else Disabled ⨾ leb (h.deliveries + more_of h s) commands else Full ⨾ granted)
    by_phase Acknowledging = refl
    by_phase (Waiting p) = refl

-- Where it is not, the step is refused, whatever the phase.
pub verdict_undecided : (waits decided : Bool) (more : Demands) → decided ≡ false → verdict (waits else Disabled ⨾ decided else Disabled ⨾ more) ≡ Err Disabled
verdict_undecided true decided more e = ap (λ (d : Bool). verdict (d else Disabled ⨾ more)) e
verdict_undecided false decided more e = refl
