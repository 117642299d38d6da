-- How a fact about the world is carried through every list of steps.
-- Rests on the protocol's definitions.
use Rattle.std.specs.Prelude.{◌≡◌, refl, Bool, true, false, not, List, [], ◌∷◌, ℕ, eqb, Err, Ok}
use Rattle.std.proofs.Common.{sym, subst, arith, eqb-true}
use Rattle.refusals.specs.Refusals.{settled, accepted}
use Rattle.refusals.specs.declared.Refusal.{Refusal}
use Rattle.refusals.specs.Refusals.{Verdict}
use Rattle.theory.specs.Sets.{pick}
use Rattle.protocol.specs.System.{System, Demands, granted, ◌else◌⨾◌, verdict}
use Rattle.protocol.specs.Site.{Site}
use Rattle.protocol.specs.World.{World, Step, demands, change, judge, step, play}

-- Every demand holds.
abbrev pub Met : Demands → Type 0
Met granted = Unit {0}
Met (b else r ⨾ ds) = (b ≡ true) × Met ds

pub refused_taken : {A : Type 0} {r : Refusal} → Err r ≡ accepted → A
refused_taken e = absurd (let z : ◌≡◌ {A = ℕ} 0 1 = cc in omega arith)

pub met : (ds : Demands) → verdict ds ≡ accepted → Met ds
met granted h = tt
met (true else r ⨾ ds) h = (refl, met ds h)
met (false else r ⨾ ds) h = refused_taken h

-- A site is not both correct and faulty.
pub not_both : (b : Bool) → not b ≡ true → b ≡ true → ⊥
not_both true h k = let z : ◌≡◌ {A = ℕ} 0 1 = cc (sym h) in omega arith
not_both false h k = let z : ◌≡◌ {A = ℕ} 0 1 = cc (sym k) in omega arith

module _ (S : System) where
  -- What every step that is not refused keeps, a list of steps keeps.
  module _ (P : World S → Type 0) (keeps : (w : World S) (t : Step) → P w → Met (demands S w t) → P (change S w t)) where
    pub step_keeps : (w : World S) (t : Step) → P w → P (step S w t)
    step_keeps w t v = go (judge S w t) refl
      where
        go : (d : Verdict) → judge S w t ≡ d → P (settled d (change S w t) w)
        go (Ok _) e = keeps w t v (met (demands S w t) e)
        go (Err r) e = v

    pub play_keeps : (w : World S) (l : List Step) → P w → P (play S w l)
    play_keeps w [] v = v
    play_keeps w (t ∷ l) v = play_keeps (step S w t) l (step_keeps w t v)

  -- A fact about every site, where one site is put anew.
  pub put_keeps : (P : ℕ → Site S → Type 0) (f : ℕ → Site S) (i : ℕ) (s : Site S) → P i s → ((j : ℕ) → eqb j i ≡ false → P j (f j))
      → (j : ℕ) → P j (pick (eqb j i) s (f j))
  put_keeps P f i s h v j = go (eqb j i) refl
    where
      go : (b : Bool) → eqb j i ≡ b → P j (pick b s (f j))
      go true e = subst (λ (k : ℕ). P k s) (sym (eqb-true j i e)) h
      go false e = v j e

  -- A turn acknowledges or proposes.
  pub turn_keeps : (P : World S → Type 0) (b : Bool) {w v : World S} → (b ≡ true → P w) → (b ≡ false → P v) → P (pick b w v)
  turn_keeps P true h k = h refl
  turn_keeps P false h k = k refl
