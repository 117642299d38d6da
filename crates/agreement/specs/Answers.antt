-- A site's state and answers are those of executing the commands that it delivered, in its order.
-- Rests on the protocol's definitions.
use Rattle.std.specs.Prelude.{◌≡◌, refl, ℕ, eqb}
use Rattle.std.proofs.Common.{sym, ◌∙◌, ap}
use mathlib.Core.List.{List, [], ◌∷◌, ◌++◌, foldl, append_assoc, append-nil}
use Rattle.theory.specs.Sets.{pick}
use Rattle.theory.specs.Machine.{Machine, Delivery, run, answered}
use Rattle.protocol.specs.System.{System}
use Rattle.protocol.specs.Site.{Site, Ledger, deliver, due, decision, tally_or, acknowledges}
use Rattle.protocol.specs.World.{World, Step, command, acknowledgment, check, false_acknowledgment, false_check, false_entry, turn, fast_delivery, log_read, round_end, start, demands, change, acknowledging_turn, proposing_turn}
use Rattle.protocol.specs.Steps.{Met, put_keeps, turn_keeps}

-- The commands of some deliveries.
abbrev pub commands_of : {A : Type 0} → List (Delivery A) → List ℕ
commands_of [] = []
commands_of (d ∷ l) = d.command ∷ commands_of l

pub commands-append : {A : Type 0} (a b : List (Delivery A)) → commands_of (a ++ b) ≡ commands_of a ++ commands_of b
commands-append [] b = refl
commands-append (d ∷ a) b = ap (λ (l : List ℕ). d.command ∷ l) (commands-append a b)

module _ (M : Machine) where
  open M use {State, Answer, execute, answer}

  run_more : (s : State) (l : List ℕ) (m : ℕ) → run M s (l ++ (m ∷ [])) ≡ execute (run M s l) m
  run_more s [] m = refl
  run_more s (x ∷ l) m = run_more (execute s x) l m

  answered-more : (s : State) (l : List ℕ) (m : ℕ)
      → answered M s (l ++ (m ∷ [])) ≡ answered M s l ++ (record { command = m; answer = answer (run M s l) m } ∷ [])
  answered-more s [] m = refl
  answered-more s (x ∷ l) m = ap (λ (k : List (Delivery Answer)). record { command = x; answer = answer s x } ∷ k) (answered-more (execute s x) l m)

  pub answered-commands : (s : State) (l : List ℕ) → commands_of (answered M s l) ≡ l
  answered-commands s [] = refl
  answered-commands s (x ∷ l) = ap (λ (k : List ℕ). x ∷ k) (answered-commands (execute s x) l)

module _ (S : System) where
  open S use {machine}

  pub record Faithful (g : Ledger S) : Type 0 where
    pub state : g.state ≡ run machine machine.initial (commands_of g.deliveries)
    pub answers : g.deliveries ≡ answered machine machine.initial (commands_of g.deliveries)

  abbrev pub AllFaithful : World S → Type 0
  AllFaithful w = (i : ℕ) → Faithful (w.site i).ledger

  deliver_faithful : (g : Ledger S) (m : ℕ) → Faithful g → Faithful (deliver S g m)
  deliver_faithful g m v =
      let same : commands_of (deliver S g m).deliveries ≡ commands_of g.deliveries ++ (m ∷ []) = commands-append g.deliveries _ in
      record {
        state = ap (λ (s : machine.State). machine.execute s m) v.state ∙ sym (run_more machine machine.initial (commands_of g.deliveries) m)
            ∙ ap (run machine machine.initial) (sym same);
        answers =
            (λ i. v.answers i ++ (record { command = m; answer = machine.answer (v.state i) m } ∷ []))
            ∙ sym (answered-more machine machine.initial (commands_of g.deliveries) m) ∙ ap (answered machine machine.initial) (sym same);
      }

  fold_faithful : (g : Ledger S) (l : List ℕ) → Faithful g → Faithful (foldl (deliver S) g l)
  fold_faithful g [] v = v
  fold_faithful g (m ∷ l) v = fold_faithful (deliver S g m) l (deliver_faithful g m v)

  -- The commands that a ledger holds after some deliveries more.
  pub fold_commands : (g : Ledger S) (l : List ℕ) → commands_of (foldl (deliver S) g l).deliveries ≡ commands_of g.deliveries ++ l
  fold_commands g [] = sym (append-nil (commands_of g.deliveries))
  fold_commands g (m ∷ l) =
      fold_commands (deliver S g m) l ∙ ap (λ (k : List ℕ). k ++ l) (commands-append g.deliveries _) ∙ append_assoc (commands_of g.deliveries) (m ∷ []) l

  pub faithful_start : AllFaithful (start S)
  faithful_start i = record { state = refl; answers = refl }

  touch : (w : World S) (i : ℕ) (s : Site S) → AllFaithful w → Faithful s.ledger → (j : ℕ) → Faithful (pick (eqb j i) s (w.site j)).ledger
  touch w i s v h = put_keeps S (λ j s. Faithful s.ledger) w.site i s h (λ j e. v j)

  pub faithful_keeps : (w : World S) (t : Step) → AllFaithful w → Met (demands S w t) → AllFaithful (change S w t)
  faithful_keeps w (command i m) v h = touch w i _ v (v i)
  faithful_keeps w (acknowledgment i j r a) v h = touch w i _ v (v i)
  faithful_keeps w (check i j r) v h = touch w i _ v (v i)
  faithful_keeps w (false_acknowledgment i j r x) v h = touch w i _ v (v i)
  faithful_keeps w (false_check i j r x) v h = touch w i _ v (v i)
  faithful_keeps w (false_entry j r nc c) v h = v
  faithful_keeps w (turn i) v h =
      turn_keeps S AllFaithful (acknowledges S (w.site i)) {w = acknowledging_turn S i (w.site i) w} {v = proposing_turn S i (w.site i) w}
      (λ e. touch w i _ v (v i)) (λ e. touch w i _ v (v i))
  faithful_keeps w (fast_delivery i m) v h = touch w i _ v (deliver_faithful (w.site i).ledger m (v i))
  faithful_keeps w (log_read i) v h = touch w i _ v (v i)
  faithful_keeps w (round_end i) v h = touch w i _ v (fold_faithful (w.site i).ledger (due S (tally_or (decision S (w.site i) w.log)) (w.site i)) (v i))
