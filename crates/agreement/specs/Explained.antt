-- A sequence that a site's list can be completed to explains what the site holds, answers and delivers.
-- Rests on Answers and the laws of alike sequences.
use Rattle.std.specs.Prelude.{◌≡◌, refl, Bool, true, false, not, List, [], ◌∷◌, ◌++◌, map, ℕ, eqb, Some}
use Rattle.std.proofs.Common.{sym, ◌∙◌, ap, append-nil, eqb-true, eq-eqb}
use Rattle.theory.specs.Sets.{pick}
use Rattle.theory.specs.Counting.{left, right, true_or, or_true, never, not-true}
use Rattle.theory.specs.Lists.{contents, distinct, sift}
use Rattle.theory.specs.ListLaws.{contents_left, distinct_left, distinct_apart, before_left, sift-append, sift-all, sift-none}
use Rattle.theory.specs.Machine.{Machine, Exchange, Delivery, answered, answer_in}
use Rattle.theory.specs.Traces.{Alike, chain, alike_state, alike-answer}
use Rattle.theory.specs.TraceLaws.{alike_equal, alike-distinct, alike_order, alike-sift}
use Rattle.protocol.specs.System.{System}
use Rattle.protocol.specs.Site.{Site}
use Rattle.protocol.specs.CommonSequence.{Explains}
use Rattle.agreement.specs.Answers.{commands_of, Faithful}

-- Two functions that agree on the numbers of a list give the same list.
map_same : {A : Type 0} (f g : ℕ → A) (l : List ℕ) → ((m : ℕ) → contents l m ≡ true → f m ≡ g m) → map f l ≡ map g l
map_same f g [] h = refl
map_same f g (x ∷ l) h =
    λ i. h x (true_or (eqb x x) (contents l x) (eq-eqb x x refl)) i ∷ map_same f g l (λ m k. h m (or_true (eqb m x) (contents l m) k)) i

module _ (M : Machine) where
  open M use {State, Answer, execute, answer}

  -- In a list without repetition each delivery's answer is the one that its command gets in the list, and in any longer one.
  answers_in : (s : State) (l rest : List ℕ) → distinct (l ++ rest) ≡ true
      → map (λ (d : Delivery Answer). Some d.answer) (answered M s l) ≡ map (λ m. answer_in M s (l ++ rest) m) l
  answers_in s [] rest h = refl
  answers_in s (x ∷ l) rest h =
      λ i. here i ∷ (answers_in (execute s x) l rest (right (not (contents (l ++ rest) x)) (distinct (l ++ rest)) h)
      ∙ map_same (λ m. answer_in M (execute s x) (l ++ rest) m) (λ m. answer_in M s (x ∷ (l ++ rest)) m) l later) i
    where
      here : Some (answer s x) ≡ pick (eqb x x) (Some (answer s x)) (answer_in M (execute s x) (l ++ rest) x)
      here = ap (λ (b : Bool). pick b (Some (answer s x)) (answer_in M (execute s x) (l ++ rest) x)) (sym (eq-eqb x x refl))

      other : (m : ℕ) → contents l m ≡ true → (b : Bool) → eqb m x ≡ b → b ≡ false
      other m k true e =
          absurd (never (contents (l ++ rest) x) (ap (contents (l ++ rest)) (sym (eqb-true m x e)) ∙ contents_left l rest m k)
          (not-true (contents (l ++ rest) x) (left (not (contents (l ++ rest) x)) (distinct (l ++ rest)) h)))
      other m k false e = refl

      later : (m : ℕ) → contents l m ≡ true → answer_in M (execute s x) (l ++ rest) m ≡ pick (eqb m x) (Some (answer s x)) (answer_in M (execute s x) (l ++ rest) m)
      later m k = ap (λ (b : Bool). pick b (Some (answer s x)) (answer_in M (execute s x) (l ++ rest) m)) (sym (other m k (eqb m x) refl))

module _ (S : System) (law : Exchange S.machine) where
  open S use {machine}

  -- A site whose list, completed, is alike to a sequence without repetition is explained by the sequence.
  pub explains : (s : Site S) (rest sequence : List ℕ) → Faithful S s.ledger → distinct sequence ≡ true
      → Alike machine (commands_of s.ledger.deliveries ++ rest) sequence → Explains S sequence (commands_of s.ledger.deliveries) s
  explains s rest sequence v once alike =
      record {
        held = v.answers;
        once = distinct_left D rest whole;
        order = λ a b c h k. before_left a b D rest whole k (alike_order machine law alike a b c ∙ h);
        answers =
            ap (map (λ d. Some d.answer)) v.answers
            ∙ answers_in machine machine.initial D rest whole
            ∙ map_same (λ m. answer_in machine machine.initial (D ++ rest) m) (λ m. answer_in machine machine.initial sequence m) D
            (λ m k. alike-answer machine law machine.initial m alike);
        state =
            v.state
            ∙ alike_state machine law machine.initial (chain (alike_equal machine (sym sifted)) (alike-sift machine (contents D) alike));
      }
    where
      D : List ℕ
      D = commands_of s.ledger.deliveries

      whole : distinct (D ++ rest) ≡ true
      whole = alike-distinct machine alike ∙ once

      apart : (m : ℕ) → contents rest m ≡ true → contents D m ≡ false
      apart m h = go (contents D m) refl
        where
          go : (b : Bool) → contents D m ≡ b → b ≡ false
          go true e = absurd (never (contents rest m) h (distinct_apart D rest whole m e))
          go false e = refl

      sifted : sift (contents D) (D ++ rest) ≡ D
      sifted =
          sift-append (contents D) D rest
          ∙ (λ i. sift-all (contents D) D (λ m h. h) i ++ sift-none (contents D) rest apart i) ∙ append-nil D
