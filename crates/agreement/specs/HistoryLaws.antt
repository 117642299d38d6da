-- The sequence that a log settles has exactly the commands settled, each once.
-- Rests on History and the laws of members.
use Rattle.std.specs.Prelude.{◌≡◌, Bool, true, ◌&&◌, ◌||◌, not, List, ◌++◌, ◌⊎◌, Some}
use Rattle.std.proofs.Math.Path.{refl, subst}
use Rattle.std.proofs.Common.{sym, ◌∙◌, ap, inl, inr, ⊎_elim}
use Rattle.std.proofs.Math.Bool.{false}
use Prim.Native.Nat.{ℕ, zero, suc, ◌<◌}
use Rattle.theory.specs.Sets.{Set, ◌∪◌, ◌∖◌, members}
use Rattle.theory.specs.Counting.{both, left, right, true_or, or_true, either, never, not-true, known}
use Rattle.theory.specs.Lists.{contents, distinct}
use Rattle.theory.specs.ListLaws.{contents-append, contents_left, contents_right, distinct_append}
use Rattle.theory.specs.Members.{members-has, members_in, members-distinct}
use Rattle.protocol.specs.System.{System}
use Rattle.protocol.specs.Recovery.{Log, Tally, nc_set, c_set}
use Rattle.protocol.specs.StandingLaws.{same_some, none-some}
use Rattle.protocol.specs.RecoveryLaws.{nc_c_disjoint}
use Rattle.agreement.specs.History.{History, segment, extend, history, history_last}

module _ (S : System) where
  open S use {commands}

  -- The commands of a segment: of NC or C, and not settled before.
  segment_in : (g : Set) (t : Tally) (m : ℕ) → contents (segment S g t) m ≡ true → (m < commands) × (g m ≡ false) × ((nc_set S t ∪ c_set S t) m ≡ true)
  segment_in g t m h =
      ⊎_elim (λ z. part (nc_set S t) m (λ e. true_or (nc_set S t m) (c_set S t m) e) z) (λ z. part (c_set S t) m (λ e. or_true (nc_set S t m) (c_set S t m) e) z)
      (either (contents (members commands (nc_set S t ∖ g)) m) (contents (members commands (c_set S t ∖ g)) m)
      (sym (contents-append (members commands (nc_set S t ∖ g)) (members commands (c_set S t ∖ g)) m) ∙ h))
    where
      part : (x : Set) (m : ℕ) → (x m ≡ true → (nc_set S t ∪ c_set S t) m ≡ true) → contents (members commands (x ∖ g)) m ≡ true
          → (m < commands) × (g m ≡ false) × ((nc_set S t ∪ c_set S t) m ≡ true)
      part x m k z =
          let w = members_in commands (x ∖ g) m z in
          (w.0, not-true (g m) (right (x m) (not (g m)) w.1), k (left (x m) (not (g m)) w.1))

  segment-has : (g : Set) (t : Tally) (m : ℕ) → m < commands → g m ≡ false → (nc_set S t ∪ c_set S t) m ≡ true → contents (segment S g t) m ≡ true
  segment-has g t m l e h =
      ⊎_elim
      (λ z. contents_left N C m (members-has commands (nc_set S t ∖ g) m l (both (nc_set S t m) (not (g m)) z (ap not e))))
      (λ z. contents_right N C m (members-has commands (c_set S t ∖ g) m l (both (c_set S t m) (not (g m)) z (ap not e))))
      (either (nc_set S t m) (c_set S t m) h)
    where
      N : List ℕ
      N = members commands (nc_set S t ∖ g)

      C : List ℕ
      C = members commands (c_set S t ∖ g)

  segment-distinct : (g : Set) (t : Tally) → distinct (segment S g t) ≡ true
  segment-distinct g t =
      distinct_append (members commands (nc_set S t ∖ g)) (members commands (c_set S t ∖ g)) (members-distinct commands (nc_set S t ∖ g)) (members-distinct commands (c_set S t ∖ g))
      (λ m h. go m (contents (members commands (c_set S t ∖ g)) m) refl (left (nc_set S t m) (not (g m)) (members_in commands (nc_set S t ∖ g) m h).1))
    where
      go : (m : ℕ) (b : Bool) → contents (members commands (c_set S t ∖ g)) m ≡ b → nc_set S t m ≡ true → b ≡ false
      go m true e h =
          absurd (never (nc_set S t m && c_set S t m) (both (nc_set S t m) (c_set S t m) h (left (c_set S t m) (not (g m)) (members_in commands (c_set S t ∖ g) m e).1)) (nc_c_disjoint S t m))
      go m false e h = refl

  pub record Sound (h : History) : Type 0 where
    pub member : (m : ℕ) → contents h.sequence m ≡ true → (m < commands) × (h.settled m ≡ true)
    pub has : (m : ℕ) → m < commands → h.settled m ≡ true → contents h.sequence m ≡ true
    pub once : distinct h.sequence ≡ true

  extend_sound : (g : History) (t : Tally) → Sound g → Sound (extend S g t)
  extend_sound g t v =
      record {
        member = λ m h. ⊎_elim (λ z. ((v.member m z).0, true_or (g.settled m) ((nc_set S t ∪ c_set S t) m) (v.member m z).1))
            (λ z. let w = segment_in g.settled t m z in (w.0, or_true (g.settled m) ((nc_set S t ∪ c_set S t) m) w.2))
            (either (contents g.sequence m) (contents (segment S g.settled t) m) (sym (contents-append g.sequence (segment S g.settled t) m) ∙ h));
        has = λ m l h. new m l h (known (g.settled m));
        once = distinct_append g.sequence (segment S g.settled t) v.once (segment-distinct g.settled t)
            (λ m h. apart m (contents (segment S g.settled t) m) refl (v.member m h).1);
      }
    where
      new : (m : ℕ) → m < commands → (g.settled m || (nc_set S t ∪ c_set S t) m) ≡ true → (g.settled m ≡ true) ⊎ (g.settled m ≡ false)
          → contents (g.sequence ++ segment S g.settled t) m ≡ true
      new m l h (inl e) = contents_left g.sequence (segment S g.settled t) m (v.has m l e)
      new m l h (inr e) =
          contents_right g.sequence (segment S g.settled t) m
          (segment-has g.settled t m l e
          (⊎_elim (λ z. absurd (never (g.settled m) z e)) (λ z. z) (either (g.settled m) ((nc_set S t ∪ c_set S t) m) h)))

      apart : (m : ℕ) (b : Bool) → contents (segment S g.settled t) m ≡ b → g.settled m ≡ true → b ≡ false
      apart m true e h = absurd (never (g.settled m) h (segment_in g.settled t m e).1)
      apart m false e h = refl

  pub history_sound : (k : ℕ) (l : Log) (h : History) → history S k l ≡ Some h → Sound h
  unfolding history
  history_sound zero l h e = none-some e
  history_sound (suc zero) l h e =
      subst (λ (x : History). Sound x) (same_some e)
      (record { member = λ m z. absurd (never false z refl); has = λ m b z. absurd (never false z refl); once = refl })
  history_sound (suc (suc k)) l h e =
      let w = history_last S k l h e in subst (λ (x : History). Sound x) w.4 (extend_sound w.0 w.1 (history_sound (suc k) l w.0 w.2))
