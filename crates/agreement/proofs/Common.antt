-- The common sequence of a world: what the log settles below the greatest round of a correct site, then what correct sites delivered fast in that round.
-- Every correct site's list, followed by what it has not delivered, is alike to it. Rests on Invariant and HistoryLaws.
use Rattle.std.specs.Prelude.{◌≡◌, Bool, false, ◌&&◌, not, ◌⊎◌, ℕ, zero, suc, ◌+◌, ◌-◌, ◌≤◌, ◌<◌, eqb, Some}
use Rattle.std.proofs.Math.Path.{refl, sym, ap}
use Rattle.std.proofs.Common.{◌∙◌, subst, inl, inr, arith, eqb-true, eq-eqb}
use Rattle.std.proofs.Math.Bool.{true}
use mathlib.Core.List.{List, [], ◌++◌, append_assoc}
use Rattle.std.proofs.Math.Logic.{⊎_elim}
use Rattle.theory.specs.Sets.{Set, ∅, ◌∪◌, ◌∖◌, any, members}
use Rattle.theory.specs.Counting.{both, left, right, either, never, not-true, known, lt_or_le, last_or_below, any_at, any_some, same_test}
use Rattle.theory.specs.Lists.{contents, distinct}
use Rattle.theory.specs.ListLaws.{contents-append, contents_left, contents_right, distinct_append}
use Rattle.theory.specs.Members.{members-has, members_in, members-distinct}
use Rattle.theory.specs.Traces.{Alike, chain}
use Rattle.theory.specs.TraceLaws.{alike_equal, alike-before, alike-after, alike-contents, merge}
use Rattle.protocol.specs.System.{System, correct}
use Rattle.protocol.specs.Recovery.{Tally, decide, nc_set, c_set}
use Rattle.protocol.specs.StandingLaws.{same_some}
use Rattle.protocol.proofs.RecoveryLaws.{nc_free}
use Rattle.protocol.specs.World.{World}
use Rattle.agreement.specs.History.{History, segment, extend, history, history-next, history_part, history_decided}
use Rattle.agreement.specs.HistoryLaws.{Sound, history_sound}
use Rattle.agreement.specs.Acked.{Sizes, Acked}
use Rattle.agreement.proofs.Acked.{fast_acked, acked_calm, acked_decided}
use Rattle.agreement.specs.Answers.{commands_of}
use Rattle.agreement.proofs.Sequence.{Traced, segment-alike}
use Rattle.agreement.proofs.Invariant.{Good}

module _ (S : System) where
  open S use {machine, commands, sites}

  -- What site i has delivered.
  abbrev pub list_of : World S → ℕ → List ℕ
  list_of w i = commands_of (w.site i).ledger.deliveries

  -- The greatest round of a correct site below n; 1 where there is none.
  pub record Top (w : World S) (n : ℕ) : Type 0 where
    pub round : ℕ
    pub above : (i : ℕ) → i < n → correct S i ≡ true → (w.site i).round ≤ round
    pub from : (round ≡ 1) ⊎ ((i : ℕ) × (i < n) × (correct S i ≡ true) × ((w.site i).round ≡ round))

  pub top : (w : World S) (n : ℕ) → Top w n
  top w zero = record { round = 1; above = λ i l. absurd (omega arith); from = inl refl }
  top w (suc n) = go (top w n) (known (correct S n))
    where
      wider : (r : ℕ) → (i : ℕ) × (i < n) × (correct S i ≡ true) × ((w.site i).round ≡ r) → (i : ℕ) × (i < suc n) × (correct S i ≡ true) × ((w.site i).round ≡ r)
      wider r z = (z.0, omega (arith, z.1), z.2, z.3)

      split : (i : ℕ) → i < suc n → (r : ℕ) → (i ≡ n → (w.site i).round ≤ r) → (i < n → (w.site i).round ≤ r) → (w.site i).round ≤ r
      split i l r h k = ⊎_elim h k (last_or_below i n l)

      go : Top w n → (correct S n ≡ true) ⊎ (correct S n ≡ false) → Top w (suc n)
      go t (inr e) =
          record {
            round = t.round;
            above = λ i l c. split i l t.round (λ q. absurd (never (correct S i) c (ap (correct S) q ∙ e))) (λ b. t.above i b c);
            from = ⊎_elim (λ z. inl z) (λ z. inr (wider t.round z)) t.from;
          }
      go t (inl e) = pick_top (lt_or_le t.round (w.site n).round)
        where
          pick_top : (t.round < (w.site n).round) ⊎ ((w.site n).round ≤ t.round) → Top w (suc n)
          pick_top (inl b) =
              record {
                round = (w.site n).round;
                above = λ i l c. split i l (w.site n).round (λ q. subst (λ (x : ℕ). (w.site i).round ≤ (w.site x).round) q (omega arith)) (λ k. omega (arith, t.above i k c));
                from = inr (n, omega arith, e, refl);
              }
          pick_top (inr b) =
              record {
                round = t.round;
                above = λ i l c. split i l t.round (λ q. subst (λ (x : ℕ). (w.site x).round ≤ t.round) (sym q) b) (λ k. t.above i k c);
                from = ⊎_elim (λ z. inl z) (λ z. inr (wider t.round z)) t.from;
              }

  -- What correct sites have delivered fast in a round.
  abbrev pub fast_in : World S → ℕ → Set
  fast_in w k m = any sites (λ i. correct S i && eqb (w.site i).round k && (w.site i).fast m)

  fast_site : (w : World S) (k m : ℕ) → fast_in w k m ≡ true → (i : ℕ) × (i < sites) × (correct S i ≡ true) × ((w.site i).round ≡ k) × ((w.site i).fast m ≡ true)
  fast_site w k m h =
      let z = any_some sites (λ i. correct S i && eqb (w.site i).round k && (w.site i).fast m) h in
      let i = z.0 in
      let front = left (correct S i && eqb (w.site i).round k) ((w.site i).fast m) z.2 in (
        i,
        z.1,
        left (correct S i) (eqb (w.site i).round k) front,
        eqb-true (w.site i).round k (right (correct S i) (eqb (w.site i).round k) front),
        right (correct S i && eqb (w.site i).round k) ((w.site i).fast m) z.2,
      )

  site_fast : (w : World S) (i m : ℕ) → i < sites → correct S i ≡ true → (k : ℕ) → (w.site i).round ≡ k → (w.site i).fast m ≡ true → fast_in w k m ≡ true
  site_fast w i m l c k e h =
      any_at sites (λ i. correct S i && eqb (w.site i).round k && (w.site i).fast m) i l
      (both (correct S i && eqb (w.site i).round k) ((w.site i).fast m) (both (correct S i) (eqb (w.site i).round k) c (eq-eqb (w.site i).round k e)) h)

  module _ (f : ℕ) (sizes : Sizes S f) (w : World S) (good : Good S w) where
    K : ℕ
    K = (top w sites).round

    -- What the log settles below the greatest round.
    last_history : (past : History) × (history S K w.log ≡ Some past)
    unfolding K history
    last_history = go (top w sites).from
      where
        go : ((top w sites).round ≡ 1) ⊎ ((i : ℕ) × (i < sites) × (correct S i ≡ true) × ((w.site i).round ≡ (top w sites).round))
            → (past : History) × (history S (top w sites).round w.log ≡ Some past)
        go (inl e) = (record { settled = ∅; sequence = [] }, ap (λ (k : ℕ). history S k w.log) e)
        go (inr z) = ((good.settled z.0).past, ap (λ (k : ℕ). history S k w.log) (sym z.3) ∙ (good.settled z.0).at)

    abbrev past : History
    past = last_history.0

    pub sequence : List ℕ
    sequence = past.sequence ++ members commands (fast_in w K)

    fast_free : (x y : ℕ) → x < commands → y < commands → fast_in w K x ≡ true → fast_in w K y ≡ true → machine.conflict x y ≡ false
    fast_free x y lx ly hx hy = acked_calm S f sizes w good.promises K x y lx ly (acked x hx) (acked y hy)
      where
        acked : (m : ℕ) → fast_in w K m ≡ true → Acked S w.acks K m
        acked m h = let z = fast_site w K m h in subst (λ (k : ℕ). Acked S w.acks k m) z.3 (fast_acked S w good.heard z.0 m z.4)

    -- What a site delivered fast is not settled below its round.
    fast_new : (i m : ℕ) → (w.site i).fast m ≡ true → (w.site i).delivered m ≡ false
    fast_new i m h =
        not-true ((w.site i).delivered m) (right ((w.site i).received m) (not ((w.site i).delivered m)) ((good.pending i).inside m ((good.pending i).holds m h)))

    fast_apart : (m : ℕ) → fast_in w K m ≡ true → past.settled m ≡ false
    fast_apart m h =
        let z = fast_site w K m h in
        let e : (good.settled z.0).past ≡ past = same_some (sym (good.settled z.0).at ∙ ap (λ (k : ℕ). history S k w.log) z.3 ∙ last_history.1) in
        ap (λ (p : History). p.settled m) (sym e) ∙ ap (λ (x : Set). x m) (good.settled z.0).same ∙ fast_new z.0 m z.4

    pub sequence_once : distinct sequence ≡ true
    unfolding sequence
    sequence_once =
        distinct_append past.sequence (members commands (fast_in w K)) v.once (members-distinct commands (fast_in w K))
        (λ m h. go m (contents (members commands (fast_in w K)) m) refl (v.member m h).1)
      where
        v : Sound S past
        v = history_sound S K w.log past last_history.1

        go : (m : ℕ) (b : Bool) → contents (members commands (fast_in w K)) m ≡ b → past.settled m ≡ true → b ≡ false
        go m true e h = absurd (never (past.settled m) h (fast_apart m (members_in commands (fast_in w K) m e).1))
        go m false e h = refl

    -- A correct site's list and what it has not delivered.
    pub record Completed (i : ℕ) : Type 0 where
      pub rest : List ℕ
      pub alike : Alike machine (list_of w i ++ rest) sequence

    at_top : (i : ℕ) → i < sites → correct S i ≡ true → (w.site i).round ≡ K → Completed i
    unfolding sequence
    at_top i l c e =
        record {
          rest = members commands (fast_in w K ∖ (w.site i).fast);
          alike =
              chain (alike-after machine (members commands (fast_in w K ∖ (w.site i).fast)) v.alike)
              (chain (alike_equal machine (append_assoc v.past.sequence (members commands (w.site i).fast) (members commands (fast_in w K ∖ (w.site i).fast))))
              (chain (alike-before machine v.past.sequence (merge machine commands (w.site i).fast (fast_in w K) (λ m b h. site_fast w i m l c K e h) fast_free))
              (alike_equal machine (λ k. (same_past k).sequence ++ members commands (fast_in w K)))));
        }
      where
        v : Traced S w.log (w.site i).round (w.site i).fast (list_of w i)
        v = good.traced i

        same_past : v.past ≡ past
        same_past = same_some (sym v.at ∙ ap (λ (k : ℕ). history S k w.log) e ∙ last_history.1)

    below_top : (i : ℕ) → (w.site i).round < K → Completed i
    unfolding sequence
    below_top i b =
        record {
          rest = N ++ (tail.0 ++ X);
          alike =
              chain (alike-after machine (N ++ (tail.0 ++ X)) v.alike)
              (chain (alike_equal machine (append_assoc v.past.sequence F (N ++ (tail.0 ++ X)) ∙ ap (λ (l : List ℕ). v.past.sequence ++ l) (sym (append_assoc F N (tail.0 ++ X)))))
              (chain (alike-before machine v.past.sequence (alike-after machine (tail.0 ++ X) (segment-alike S v.past.settled (w.site i).fast t fast_in_lem (nc_free S (omega (arith, sizes.quorums.overlap)) (w.site i).round w.log t decided.1))))
              (alike_equal machine
              (sym (append_assoc v.past.sequence G (tail.0 ++ X)) ∙ sym (append_assoc (v.past.sequence ++ G) tail.0 X) ∙ ap (λ (l : List ℕ). l ++ X) (sym tail.1)))));
        }
      where
        v : Traced S w.log (w.site i).round (w.site i).fast (list_of w i)
        v = good.traced i

        gap : ℕ
        gap = K - suc (w.site i).round

        late : history S (suc gap + (w.site i).round) w.log ≡ Some past
        late = subst (λ (k : ℕ). history S k w.log ≡ Some past) (omega arith) last_history.1

        decided : (t : Tally) × (decide S (w.site i).round w.log ≡ Some t)
        decided = history_decided S gap (w.site i).round w.log v.past past v.at late

        t : Tally
        t = decided.0

        X : List ℕ
        X = members commands (fast_in w K)

        F : List ℕ
        F = members commands (w.site i).fast

        N : List ℕ
        N = members commands (nc_set S t ∖ (v.past.settled ∪ (w.site i).fast)) ++ members commands (c_set S t ∖ (v.past.settled ∪ (w.site i).fast))

        G : List ℕ
        G = segment S v.past.settled t

        tail : (tail : List ℕ) × (past.sequence ≡ (v.past.sequence ++ segment S v.past.settled t) ++ tail)
        tail =
            history_part S gap (suc (w.site i).round) w.log (extend S v.past t) past
            (history-next S (w.site i).round w.log v.past t v.at decided.1) (subst (λ (k : ℕ). history S k w.log ≡ Some past) (omega arith) late)

        fast_in_lem : (m : ℕ) → m < commands → (w.site i).fast m ≡ true → (nc_set S t m ≡ true) × (v.past.settled m ≡ false)
        fast_in_lem m l h = (
          acked_decided S f sizes w good.promises (w.site i).round m t (fast_acked S w good.heard i m h) decided.1,
          ap (λ (p : History). p.settled m) (same_some (sym v.at ∙ (good.settled i).at)) ∙ ap (λ (x : Set). x m) (good.settled i).same ∙ fast_new i m h,
        )

    pub completed : (i : ℕ) → i < sites → correct S i ≡ true → Completed i
    unfolding K
    completed i l c = ⊎_elim (λ b. below_top i b) (λ b. at_top i l c (omega (arith, (top w sites).above i l c))) (lt_or_le (w.site i).round K)

    -- The sequence has exactly what correct sites have delivered.
    pub sequence_exactly : (m : ℕ) → contents sequence m ≡ any sites (λ i. correct S i && contents (list_of w i) m)
    unfolding sequence K history
    sequence_exactly m = same_test (contents sequence m) (any sites (λ i. correct S i && contents (list_of w i) m)) forth back
      where
        delivered : (i : ℕ) → i < sites → correct S i ≡ true → contents ((good.traced i).past.sequence ++ members commands (w.site i).fast) m ≡ true
            → any sites (λ i. correct S i && contents (list_of w i) m) ≡ true
        delivered i l c h =
            any_at sites (λ i. correct S i && contents (list_of w i) m) i l
            (both (correct S i) (contents (list_of w i) m) c (alike-contents machine (good.traced i).alike m ∙ h))

        settled_somewhere : contents past.sequence m ≡ true → any sites (λ i. correct S i && contents (list_of w i) m) ≡ true
        settled_somewhere h = go (top w sites).from
          where
            go : ((top w sites).round ≡ 1) ⊎ ((i : ℕ) × (i < sites) × (correct S i ≡ true) × ((w.site i).round ≡ (top w sites).round))
                → any sites (λ i. correct S i && contents (list_of w i) m) ≡ true
            go (inl e) =
                absurd (never (contents past.sequence m) h
                (ap (λ (p : History). contents p.sequence m) (same_some (sym last_history.1 ∙ ap (λ (k : ℕ). history S k w.log) e))))
            go (inr z) =
                delivered z.0 z.1 z.2
                (contents_left (good.traced z.0).past.sequence (members commands (w.site z.0).fast) m
                (ap (λ (p : History). contents p.sequence m) (same_some (sym (good.traced z.0).at ∙ ap (λ (k : ℕ). history S k w.log) z.3 ∙ last_history.1)) ∙ h))

        forth : contents sequence m ≡ true → any sites (λ i. correct S i && contents (list_of w i) m) ≡ true
        forth h =
            ⊎_elim settled_somewhere
            (λ z. let k = members_in commands (fast_in w K) m z in
            let s = fast_site w K m k.1 in
            delivered s.0 s.1 s.2
            (contents_right (good.traced s.0).past.sequence (members commands (w.site s.0).fast) m (members-has commands (w.site s.0).fast m k.0 s.4)))
            (either (contents past.sequence m) (contents (members commands (fast_in w K)) m) (sym (contents-append past.sequence (members commands (fast_in w K)) m) ∙ h))

        back : any sites (λ i. correct S i && contents (list_of w i) m) ≡ true → contents sequence m ≡ true
        back h =
            let z = any_some sites (λ i. correct S i && contents (list_of w i) m) h in
            let k = completed z.0 z.1 (left (correct S z.0) (contents (list_of w z.0) m) z.2) in
            sym (alike-contents machine k.alike m)
            ∙ contents_left (list_of w z.0) k.rest m (right (correct S z.0) (contents (list_of w z.0) m) z.2)
