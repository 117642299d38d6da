-- What is read off the list of steps, its refusals and the decided rounds is what the sites hold.
-- Rests on Invariant and HistoryLaws.
use Rattle.std.specs.Prelude.{◌≡◌, refl, Bool, true, false, ◌&&◌, ◌||◌, not, ℕ, suc, ◌<◌, eqb, Err, None, Ok, Option, Some}
use Rattle.std.proofs.Common.{sym, ◌∙◌, ap, subst, eqb-true}
use mathlib.Core.List.{List, [], ◌∷◌, ◌++◌, foldl, append_assoc, append-nil}
use Rattle.refusals.specs.Refusals.{is_taken, settled}
use Rattle.refusals.specs.Refusals.{Verdict}
use Rattle.theory.specs.Sets.{Set, ◌∪◌, ◌∖◌, pick, members}
use Rattle.theory.specs.Counting.{left, never, same_test}
use Rattle.theory.specs.Lists.{contents}
use Rattle.theory.specs.ListLaws.{contents-append}
use Rattle.theory.specs.Members.{members_ext, members-has, members_in}
use Rattle.theory.specs.TraceLaws.{alike-contents}
use Rattle.protocol.specs.System.{System}
use Rattle.protocol.specs.Recovery.{Log, Tally, decide, nc_set, c_set, proposed}
use Rattle.protocol.specs.StandingLaws.{same_some}
use Rattle.protocol.specs.RecoveryLaws.{decide_grows}
use Rattle.protocol.specs.Site.{Site, acknowledge, propose, deliver_fast, finish, due, decision, tally_or, is_some, acknowledges}
use Rattle.protocol.specs.World.{World, Step, command, acknowledgment, check, false_acknowledgment, false_check, false_entry, turn, fast_delivery, log_read, round_end, start, demands, change, judge, step, play, entry_of, acknowledging_turn, proposing_turn}
use Rattle.protocol.specs.CommonSequence.{Reading, taken, deliver_new, end_round, read_step, delivers}
use Rattle.protocol.specs.Steps.{Met, met, turn_keeps}
use Rattle.agreement.specs.History.{History, decision_log}
use Rattle.agreement.specs.HistoryLaws.{Sound, history_sound}
use Rattle.agreement.specs.Acked.{Sizes}
use Rattle.agreement.specs.Answers.{commands_of, commands-append, fold_commands}
use Rattle.agreement.proofs.Invariant.{Good, good_start, good_step}

-- ---- tests

same_skip : (n c d : Bool) → c ≡ d → (n && not c) ≡ (n && not d)
same_skip n c d e = ap (λ (b : Bool). n && not b) e

skip_new : (p n c d x : Bool) → c ≡ d → (x ≡ true → n ≡ true) → (p && not n && not (c || x)) ≡ (p && not n && not d)
skip_new true true c d x e h = refl
skip_new true false c d true e h = absurd (never false (h refl) refl)
skip_new true false true d false e h = ap not e
skip_new true false false d false e h = ap not e
skip_new false n c d x e h = refl

module _ (S : System) where
  open S use {commands}

  -- The log only grows.
  pub record Longer (short long : Log) : Type 0 where
    pub more : Log
    pub whole : short ++ more ≡ long

  same_log : (l : Log) → Longer l l
  same_log l = record { more = []; whole = append-nil l }

  longer_chain : (a b c : Log) → Longer a b → Longer b c → Longer a c
  longer_chain a b c h k =
      record {
        more = h.more ++ k.more;
        whole = sym (append_assoc a h.more k.more) ∙ ap (λ (l : Log). l ++ k.more) h.whole ∙ k.whole;
      }

  change_longer : (w : World S) (t : Step) → Longer w.log (change S w t).log
  change_longer w (command i m) = same_log w.log
  change_longer w (acknowledgment i j r a) = same_log w.log
  change_longer w (check i j r) = same_log w.log
  change_longer w (false_acknowledgment i j r x) = same_log w.log
  change_longer w (false_check i j r x) = same_log w.log
  change_longer w (false_entry j r nc c) = record { more = _; whole = refl }
  change_longer w (turn i) =
      turn_keeps S (λ (v : World S). Longer w.log v.log) (acknowledges S (w.site i)) {w = acknowledging_turn S i (w.site i) w} {v = proposing_turn S i (w.site i) w}
      (λ e. same_log w.log) (λ e. record { more = entry_of S i (w.site i) ∷ []; whole = refl })
  change_longer w (fast_delivery i m) = same_log w.log
  change_longer w (log_read i) = same_log w.log
  change_longer w (round_end i) = same_log w.log

  step_longer : (w : World S) (t : Step) → Longer w.log (step S w t).log
  step_longer w t = go (judge S w t)
    where
      go : (d : Verdict) → Longer w.log (settled d (change S w t) w).log
      go (Ok _) = change_longer w t
      go (Err r) = same_log w.log

  play_longer : (w : World S) (l : List Step) → Longer w.log (play S w l).log
  play_longer w [] = same_log w.log
  play_longer w (t ∷ l) = longer_chain w.log (step S w t).log (play S (step S w t) l).log (step_longer w t) (play_longer (step S w t) l)

  -- What a site holds, as it would be read off.
  abbrev reading : Site S → Reading
  reading s = record { round = s.round; list = commands_of s.ledger.deliveries }

  -- A site's list has what it delivered in earlier rounds and fast in this one.
  list_contents : (w : World S) → Good S w → (i m : ℕ) → m < commands
      → contents (commands_of (w.site i).ledger.deliveries) m ≡ ((w.site i).delivered ∪ (w.site i).fast) m
  list_contents w g i m l =
      alike-contents (System.machine S) (g.traced i).alike m
      ∙ contents-append (g.traced i).past.sequence (members commands (w.site i).fast) m
      ∙ (λ k. settled k || fast k)
    where
      v : Sound S (g.traced i).past
      v = history_sound S (w.site i).round w.log (g.traced i).past (g.traced i).at

      settled : contents (g.traced i).past.sequence m ≡ (w.site i).delivered m
      settled =
          same_test (contents (g.traced i).past.sequence m) ((g.traced i).past.settled m) (λ h. (v.member m h).1) (v.has m l)
          ∙ ap (λ (h : History). h.settled m) (same_some (sym (g.traced i).at ∙ (g.settled i).at)) ∙ ap (λ (x : Set). x m) (g.settled i).same

      fast : contents (members commands (w.site i).fast) m ≡ (w.site i).fast m
      fast =
          same_test (contents (members commands (w.site i).fast) m) ((w.site i).fast m)
          (λ h. (members_in commands (w.site i).fast m h).1) (members-has commands (w.site i).fast m l)

  -- A round end delivers the decided round's NC, then its C, without what was delivered before.
  due-new : (w : World S) → Good S w → (i : ℕ) (t : Tally)
      → deliver_new S (c_set S t) (deliver_new S (nc_set S t) (commands_of (w.site i).ledger.deliveries)) ≡ commands_of (w.site i).ledger.deliveries ++ due S t (w.site i)
  due-new w g i t =
      (λ k. (D ++ first k) ++ members commands (c_set S t ∖ contents (D ++ first k)))
      ∙ ap (λ (l : List ℕ). (D ++ N) ++ l)
      (members_ext commands (c_set S t ∖ contents (D ++ N)) (c_set S t ∖ ((w.site i).delivered ∪ (w.site i).fast))
      (λ m l. ap (λ (b : Bool). c_set S t m && not b) (contents-append D N m)
      ∙ skip_new (proposed S t m) (nc_set S t m) (contents D m) (((w.site i).delivered ∪ (w.site i).fast) m) (contents N m) (list_contents w g i m l)
      (λ h. left (nc_set S t m) (not (((w.site i).delivered ∪ (w.site i).fast) m)) (members_in commands (nc_set S t ∖ ((w.site i).delivered ∪ (w.site i).fast)) m h).1)))
      ∙ append_assoc D N (members commands (c_set S t ∖ ((w.site i).delivered ∪ (w.site i).fast)))
    where
      D : List ℕ
      D = commands_of (w.site i).ledger.deliveries

      N : List ℕ
      N = members commands (nc_set S t ∖ ((w.site i).delivered ∪ (w.site i).fast))

      first : members commands (nc_set S t ∖ contents D) ≡ N
      first =
          members_ext commands (nc_set S t ∖ contents D) (nc_set S t ∖ ((w.site i).delivered ∪ (w.site i).fast))
          (λ m l. same_skip (nc_set S t m) (contents D m) (((w.site i).delivered ∪ (w.site i).fast) m) (list_contents w g i m l))

  -- A step that only touches what is not read off.
  quiet : (w : World S) (i i' : ℕ) (s : Site S) → reading s ≡ reading (w.site i') → reading (w.site i) ≡ reading (pick (eqb i i') s (w.site i))
  quiet w i i' s h = go (eqb i i') refl
    where
      go : (b : Bool) → eqb i i' ≡ b → reading (w.site i) ≡ reading (pick b s (w.site i))
      go true e = ap (λ (k : ℕ). reading (w.site k)) (eqb-true i i' e) ∙ sym h
      go false e = refl

  -- A step that delivers at site i'.
  loud : (w : World S) (i i' : ℕ) (s : Site S) (d : Reading) → (i ≡ i' → d ≡ reading s) → pick (eqb i i') d (reading (w.site i)) ≡ reading (pick (eqb i i') s (w.site i))
  loud w i i' s d h = go (eqb i i') refl
    where
      go : (b : Bool) → eqb i i' ≡ b → pick b d (reading (w.site i)) ≡ reading (pick b s (w.site i))
      go true e = h (eqb-true i i' e)
      go false e = refl

  ended : (w : World S) → Good S w → (i : ℕ) (o : Option Tally) → decision S (w.site i) w.log ≡ o → is_some o ≡ true → (log : Log) → Longer w.log log
      → end_round S (tally_or (decide S (w.site i).round log)) (reading (w.site i)) ≡ reading (finish S (tally_or o) (w.site i))
  ended w g i None e h log more = absurd (never false h refl)
  ended w g i (Some t) e h log more =
      ap (λ (o : Option Tally). end_round S (tally_or o) (reading (w.site i))) decided
      ∙ (λ k. record { round = suc (w.site i).round; list = (due-new w g i t ∙ sym (fold_commands S (w.site i).ledger (due S t (w.site i)))) k })
    where
      decided : decide S (w.site i).round log ≡ Some t
      decided =
          subst (λ (l : Log). decide S (w.site i).round l ≡ Some t) more.whole
          (decide_grows S (w.site i).round w.log more.more t (decision_log S (w.site i) w.log t e))

  change_reads : (w : World S) → Good S w → (i : ℕ) (t : Step) → Met (demands S w t) → (log : Log) → Longer w.log log
      → read_step S i log (reading (w.site i)) t ≡ reading ((change S w t).site i)
  change_reads w g i (command i' m) h log more = quiet w i i' _ refl
  change_reads w g i (acknowledgment i' j r a) h log more = quiet w i i' _ refl
  change_reads w g i (check i' j r) h log more = quiet w i i' _ refl
  change_reads w g i (false_acknowledgment i' j r x) h log more = quiet w i i' _ refl
  change_reads w g i (false_check i' j r x) h log more = quiet w i i' _ refl
  change_reads w g i (false_entry j r nc c) h log more = refl
  change_reads w g i (turn i') h log more =
      turn_keeps S (λ (v : World S). reading (w.site i) ≡ reading (v.site i)) (acknowledges S (w.site i')) {w = acknowledging_turn S i' (w.site i') w} {v = proposing_turn S i' (w.site i') w}
      (λ e. quiet w i i' (acknowledge S (w.site i')) refl) (λ e. quiet w i i' (propose S (w.site i')) refl)
  change_reads w g i (fast_delivery i' m) h log more =
      loud w i i' (deliver_fast S m (w.site i')) _
      (λ e. (λ k. record { round = (w.site (e k)).round; list = commands_of (w.site (e k)).ledger.deliveries ++ (m ∷ []) })
      ∙ (λ k. record { round = (w.site i').round; list = sym (commands-append (w.site i').ledger.deliveries (record { command = m; answer = (System.machine S).answer (w.site i').ledger.state m } ∷ [])) k }))
  change_reads w g i (log_read i') h log more = quiet w i i' _ refl
  change_reads w g i (round_end i') h log more =
      loud w i i' (finish S (tally_or (decision S (w.site i') w.log)) (w.site i')) _
      (λ e. ap (λ (k : ℕ). end_round S (tally_or (decide S (w.site k).round log)) (reading (w.site k))) e
      ∙ ended w g i' (decision S (w.site i') w.log) refl h.1.1.1.0 log more)

  module _ (f : ℕ) (sizes : Sizes S f) where
    play_reads : (w : World S) → Good S w → (i : ℕ) (l : List Step) (log : Log) → Longer (play S w l).log log
        → foldl (read_step S i log) (reading (w.site i)) (taken S w l) ≡ reading ((play S w l).site i)
    play_reads w g i [] log more = refl
    play_reads w g i (t ∷ l) log more = go (judge S w t) refl (play_reads (step S w t) (good_step S f sizes w t g) i l log more)
      where
        here : Longer w.log log
        here = longer_chain w.log (play S w (t ∷ l)).log log (play_longer w (t ∷ l)) more

        go : (d : Verdict) → judge S w t ≡ d
            → foldl (read_step S i log) (reading ((settled d (change S w t) w).site i)) (taken S (settled d (change S w t) w) l) ≡ reading ((play S (settled d (change S w t) w) l).site i)
            → foldl (read_step S i log) (reading (w.site i)) (pick (is_taken d) (t ∷ taken S (settled d (change S w t) w) l) (taken S (settled d (change S w t) w) l))
            ≡ reading ((play S (settled d (change S w t) w) l).site i)
        go (Ok _) e ih =
            ap (λ (x : Reading). foldl (read_step S i log) x (taken S (change S w t) l)) (change_reads w g i t (met (demands S w t) e) log here) ∙ ih
        go (Err r) e ih = ih

    -- What site i delivers is what it holds.
    pub read_off : (i : ℕ) (l : List Step) → delivers S i (play S (start S) l).log (taken S (start S) l) ≡ commands_of ((play S (start S) l).site i).ledger.deliveries
    read_off i l = ap (λ (x : Reading). x.list) (play_reads (start S) (good_start S) i l (play S (start S) l).log (same_log (play S (start S) l).log))
