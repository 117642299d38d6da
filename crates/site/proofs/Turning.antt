-- A turn: the code's choice is the protocol's verdict, and the header after it is that of the protocol's site.
-- Assumes nothing.
use mathlib.Core.Path.{◌≡◌, refl, sym, ap, subst, ◌∙◌}
use Rattle.refusals.specs.declared.Refusal.{Refusal}
use Rattle.std.specs.Prelude.{Err, Ok, Result}
use mathlib.Core.Bool.{Bool, true, false, ◌&&◌, ◌||◌, not}
use mathlib.Core.Logic.{◌⊎◌, inl, inr, ⊎_elim}
use mathlib.Core.List.{List}
use Prim.Native.Nat.{ℕ, ◌^◌, ◌≤◌, ◌<◌}
use lib.Dec.{leb, ltb}
use lib.ListN.{length, get_or}
use borrow.Author.Tests.{lt-ltb, le-ltb, le-leb, lt-leb}
use Rattle.refusals.specs.Refusals.{settled}
use Rattle.refusals.specs.declared.Refusal.TheVariants.{Disabled, ThirdEntry, LastRound}
use Rattle.refusals.specs.Refusals.{Verdict}
use Rattle.theory.specs.Sets.{pick, any}
use Rattle.theory.specs.Counting.{never, same_test, lt_or_le, any_some, any_at, any_ext, not-not}
use Rattle.sets.specs.declared.Set.{Set}
use Rattle.sets.specs.Sets.{capacity, in_set, set_of, without_of, is_empty_of, within_of, write_set}
use Rattle.sets.proofs.Laws.{in_without, in_above, without_fits, within_at, set_of-members}
use Rattle.table.specs.declared.SiteTable.{SiteTable}
use Rattle.register.specs.declared.Command.{Command}
use Rattle.protocol.specs.System.{granted, ◌else◌⨾◌, verdict}
use Rattle.protocol.specs.Recovery.{Log, entries}
use Rattle.protocol.specs.Site as protocol
use Rattle.protocol.specs.Site.{waiting}
use Rattle.system.specs.Dash.{dash, last_round}
use Rattle.layout.specs.declared.Proposal.{Proposal}
use Rattle.layout.specs.declared.Phase.{Phase}
use Rattle.layout.specs.declared.Phase.TheVariants.{Acknowledging, Waiting}
use Rattle.layout.specs.declared.Site.{Site}
use Rattle.layout.specs.Layout.{pending_place, head_of, heard_of, phase_seen, phased, site_of, view}
use Rattle.layout.specs.Good.{Fit, GoodHead, Good, HoldsOver}
use Rattle.layout.proofs.Header.{fit}
use Rattle.layout.proofs.Fields.{begins, with_pending, with_phase, pending_written, phase_written}
use Rattle.layout.proofs.Tables.{within_without}
use Rattle.layout.proofs.Finish.{finish, unchanged}
use Rattle.site.specs.declared.Turn.{Turn}
use Rattle.site.specs.declared.Turn.TheVariants as turn
use Rattle.site.specs.Steps.{undelivered_of, new_of, chosen_in, chosen, answer_to, Turned}

-- ---- the paths of the code

module _ (h : Site) (free third : Bool) where
  pub choose_waiting : (p : Proposal) → h.phase ≡ Waiting p → Err Disabled ≡ chosen h free third
  unfolding chosen
  choose_waiting p e = ap (λ (x : Phase). chosen_in x h free third) (sym e)

  module _ (e : h.phase ≡ Acknowledging) {u n : Set} {v : Bool} (eu : u ≡ undelivered_of h) (en : n ≡ without_of u h.pending) (ev : v ≡ is_empty_of n) where
    -- What the code makes of what is new.
    new_is : n ≡ new_of h
    new_is = en ∙ ap (λ (x : Set). without_of x h.pending) eu

    empty_is : {x : Bool} → v ≡ x → is_empty_of (new_of h) ≡ x
    empty_is ex = ap is_empty_of (sym new_is) ∙ sym ev ∙ ex

    pub choose_nothing : v ≡ true → Err Disabled ≡ chosen h free third
    unfolding chosen
    choose_nothing ex = simp (e, empty_is ex)

    module _ (ex : v ≡ false) where
      pub choose_free : free ≡ true → Ok (turn.Acknowledged u) ≡ chosen h free third
      unfolding chosen
      choose_free f = simp (e, empty_is ex, f, eu)

      pub choose_third : free ≡ false → third ≡ true → Err ThirdEntry ≡ chosen h free third
      unfolding chosen
      choose_third f o = simp (e, empty_is ex, f, o)

      module _ (f : free ≡ false) (o : third ≡ false) where
        pub choose_last : last_round < h.round → Err LastRound ≡ chosen h free third
        unfolding chosen
        choose_last l = simp (e, empty_is ex, f, o, lt-leb h.round last_round l)

        pub choose_propose : h.round ≤ last_round → Ok (turn.Proposed u (record { nc = h.pending; c = n })) ≡ chosen h free third
        unfolding chosen
        choose_propose l =
            (λ i. Ok (turn.Proposed (eu i) (record { nc = h.pending; c = new_is i }))) ∙ simp (e, empty_is ex, f, o, le-leb h.round last_round l)

-- ---- the choice is the verdict

-- What a turn answers, given the sets that it sends.
answered : Verdict → Bool → Set → Proposal → Result Turn Refusal
answered (Ok _) true u p = Ok (turn.Acknowledged u)
answered (Ok _) false u p = Ok (turn.Proposed u p)
answered (Err r) free u p = Err r

-- By the tests of an acknowledging site alone.
by_tests : (empty free third low : Bool) (u : Set) (p : Proposal)
    → pick empty (Err Disabled) (pick free (Ok (turn.Acknowledged u)) (pick third (Err ThirdEntry) (pick low (Ok (turn.Proposed u p)) (Err LastRound))))
    ≡ answered (verdict (not empty else Disabled ⨾ free || not third else ThirdEntry ⨾ free || low else LastRound ⨾ granted)) free u p
unfolding answered
by_tests true free third low u p = refl
by_tests false true third low u p = refl
by_tests false false false true u p = refl
by_tests false false false false u p = refl
by_tests false false true low u p = refl

-- What is in one set and neither of two others.
neither : (r d p : Bool) → (r && not d && not p) ≡ (r && not (d || p))
neither true true p = refl
neither true false p = refl
neither false d p = refl

-- Two entries of a site and its round make the next a third.
pub third_entry : (n : ℕ) → not (leb 2 n) ≡ ltb n 2
third_entry n = ⊎_elim (λ l. ap not (lt-leb 2 n l) ∙ sym (lt-ltb n 2 l)) (λ l. ap not (le-leb 2 n l) ∙ sym (le-ltb n 2 l)) (lt_or_le n 2)

-- A set within the book has a command below the number of commands where it has one at all.
pub any-within : (x : Set) (n : ℕ) → x.bits < 2 ^ 64 → within_of x n ≡ true → any 64 (in_set x) ≡ any n (in_set x)
any-within x n f w =
    same_test (any 64 (in_set x)) (any n (in_set x))
    (λ e. let m = any_some 64 (in_set x) e in any_at n (in_set x) m.0 (within_at x n w m.0 m.1 m.2) m.2)
    (λ e. let m = any_some n (in_set x) e in any_at 64 (in_set x) m.0 (below m.0 m.2 (lt_or_le m.0 64)) m.2)
  where
    below : (m : ℕ) → in_set x m ≡ true → (m < 64) ⊎ (64 ≤ m) → m < 64
    below m e (inl l) = l
    below m e (inr l) = absurd (never (in_set x m) e (in_above x m f l))

module _ (t : SiteTable) (book : List Command) (h : Site) (heard : ℕ → ℕ → ℕ → Bool) (ledger : protocol.Ledger (dash t book)) (f : Fit h) (g : GoodHead (length book) h) where
  undelivered_fits : (undelivered_of h).bits < 2 ^ 64
  undelivered_fits = without_fits h.received h.delivered f.received f.delivered

  new_fits : (new_of h).bits < 2 ^ 64
  new_fits = without_fits (undelivered_of h) h.pending undelivered_fits f.pending

  new-within : within_of (new_of h) (length book) ≡ true
  new-within = within_without (undelivered_of h) h.pending (length book) (within_without h.received h.delivered (length book) g.received)

  in_new : (m : ℕ) → in_set (new_of h) m ≡ protocol.unacknowledged (dash t book) (site_of t book h heard ledger) m
  in_new m =
      in_without (undelivered_of h) h.pending m
      ∙ ap (λ (x : Bool). x && not (in_set h.pending m)) (in_without h.received h.delivered m)
      ∙ neither (in_set h.received m) (in_set h.delivered m) (in_set h.pending m)

  some-new : not (is_empty_of (new_of h)) ≡ any (length book) (protocol.unacknowledged (dash t book) (site_of t book h heard ledger))
  some-new =
      not-not (any 64 (in_set (new_of h)))
      ∙ any-within (new_of h) (length book) new_fits new-within
      ∙ any_ext (length book) (in_set (new_of h)) (protocol.unacknowledged (dash t book) (site_of t book h heard ledger)) (λ m l. in_new m)

  entry : Proposal
  entry = record { nc = h.pending; c = new_of h }

  entry_is : entry ≡ record { nc = h.pending; c = new_of h }
  unfolding entry
  entry_is = refl

  choice : (free third : Bool) (i : ℕ) (log : Log) → free ≡ protocol.acknowledges (dash t book) (site_of t book h heard ledger) → not third ≡ ltb (entries i h.round log) 2
      → chosen h free third
      ≡ answered (verdict (protocol.for_turn (dash t book) i (site_of t book h heard ledger) log)) (protocol.acknowledges (dash t book) (site_of t book h heard ledger)) (undelivered_of h) entry
  unfolding chosen answered entry
  choice free third i log ef eo =
      by_phase h.phase
      ∙ (λ k.
      answered
      (verdict
      (protocol.is_acknowledging (phase_seen h.phase) else Disabled
      ⨾ some-new k else Disabled
      ⨾ ef k || eo k else ThirdEntry
      ⨾ ef k || leb h.round last_round else LastRound
      ⨾ granted))
      (ef k) (undelivered_of h) entry)
    where
      by_phase : (p : Phase) → chosen_in p h free third
          ≡ answered
          (verdict
          (protocol.is_acknowledging (phase_seen p) else Disabled
          ⨾ not (is_empty_of (new_of h)) else Disabled
          ⨾ free || not third else ThirdEntry
          ⨾ free || leb h.round last_round else LastRound
          ⨾ granted))
          free (undelivered_of h) entry
      by_phase Acknowledging = by_tests (is_empty_of (new_of h)) free third (leb h.round last_round) (undelivered_of h) entry
      by_phase (Waiting p) = refl

  undelivered-set : undelivered_of h ≡ set_of capacity (protocol.undelivered (dash t book) (site_of t book h heard ledger))
  undelivered-set = sym (set_of-members (undelivered_of h) undelivered_fits) ∙ (λ k. set_of capacity (λ m. in_without h.received h.delivered m k))

  new-set : new_of h ≡ set_of capacity (protocol.unacknowledged (dash t book) (site_of t book h heard ledger))
  new-set = sym (set_of-members (new_of h) new_fits) ∙ (λ k. set_of capacity (λ m. in_new m k))

  sent : (v : Verdict) (free : Bool) → answered v free (undelivered_of h) entry ≡ answer_to t book v free (site_of t book h heard ledger)
  unfolding answered entry
  sent (Ok _) true = ap (λ x. Ok (turn.Acknowledged x)) undelivered-set
  sent (Ok _) false = λ k. Ok (turn.Proposed (undelivered-set k) (record { nc = sym (set_of-members h.pending f.pending) k; c = new-set k }))
  sent (Err r) free = refl

-- ---- the bytes after a turn

-- What a turn that answers so writes.
abbrev pub written_by : Result Turn Refusal → List ℕ → List ℕ
written_by (Ok (turn.Acknowledged x)) b = write_set b pending_place x
written_by (Ok (turn.Proposed x p)) b = phased b (Waiting p)
written_by (Err r) b = b

module _ (t : SiteTable) (book : List Command) (b : List ℕ) (small : (i : ℕ) → get_or b i 0 < 256) (good : Good t.sites (length book) b) where
  module _ {b' : List ℕ} (small' : (i : ℕ) → get_or b' i 0 < 256) where
    turn_site : (v : Verdict) (free : Bool) (u : Set) (p : Proposal) → u ≡ undelivered_of (head_of b) → p ≡ record { nc = (head_of b).pending; c = new_of (head_of b) }
        → b' ≡ written_by (answered v free u p) b
        → HoldsOver t book b b' (settled v (pick free (protocol.acknowledge (dash t book) (view t book b)) (protocol.propose (dash t book) (view t book b))) (view t book b))
    unfolding answered head_of
    turn_site (Ok _) true u p eu ep eb =
        let f = fit b small good.size in
        let g = good.head in
        let h = head_of b in
        finish t book b b (with_pending h (undelivered_of h)) good.size (eb ∙ ap (write_set b pending_place) eu ∙ pending_written h b (begins b good small) (undelivered_of h)) small'
        (record {
          round = f.round;
          deliveries = f.deliveries;
          span = f.span;
          position = f.position;
          received = f.received;
          delivered = f.delivered;
          pending = without_fits h.received h.delivered f.received f.delivered;
          fast = f.fast;
          nc = f.nc;
          c = f.c;
        })
        (record {
          first = g.first;
          last = g.last;
          few = g.few;
          room = g.room;
          span = g.span;
          received = g.received;
          delivered = g.delivered;
          pending = within_without h.received h.delivered (length book) g.received;
          fast = g.fast;
          nc = g.nc;
          c = g.c;
        })
        good.tables refl
        (λ i.
        record {
          received = in_set h.received;
          delivered = in_set h.delivered;
          pending = λ m. in_without h.received h.delivered m i;
          fast = in_set h.fast;
          round = h.round;
          phase = phase_seen h.phase;
          position = h.position;
          heard = heard_of b;
          ledger = (view t book b).ledger;
        })
    turn_site (Ok _) false u p eu ep eb =
        let f = fit b small good.size in
        let g = good.head in
        let h = head_of b in
        finish t book b b (with_phase h (Waiting (record { nc = h.pending; c = new_of h }))) good.size
        (eb ∙ ap (λ (x : Proposal). phased b (Waiting x)) ep ∙ phase_written h b (begins b good small) (Waiting (record { nc = h.pending; c = new_of h }))) small'
        (record {
          round = f.round;
          deliveries = f.deliveries;
          span = f.span;
          position = f.position;
          received = f.received;
          delivered = f.delivered;
          pending = f.pending;
          fast = f.fast;
          nc = f.pending;
          c = new_fits t book h (heard_of b) (view t book b).ledger f g;
        })
        (record {
          first = g.first;
          last = g.last;
          few = g.few;
          room = g.room;
          span = g.span;
          received = g.received;
          delivered = g.delivered;
          pending = g.pending;
          fast = g.fast;
          nc = g.pending;
          c = new-within t book h (heard_of b) (view t book b).ledger f g;
        })
        good.tables refl
        (λ i.
        record {
          received = in_set h.received;
          delivered = in_set h.delivered;
          pending = in_set h.pending;
          fast = in_set h.fast;
          round = h.round;
          phase = waiting (record { nc = in_set h.pending; c = λ m. in_new t book h (heard_of b) (view t book b).ledger f g m i });
          position = h.position;
          heard = heard_of b;
          ledger = (view t book b).ledger;
        })
    turn_site (Err r) free u p eu ep eb =
        subst (λ (l : List ℕ). HoldsOver t book b l (view t book b)) (sym eb) (unchanged t book good small)

  pub turn_holds : {r : Result Turn Refusal} {b' : List ℕ} (free third : Bool) (i : ℕ) (log : Log) → r ≡ chosen (head_of b) free third → b' ≡ written_by r b
      → ((i : ℕ) → get_or b' i 0 < 256) → free ≡ protocol.acknowledges (dash t book) (view t book b) → not third ≡ ltb (entries i (view t book b).round log) 2
      → Turned t book i log (view t book b) b r b'
  turn_holds {r = r} free third i log er eb small' ef eo =
      let v = verdict (protocol.for_turn (dash t book) i (view t book b) log) in
      let k = protocol.acknowledges (dash t book) (view t book b) in
      let f = fit b small good.size in
      let heard = heard_of b in
      let ledger = (view t book b).ledger in
      let e = er ∙ choice t book (head_of b) heard ledger f good.head free third i log ef eo in
      record {
        answer = e ∙ sent t book (head_of b) heard ledger f good.head v k;
        site =
            turn_site small' v k (undelivered_of (head_of b)) (entry t book (head_of b) heard ledger f good.head) refl (entry_is t book (head_of b) heard ledger f good.head)
            (eb ∙ ap (λ (x : Result Turn Refusal). written_by x b) e);
      }
