-- A turn on lent buffers: what is sent and appended, from what the site answers.
-- Assumes nothing.
use mathlib.Core.Path.{◌≡◌, refl, sym, ap, subst, ◌∙◌}
use Rattle.std.specs.Prelude.{Err, Ok, Result, Some}
use mathlib.Core.Bool.{Bool, true, false, ◌&&◌, ◌||◌, not}
use mathlib.Core.List.{List, [], ◌∷◌, ◌++◌}
use Prim.Native.Nat.{ℕ, ◌+◌, ◌≤◌, ◌<◌}
use native.Mathlib.Omega.{arith}
use lib.Dec.{eqb, leb, ltb}
use lib.ListN.{length, get_or, length-append}
use borrow.Author.Tests.{lt-ltb, le-ltb, le-leb, eq-eqb, ltb-true}
use Rattle.refusals.specs.declared.Refusal.{Refusal}
use Rattle.refusals.specs.Refusals.{Verdict, accepted}
use Rattle.refusals.specs.declared.Refusal.TheVariants.{Range, Role, Disabled, ThirdEntry, LastRound}
use Rattle.refusals.specs.Refusals.{settled}
use Rattle.theory.specs.Sets as theory
use Rattle.theory.specs.Sets.{pick, any}
use Rattle.theory.specs.Counting.{both, never, not-not}
use Rattle.sets.specs.declared.Set.{Set}
use Rattle.sets.specs.Sets.{capacity, in_set, set_of, within_of}
use Rattle.sets.proofs.Laws.{in_without, word_lt}
use Rattle.table.specs.declared.SiteTable.{SiteTable}
use Rattle.table.specs.Table.{max_sites, faulty_of}
use Rattle.table.proofs.Laws.{good_limits}
use Rattle.commands.specs.Book.{commands_of}
use Rattle.calm.specs.Rows.{free_by}
use Rattle.calm.proofs.Same.{free-rows}
use Rattle.protocol.specs.System.{granted, ◌else◌⨾◌, verdict, correct, free}
use Rattle.protocol.specs.Recovery as recovery
use Rattle.protocol.specs.Site as protocol
use Rattle.protocol.specs.Site.{is_acknowledging, undelivered, unacknowledged, acknowledges, acknowledge, propose, for_turn}
use Rattle.protocol.specs.World.{World, turn, judge, step, put, append, send_check, entry_of, acknowledging_turn, proposing_turn}
use Rattle.register.specs.declared.Command.{Command}
use Rattle.system.specs.Dash.{dash, last_round}
use Rattle.layout.specs.declared.Proposal.{Proposal}
use Rattle.layout.specs.Layout.{site_rounds, head_of, view, site_at}
use Rattle.layout.specs.Good.{Good, HoldsOver}
use Rattle.layout.proofs.Finish.{alone}
use Rattle.site.specs.declared.Turn.{Turn}
use Rattle.site.specs.declared.Turn.TheVariants as turns
use Rattle.site.specs.Steps.{undelivered_of, TookTurn, Turned, answer_to}
use Rattle.rounds.specs.Rounds.{Kept}
use Rattle.rounds.specs.declared.Rounds.{Rounds}
use Rattle.entries.specs.Entries.{log_to, write_entry, view_entry, in_range_of}
use Rattle.entries.proofs.Bytes.{Fits}
use Rattle.sent.specs.Sent as sent
use Rattle.sent.specs.Sent.{max_acknowledgments, cell_of, acks_of, checks_of, acknowledged_in, checked_in, one_more, checked}
use Rattle.world.specs.World.{Buffers, PastRows, known_to, entry_for, world_of, HoldsWorld, Outcome}
use Rattle.world.specs.Parts.{lent, AtSite}
use Rattle.world.proofs.Sites.{small_site}
use Rattle.world.proofs.Past.{past-held}
use Rattle.world.proofs.Hold.{seen, position_seen, put_holds, refused, taken, past_at, refused_site}
use Rattle.world.proofs.Growing.{entry_holds, acknowledgment_holds, check_holds}
use Rattle.moves.specs.Moves.{Ready, TurnedBy}
use Rattle.moves.proofs.Words.{undelivered-word, unacknowledged-word, pending_word, undelivered-known, unacknowledged-known}

-- ---- the site's part

-- The conflict test by the rows and the number of entries by what is kept of the log are those that the turn asks for.
pub turned_by : (rows : List ℕ) (kept : Rounds) (i : ℕ) (b : List ℕ) {u : Set} {f third : Bool} {round : ℕ} {r : Result Turn Refusal} {after : List ℕ}
    → u ≡ undelivered_of (head_of b) → f ≡ free_by rows (in_set u) → round ≡ (head_of b).round
    → ((t : SiteTable) (rows log : List ℕ) → Kept t rows log kept → third ≡ not (ltb (recovery.entries i round (log_to log kept.entries)) 2))
    → TookTurn f third b r after → TurnedBy rows kept i r b after
turned_by rows kept i b {u} eu ef er et took =
    λ t book log ec ek g.
    took t (commands_of book) i (log_to log kept.entries) g
    (ef
    ∙ (λ k. free_by (ec k) (in_set u))
    ∙ free-rows book t (in_set u)
    ∙ ap (free (dash t (commands_of book))) (ap in_set eu ∙ (λ k m. in_without (head_of b).received (head_of b).delivered m k)))
    (ap not (et t rows log ek) ∙ not-not (ltb (recovery.entries i _ (log_to log kept.entries)) 2) ∙ (λ k. ltb (recovery.entries i (er k) (log_to log kept.entries)) 2))

-- ---- what an answer tells

module _ (t : SiteTable) (book : List Command) (s : protocol.Site (dash t book)) where
  told_refused : (x : Refusal) (v : Verdict) (a : Bool) → Err x ≡ answer_to t book v a s → v ≡ Err x
  told_refused x (Ok _) true e = absurd (let z : ◌≡◌ {A = ℕ} 0 1 = cc in omega arith)
  told_refused x (Ok _) false e = absurd (let z : ◌≡◌ {A = ℕ} 0 1 = cc in omega arith)
  told_refused x (Err y) a e = ap Err (let q : y ≡ x = cc in q)

  told_acknowledged : (x : Set) (v : Verdict) (a : Bool) → Ok (turns.Acknowledged x) ≡ answer_to t book v a s
      → (v ≡ accepted) × (a ≡ true) × (x ≡ set_of capacity (undelivered (dash t book) s))
  told_acknowledged x (Ok _) true e = (refl, refl, (let q : x ≡ set_of capacity (undelivered (dash t book) s) = cc in q))
  told_acknowledged x (Ok _) false e = absurd (let z : ◌≡◌ {A = ℕ} 0 1 = cc in omega arith)
  told_acknowledged x (Err y) a e = absurd (let z : ◌≡◌ {A = ℕ} 0 1 = cc in omega arith)

  -- The sets that a site proposes, as words.
  abbrev proposed_words : Proposal
  proposed_words = record { nc = set_of capacity s.pending; c = set_of capacity (unacknowledged (dash t book) s) }

  told_proposed : (x : Set) (p : Proposal) (v : Verdict) (a : Bool) → Ok (turns.Proposed x p) ≡ answer_to t book v a s
      → (v ≡ accepted) × (a ≡ false) × (x ≡ set_of capacity (undelivered (dash t book) s)) × (p ≡ proposed_words)
  told_proposed x p (Ok _) true e = absurd (let z : ◌≡◌ {A = ℕ} 0 1 = cc in omega arith)
  told_proposed x p (Ok _) false e =
      (refl, refl, (let q : x ≡ set_of capacity (undelivered (dash t book) s) = cc in q), (let q : p ≡ proposed_words = cc in q))
  told_proposed x p (Err y) a e = absurd (let z : ◌≡◌ {A = ℕ} 0 1 = cc in omega arith)

-- A turn that is taken and does not acknowledge appends no third entry, and is of a round that the log takes.
told_entry : (p q x c d : Bool) → verdict (p else Disabled ⨾ q else Disabled ⨾ x || c else ThirdEntry ⨾ x || d else LastRound ⨾ granted) ≡ accepted → x ≡ false
    → (c ≡ true) × (d ≡ true)
told_entry false q x c d h e = absurd (let z : ◌≡◌ {A = ℕ} 0 1 = cc in omega arith)
told_entry true false x c d h e = absurd (let z : ◌≡◌ {A = ℕ} 0 1 = cc in omega arith)
told_entry true true true c d h e = absurd (never true refl e)
told_entry true true false false d h e = absurd (let z : ◌≡◌ {A = ℕ} 0 1 = cc in omega arith)
told_entry true true false true false h e = absurd (let z : ◌≡◌ {A = ℕ} 0 1 = cc in omega arith)
told_entry true true false true true h e = (refl, refl)

-- ---- the step

module _ (t : SiteTable) (bytes rows : List ℕ) (b : Buffers) (i : ℕ) (ready : Ready t bytes rows b (turn i)) (small : (k : ℕ) → get_or b.sites k 0 < 256) where
  abbrev book : List Command
  book = commands_of bytes

  abbrev world : World (dash t book)
  world = world_of t book b

  pub turn_range : t.sites ≤ i → Outcome t book (turn i) b (Err Range) b
  turn_range h = refused t book b ready.world (turn i) Range (simp (le-ltb i t.sites h)) small

  pub turn_role : i < t.sites → {f : Bool} → f ≡ faulty_of t i → f ≡ true → Outcome t book (turn i) b (Err Role) b
  turn_role a ef h = refused t book b ready.world (turn i) Role (let e : faulty_of t i ≡ true = sym ef ∙ h in simp (lt-ltb i t.sites a, e)) small

  module _ (inside : i < t.sites) where
    at : world.site i ≡ view t book (site_at b.sites i)
    at = seen t book b ready.world i inside

    part_small : (k : ℕ) → get_or (site_at b.sites i) k 0 < 256
    part_small = small_site b.sites small i

    part_good : Good t.sites (length book) (site_at b.sites i)
    part_good = ready.world.site i inside

    pub round_told : {k : ℕ} → k ≡ (head_of (site_at b.sites i)).round → (1 ≤ k) × (k ≤ site_rounds) × (i < max_sites)
    round_told e =
        let l = part_good.head.first in
        let m = part_good.head.last in
        let n = (good_limits t ready.table).sites in
        (omega arith, omega arith, omega arith)

    undelivered_back : in_set (set_of capacity (undelivered (dash t book) (world.site i))) ≡ undelivered (dash t book) (world.site i)
    undelivered_back =
        subst (λ (s : protocol.Site (dash t book)). in_set (set_of capacity (undelivered (dash t book) s)) ≡ undelivered (dash t book) s) (sym at)
        (undelivered-word t book (site_at b.sites i) part_good part_small)

    known : known_to (length book) (Some (undelivered (dash t book) (world.site i))) ≡ true
    known =
        subst (λ (s : protocol.Site (dash t book)). known_to (length book) (Some (undelivered (dash t book) s)) ≡ true) (sym at)
        (undelivered-known t book (site_at b.sites i) part_good part_small)

    module _ {f : Bool} (ef : f ≡ faulty_of t i) (hf : f ≡ false) {r : Result Turn Refusal} {sites : List ℕ} {kept : Rounds} (en : b.entries ≡ kept.entries) (ek : Kept t rows b.log kept)
        (h : AtSite i (TurnedBy rows kept i r) b.sites sites) where
      turned : Turned t book i world.log (world.site i) (site_at b.sites i) r h.new
      turned =
          subst (λ (s : protocol.Site (dash t book)). Turned t book i world.log s (site_at b.sites i) r h.new) (sym at)
          (subst (λ (n : ℕ). Turned t book i (log_to b.log n) (view t book (site_at b.sites i)) (site_at b.sites i) r h.new) (sym en)
          (h.did t bytes b.log ready.conflicts ek part_good))

      judged : judge (dash t book) world (turn i) ≡ verdict (for_turn (dash t book) i (world.site i) world.log)
      judged =
          (λ k. verdict (lt-ltb i t.sites inside k else Range ⨾ correct (dash t book) i else Role ⨾ for_turn (dash t book) i (world.site i) world.log))
          ∙ (λ k. verdict (not ((sym ef ∙ hf) k) else Role ⨾ for_turn (dash t book) i (world.site i) world.log))

      pub turn_refused : (x : Refusal) → r ≡ Err x → Outcome t book (turn i) b (Err x) (lent sites b.log b.entries b.sent)
      turn_refused x e =
          let v = told_refused t book (world.site i) x (verdict (for_turn (dash t book) i (world.site i) world.log)) (acknowledges (dash t book) (world.site i)) (sym e ∙ turned.answer) in
          refused_site t book b ready.world (turn i) small i inside h
          (subst
          (λ (y : Verdict).
          HoldsOver t book (site_at b.sites i) h.new
          (settled y (pick (acknowledges (dash t book) (world.site i)) (acknowledge (dash t book) (world.site i)) (propose (dash t book) (world.site i))) (world.site i)))
          v turned.site)
          x (judged ∙ v)

      -- What is past the rows of the sites after a turn.
      turned-past : PastRows t.sites b.sites sites
      turned-past = past_at t book b ready.world (turn i) i inside h (past-held t book (omega arith) turned.site)

      -- The world with the site as it is after a turn that is taken.
      put-turned : (a : Bool) → verdict (for_turn (dash t book) i (world.site i) world.log) ≡ accepted → acknowledges (dash t book) (world.site i) ≡ a
          → HoldsWorld t book (lent sites b.log b.entries b.sent)
          (put (dash t book) i (pick a (acknowledge (dash t book) (world.site i)) (propose (dash t book) (world.site i))) world)
      put-turned a ev ea =
          subst (λ (y : List ℕ). HoldsWorld t book (lent y b.log b.entries b.sent) (put (dash t book) i (pick a (acknowledge (dash t book) (world.site i)) (propose (dash t book) (world.site i))) world))
          (sym h.bytes)
          (put_holds t book b ready.world small i inside
          (subst (λ (y : protocol.Site (dash t book)). HoldsOver t book h.new h.new y)
          (λ k. settled (ev k) (pick (ea k) (acknowledge (dash t book) (world.site i)) (propose (dash t book) (world.site i))) (world.site i)) (alone t book turned.site))
          (unread a))
        where
          unread : (y : Bool) → (pick y (acknowledge (dash t book) (world.site i)) (propose (dash t book) (world.site i))).position ≤ b.entries
          unread true = position_seen t book b ready.world i inside
          unread false = position_seen t book b ready.world i inside

      module _ (x : Set) (e : r ≡ Ok (turns.Acknowledged x)) where
        told : (verdict (for_turn (dash t book) i (world.site i) world.log) ≡ accepted) × (acknowledges (dash t book) (world.site i) ≡ true)
            × (x ≡ set_of capacity (undelivered (dash t book) (world.site i)))
        told = told_acknowledged t book (world.site i) x (verdict (for_turn (dash t book) i (world.site i) world.log)) (acknowledges (dash t book) (world.site i)) (sym e ∙ turned.answer)

        -- There is room for the acknowledgment.
        pub room_told : (k : ℕ) → k ≡ (head_of (site_at b.sites i)).round → length (acks_of b.sent i k) < max_acknowledgments
        room_told k ek =
            let q : k ≡ (world.site i).round = ek ∙ sym (λ z. (at z).round) in
            let l = ready.acks i k in
            let sent_all : (step (dash t book) world (turn i)).acks i k ≡ acks_of b.sent i k ++ (undelivered (dash t book) (world.site i) ∷ []) =
            (λ z. (settled ((judged ∙ told.0) z) (pick (told.1 z) (acknowledging_turn (dash t book) i (world.site i) world) (proposing_turn (dash t book) i (world.site i) world)) world).acks i k)
            ∙ ap (λ (y : Bool). pick y (acks_of b.sent i k ++ (undelivered (dash t book) (world.site i) ∷ [])) (acks_of b.sent i k))
            (both (eqb i i) (eqb k (world.site i).round) (eq-eqb i i refl) (eq-eqb k (world.site i).round q)) in
            omega (arith, l, ap length sent_all, length-append (acks_of b.sent i k) (undelivered (dash t book) (world.site i) ∷ []))

        pub acknowledged : (k : ℕ) → k ≡ (head_of (site_at b.sites i)).round → {after : List ℕ}
            → sent.Holds after (acknowledged_in b.sent (cell_of i k) x) (one_more i k (in_set x) (acks_of b.sent)) (checks_of b.sent)
            → Outcome t book (turn i) b accepted (lent sites b.log b.entries after)
        acknowledged k ek {after} s =
            let q : k ≡ (world.site i).round = ek ∙ sym (λ z. (at z).round) in
            let new : sent.Holds after (acknowledged_in b.sent (cell_of i (world.site i).round) (set_of capacity (undelivered (dash t book) (world.site i))))
            (one_more i (world.site i).round (undelivered (dash t book) (world.site i)) (acks_of b.sent)) (checks_of b.sent) =
            subst
            (λ (y : theory.Set).
            sent.Holds after (acknowledged_in b.sent (cell_of i (world.site i).round) (set_of capacity (undelivered (dash t book) (world.site i))))
            (one_more i (world.site i).round y (acks_of b.sent)) (checks_of b.sent))
            undelivered_back
            (subst (λ (y : Set). sent.Holds after (acknowledged_in b.sent (cell_of i (world.site i).round) y) (one_more i (world.site i).round (in_set y) (acks_of b.sent)) (checks_of b.sent))
            told.2
            (subst (λ (y : ℕ). sent.Holds after (acknowledged_in b.sent (cell_of i y) x) (one_more i y (in_set x) (acks_of b.sent)) (checks_of b.sent)) q s)) in
            taken t book b ready.world (turn i) (judged ∙ told.0)
            (subst (HoldsWorld t book (lent sites b.log b.entries after))
            (sym (ap (λ (y : Bool). pick y (acknowledging_turn (dash t book) i (world.site i) world) (proposing_turn (dash t book) i (world.site i) world)) told.1))
            (acknowledgment_holds t book (lent sites b.log b.entries b.sent) (put-turned true told.0 told.1) i (world.site i).round
            (undelivered (dash t book) (world.site i)) known new))
            (sym (ap (λ (y : Bool). pick y b.log (write_entry b.log b.entries (entry_for (entry_of (dash t book) i (world.site i))))) told.1))
            (new.bytes
            ∙ sym (ap (λ (y : Bool). pick y (acknowledged_in b.sent (cell_of i (world.site i).round) (set_of capacity (undelivered (dash t book) (world.site i))))
            (checked_in b.sent (cell_of i (world.site i).round) (set_of capacity (undelivered (dash t book) (world.site i))))) told.1))
            turned-past

      module _ (x : Set) (p : Proposal) (e : r ≡ Ok (turns.Proposed x p)) where
        proposal_told : (verdict (for_turn (dash t book) i (world.site i) world.log) ≡ accepted) × (acknowledges (dash t book) (world.site i) ≡ false)
            × (x ≡ set_of capacity (undelivered (dash t book) (world.site i))) × (p ≡ proposed_words t book (world.site i))
        proposal_told = told_proposed t book (world.site i) x p (verdict (for_turn (dash t book) i (world.site i) world.log)) (acknowledges (dash t book) (world.site i)) (sym e ∙ turned.answer)

        entry_fits : Fits (entry_for (entry_of (dash t book) i (world.site i)))
        entry_fits =
            let l = round_told {k = (head_of (site_at b.sites i)).round} refl in
            let q : (world.site i).round ≡ (head_of (site_at b.sites i)).round = λ z. (at z).round in
            record {
              site = omega arith;
              round = omega arith;
              nc = word_lt 64 (world.site i).pending;
              c = word_lt 64 (unacknowledged (dash t book) (world.site i));
            }

        entry_seen : view_entry (entry_for (entry_of (dash t book) i (world.site i))) ≡ entry_of (dash t book) i (world.site i)
        entry_seen =
            subst (λ (s : protocol.Site (dash t book)). view_entry (entry_for (entry_of (dash t book) i s)) ≡ entry_of (dash t book) i s) (sym at)
            (λ k.
            record {
              site = i;
              round = (head_of (site_at b.sites i)).round;
              nc = pending_word t book (site_at b.sites i) part_good part_small k;
              c = unacknowledged-word t book (site_at b.sites i) part_good part_small k;
            })

        entry_told : (ltb (recovery.entries i (world.site i).round world.log) 2 ≡ true) × (leb (world.site i).round last_round ≡ true)
        entry_told =
            let s = world.site i in
            told_entry (is_acknowledging s.phase) (any (length book) (unacknowledged (dash t book) s)) (acknowledges (dash t book) s)
            (ltb (recovery.entries i s.round world.log) 2) (leb s.round last_round) proposal_told.0 proposal_told.1

        entry_range : in_range_of t.sites (length book) (entry_for (entry_of (dash t book) i (world.site i))) ≡ true
        entry_range =
            let s = world.site i in
            let q : s.round ≡ (head_of (site_at b.sites i)).round = λ z. (at z).round in
            let l = part_good.head.first in
            let n : known_to (length book) (Some s.pending) ≡ true =
            subst (λ (y : protocol.Site (dash t book)). known_to (length book) (Some y.pending) ≡ true) (sym at) part_good.head.pending in
            let m : known_to (length book) (Some (unacknowledged (dash t book) s)) ≡ true =
            subst (λ (y : protocol.Site (dash t book)). known_to (length book) (Some (unacknowledged (dash t book) y)) ≡ true) (sym at)
            (unacknowledged-known t book (site_at b.sites i) part_good part_small) in
            all_five (ltb i t.sites) (leb 1 s.round) (leb s.round last_round) (within_of (set_of capacity s.pending) (length book))
            (within_of (set_of capacity (unacknowledged (dash t book) s)) (length book)) (lt-ltb i t.sites inside) (le-leb 1 s.round (omega arith))
            entry_told.1
            (ap (λ (y : recovery.Entry). known_to (length book) (Some y.nc)) entry_seen ∙ n)
            (ap (λ (y : recovery.Entry). known_to (length book) (Some y.c)) entry_seen ∙ m)
          where
            all_five : (x y z u v : Bool) → x ≡ true → y ≡ true → z ≡ true → u ≡ true → v ≡ true → (x && y && z && u && v) ≡ true
            all_five x y z u v ex ey ez eu ev = λ k. ex k && ey k && ez k && eu k && ev k

        pub proposed : (k : ℕ) → k ≡ (head_of (site_at b.sites i)).round → {after log : List ℕ}
            → sent.Holds after (checked_in b.sent (cell_of i k) x) (acks_of b.sent) (checked i k (in_set x) (checks_of b.sent))
            → log ≡ write_entry b.log b.entries (record { site = i; round = k; nc = p.nc; c = p.c })
            → {n : ℕ} → n ≡ b.entries + 1 → Outcome t book (turn i) b accepted (lent sites log n after)
        proposed k ek {after} {log} s el more =
            subst (λ (n : ℕ). Outcome t book (turn i) b accepted (lent sites log n after)) (sym more) (
            let q : k ≡ (world.site i).round = ek ∙ sym (λ z. (at z).round) in
            let new : sent.Holds after (checked_in b.sent (cell_of i (world.site i).round) (set_of capacity (undelivered (dash t book) (world.site i)))) (acks_of b.sent)
            (checked i (world.site i).round (undelivered (dash t book) (world.site i)) (checks_of b.sent)) =
            subst
            (λ (y : theory.Set).
            sent.Holds after (checked_in b.sent (cell_of i (world.site i).round) (set_of capacity (undelivered (dash t book) (world.site i)))) (acks_of b.sent)
            (checked i (world.site i).round y (checks_of b.sent)))
            undelivered_back
            (subst (λ (y : Set). sent.Holds after (checked_in b.sent (cell_of i (world.site i).round) y) (acks_of b.sent) (checked i (world.site i).round (in_set y) (checks_of b.sent)))
            proposal_told.2
            (subst (λ (y : ℕ). sent.Holds after (checked_in b.sent (cell_of i y) x) (acks_of b.sent) (checked i y (in_set x) (checks_of b.sent))) q s)) in
            let written : log ≡ write_entry b.log b.entries (entry_for (entry_of (dash t book) i (world.site i))) =
            el ∙ (λ z. write_entry b.log b.entries (record { site = i; round = q z; nc = (proposal_told.3 z).nc; c = (proposal_told.3 z).c })) in
            taken t book b ready.world (turn i) (judged ∙ proposal_told.0)
            (subst (HoldsWorld t book (lent sites log (b.entries + 1) after))
            (sym (ap (λ (y : Bool). pick y (acknowledging_turn (dash t book) i (world.site i) world) (proposing_turn (dash t book) i (world.site i) world)) proposal_told.1))
            (subst (λ (y : List ℕ). HoldsWorld t book (lent sites y (b.entries + 1) after) (proposing_turn (dash t book) i (world.site i) world)) (sym written)
            (subst
            (λ (y : recovery.Entry).
            HoldsWorld t book (lent sites (write_entry b.log b.entries (entry_for (entry_of (dash t book) i (world.site i)))) (b.entries + 1) after)
            (append (dash t book) y (send_check (dash t book) i (world.site i).round (undelivered (dash t book) (world.site i)) (put (dash t book) i (propose (dash t book) (world.site i)) world))))
            entry_seen
            (entry_holds t book (lent sites b.log b.entries after)
            (check_holds t book (lent sites b.log b.entries b.sent) (put-turned false proposal_told.0 proposal_told.1) i (world.site i).round
            (undelivered (dash t book) (world.site i)) known new)
            (entry_for (entry_of (dash t book) i (world.site i))) entry_fits entry_range (ltb-true _ 2 entry_told.0) ready.room))))
            (written
            ∙ sym (ap (λ (y : Bool). pick y b.log (write_entry b.log b.entries (entry_for (entry_of (dash t book) i (world.site i))))) proposal_told.1))
            (new.bytes
            ∙ sym (ap (λ (y : Bool). pick y (acknowledged_in b.sent (cell_of i (world.site i).round) (set_of capacity (undelivered (dash t book) (world.site i))))
            (checked_in b.sent (cell_of i (world.site i).round) (set_of capacity (undelivered (dash t book) (world.site i))))) proposal_told.1))
            turned-past)
