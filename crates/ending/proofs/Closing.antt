-- The end of a round: what is due is what the protocol delivers, and the bytes are those of its site.
-- Assumes nothing.
use mathlib.Core.Path.{◌≡◌, refl, sym, ap, subst, ◌∙◌}
use Rattle.std.specs.Prelude.{Err, None, Some, Option}
use mathlib.Core.Bool.{Bool, true, false, ◌&&◌, ◌||◌, not}
use mathlib.Core.List.{List, ◌++◌, foldl}
use Prim.Native.Nat.{ℕ, ◌+◌, ◌^◌, ◌≤◌, ◌<◌}
use native.Mathlib.Numerals.{add-one}
use native.Mathlib.Omega.{arith}
use lib.Dec.{leb, lit<}
use lib.ListN.{length, get_or, length-append}
use Rattle.refusals.specs.declared.Refusal.{Refusal}
use Rattle.refusals.specs.declared.Refusal.TheVariants.{Disabled, Full}
use Rattle.refusals.specs.Refusals.{Verdict, accepted}
use Rattle.theory.specs.Sets.{◌∖◌, ◌∪◌, members}
use Rattle.theory.specs.Counting.{count_le}
use Rattle.theory.specs.Members.{members_ext, length-members}
use Rattle.wire.specs.Wire.{splice, read_le}
use Rattle.sets.specs.declared.Set.{Set}
use Rattle.sets.specs.Sets.{capacity, in_set, union_of, within_of, size_of}
use Rattle.sets.proofs.Laws.{in_empty, in_union, in_without, union_fits, without_fits}
use Rattle.table.specs.declared.SiteTable.{SiteTable}
use Rattle.register.specs.declared.Command.{Command}
use Rattle.protocol.specs.System.{granted, ◌else◌⨾◌, verdict}
use Rattle.protocol.specs.Recovery.{Log, Tally, nc_set, c_set}
use Rattle.protocol.specs.Site as protocol
use Rattle.protocol.specs.Site.{acknowledging}
use Rattle.system.specs.Dash.{dash}
use Rattle.recovery.specs.declared.Sets.{Sets}
use Rattle.recovery.specs.Decisions.{DecisionWithin}
use Rattle.layout.specs.declared.Site.{Site}
use Rattle.layout.specs.Layout.{count_place, head_of, head_bytes, deliveries_of, ledger_of, view}
use Rattle.layout.specs.Good.{Fit, GoodHead, GoodTables, Good, HoldsOver}
use Rattle.layout.proofs.Header.{fit}
use Rattle.layout.proofs.Deliveries.{length_deliveries}
use Rattle.layout.proofs.Tables.{within_empty, within_union, within_without, rest_heard, rows-past}
use Rattle.layout.proofs.Finish.{finish, refused, taken}
use Rattle.deliver.specs.Delivering.{Delivered, in_order}
use Rattle.deliver.proofs.Order.{order_within}
use Rattle.deliver.proofs.Ledger.{delivered_append}
use Rattle.ending.specs.Ending.{due_of, more_of, ended, judged_end, ToldSets, Told, EndedBy, RoundEnded}
use Rattle.ending.proofs.Verdicts.{end_taken, same_verdict, verdict_undecided}

-- The size of a set is the number of its commands in order.
pub size_order : (x : Set) {n : ℕ} → n ≡ size_of x → n ≡ length (in_order x)
size_order x e = e ∙ sym (length-members capacity (in_set x))

pub size_small : (x : Set) {n : ℕ} → n ≡ size_of x → n ≤ 64
size_small x e = let l = count_le capacity (in_set x) in omega arith

-- A round end that the code takes has room for what it delivers.
pub ready : (h : Site) (commands : ℕ) (s : Sets) {x y : Set} {r : Verdict} → r ≡ judged_end h commands s → r ≡ accepted
    → x ≡ due_of h s.nc → y ≡ due_of h s.c → h.deliveries + length (in_order x) + length (in_order y) ≤ commands
ready h commands s {x} {y} er et ex ey =
    let a : length (in_order x) ≡ size_of (due_of h s.nc) = ap (λ (z : Set). length (in_order z)) ex ∙ sym (size_order (due_of h s.nc) refl) in
    let b : length (in_order y) ≡ size_of (due_of h s.c) = ap (λ (z : Set). length (in_order z)) ey ∙ sym (size_order (due_of h s.c) refl) in
    let room = end_taken h commands s (sym er ∙ et) in
    omega arith

pub within-due : (h : Site) (x : Set) (n : ℕ) {d : Set} → d ≡ due_of h x → within_of x n ≡ true → within_of d n ≡ true
within-due h x n e w = ap (λ (s : Set). within_of s n) e ∙ within_without x (union_of h.delivered h.fast) n w

module _ (book : List Command) (few : length book ≤ capacity) (h : Site) (f : Fit h) (x : Set) (l : x.bits < 2 ^ 64) (w : within_of x (length book) ≡ true) where
  pub due-within : within_of (due_of h x) (length book) ≡ true
  due-within = within_without x (union_of h.delivered h.fast) (length book) w

  -- What is due of a set, in order, is what is due of the same set of the protocol.
  due_order : (p : ℕ → Bool) → ((m : ℕ) → in_set x m ≡ p m) → in_order (due_of h x) ≡ members (length book) (p ∖ (in_set h.delivered ∪ in_set h.fast))
  due_order p e =
      order_within (due_of h x) (length book) few (without_fits x (union_of h.delivered h.fast) l (union_fits h.delivered h.fast f.delivered f.fast)) due-within
      ∙ members_ext (length book) (in_set (due_of h x)) (p ∖ (in_set h.delivered ∪ in_set h.fast))
      (λ m _. in_without x (union_of h.delivered h.fast) m ∙ (λ i. e m i && not (in_union h.delivered h.fast m i)))

counted : (b : List ℕ) → length (deliveries_of (read_le 2 b count_place) b) ≡ (head_of b).deliveries
unfolding head_of
counted b = length_deliveries (read_le 2 b count_place) b

-- The sets of a decision are within the book.
pub decided_within : (s : Sets) {d : Option Sets} {n commands : ℕ} → d ≡ Some s → n ≡ commands → DecisionWithin commands d → DecisionWithin n (Some s)
decided_within s {commands = commands} ed en w = subst (λ (k : ℕ). DecisionWithin k (Some s)) (sym en) (subst (DecisionWithin commands) ed w)

-- What is told, at the protocol's decision.
module _ (t : SiteTable) (book : List Command) where
  told_none : (o : Option Tally) (round : ℕ) → Told t book None o round → protocol.is_some o ≡ false
  told_none None round h = refl
  told_none (Some d) round h = absurd h

  told_some : (s : Sets) (o : Option Tally) (round : ℕ) → Told t book (Some s) o round → (protocol.is_some o ≡ true) × ToldSets t book s (protocol.tally_or o) round
  told_some s None round h = absurd h
  told_some s (Some d) round h = (refl, h)

-- A round that is not decided does not end.
pub round_undecided : (book : List Command) (b : List ℕ) → ((i : ℕ) → get_or b i 0 < 256) → {d : Option Sets} → d ≡ None → RoundEnded book d b (Err Disabled) b
round_undecided book b small ed =
    λ t log good told.
    let s = view t book b in
    let o = protocol.decision (dash t book) s log in
    refused t book (verdict (protocol.for_round_end (dash t book) s log)) Disabled
    (verdict_undecided (protocol.is_waiting s.phase) (protocol.is_some o) (protocol.room (dash t book) s (length (protocol.due (dash t book) (protocol.tally_or o) s)) else Full ⨾ granted)
    (told_none t book o s.round (subst (λ (x : Option Sets). Told t book x o s.round) ed told))) good small

module _ (t : SiteTable) (book : List Command) (few : length book ≤ capacity) (b : List ℕ) (small : (i : ℕ) → get_or b i 0 < 256) (good : Good t.sites (length book) b)
    (s : Sets) (lnc : s.nc.bits < 2 ^ 64) (lc : s.c.bits < 2 ^ 64) (wnc : within_of s.nc (length book) ≡ true) (wc : within_of s.c (length book) ≡ true)
    {d : Option Sets} (ed : d ≡ Some s) (log : Log) (told : Told t book d (protocol.decision (dash t book) (view t book b) log) (view t book b).round) where
  tally : Tally
  tally = protocol.tally_or (protocol.decision (dash t book) (view t book b) log)

  is_told : (protocol.is_some (protocol.decision (dash t book) (view t book b) log) ≡ true) × ToldSets t book s tally (view t book b).round
  unfolding tally
  is_told =
      let o = protocol.decision (dash t book) (view t book b) log in
      let r = (view t book b).round in
      told_some t book s o r (subst (λ (x : Option Sets). Told t book x o r) ed told)

  -- What the code delivers is what is due.
  all-due : in_order (due_of (head_of b) s.nc) ++ in_order (due_of (head_of b) s.c) ≡ protocol.due (dash t book) tally (view t book b)
  unfolding tally
  all-due =
      let f = fit b small good.size in
      λ i.
      due_order book few (head_of b) f s.nc lnc wnc (nc_set (dash t book) tally) (λ m i. is_told.1.nc i m) i
      ++ due_order book few (head_of b) f s.c lc wc (c_set (dash t book) tally) (λ m i. is_told.1.c i m) i

  sizes_are : more_of (head_of b) s ≡ length (protocol.due (dash t book) tally (view t book b))
  sizes_are =
      let x = in_order (due_of (head_of b) s.nc) in
      let y = in_order (due_of (head_of b) s.c) in
      (λ i. size_order (due_of (head_of b) s.nc) refl i + size_order (due_of (head_of b) s.c) refl i) ∙ sym (length-append x y) ∙ ap length all-due

  end_verdict : judged_end (head_of b) (length book) s ≡ verdict (protocol.for_round_end (dash t book) (view t book b) log)
  unfolding tally
  end_verdict =
      same_verdict (head_of b) (length book) s (protocol.is_some (protocol.decision (dash t book) (view t book b) log))
      (protocol.room (dash t book) (view t book b) (length (protocol.due (dash t book) tally (view t book b)))) is_told.0
      (λ i. leb (sym (counted b) i + sizes_are i) (length book))

  module _ {n : ℕ} (room : (head_of b).deliveries + length (in_order (due_of (head_of b) s.nc) ++ in_order (due_of (head_of b) s.c)) ≤ length book)
      (en : n ≡ (head_of b).deliveries + length (in_order (due_of (head_of b) s.nc) ++ in_order (due_of (head_of b) s.c))) where
    end_fit : Fit (ended (head_of b) s n)
    end_fit =
        let f = fit b small good.size in
        let g = good.head in
        let last = g.last in
        record {
          round = omega arith;
          deliveries = omega arith;
          span = f.span;
          position = f.position;
          received = f.received;
          delivered = union_fits (head_of b).delivered (union_of s.nc s.c) f.delivered (union_fits s.nc s.c lnc lc);
          pending = lit< tt;
          fast = lit< tt;
          nc = lit< tt;
          c = lit< tt;
        }

    end_good : GoodHead (length book) (ended (head_of b) s n)
    end_good =
        let g = good.head in
        let low = is_told.1.last in
        let None = within_empty (length book) in
        record {
          first = omega arith;
          last = omega arith;
          few = omega arith;
          room = omega arith;
          span = g.span;
          received = g.received;
          delivered = within_union (head_of b).delivered (union_of s.nc s.c) (length book) g.delivered (within_union s.nc s.c (length book) wnc wc);
          pending = None;
          fast = None;
          nc = None;
          c = None;
        }

    pub end_holds : {h' : Site} {b₁ b₂ : List ℕ} → Delivered book (head_of b).deliveries (in_order (due_of (head_of b) s.nc) ++ in_order (due_of (head_of b) s.c)) b b₁
        → h' ≡ ended (head_of b) s n → b₂ ≡ splice b₁ 0 (head_bytes h') → ((i : ℕ) → get_or b₂ i 0 < 256)
        → HoldsOver t book b b₂ (protocol.finish (dash t book) (protocol.tally_or (protocol.decision (dash t book) (view t book b) log)) (view t book b))
    unfolding head_of tally
    end_holds {b₁ = b₁} del eh eb small' =
        let h = head_of b in
        finish t book b b₁ (ended h s n) del.size (eb ∙ ap (λ (x : Site). splice b₁ 0 (head_bytes x)) eh) small' end_fit end_good
        (subst (λ (k : ℕ). GoodTables t.sites (length book) k h.span b₁) (sym en) (del.tables t.sites h.span good.tables)) (rows-past h.span b b₁ del.rest)
        (λ i.
        record {
          received = in_set h.received;
          delivered =
              λ m.
              (in_union h.delivered (union_of s.nc s.c) m
              ∙ ap (λ (y : Bool). in_set h.delivered m || y) (in_union s.nc s.c m ∙ (λ j. is_told.1.nc j m || is_told.1.c j m))) i;
          pending = λ m. in_empty m i;
          fast = λ m. in_empty m i;
          round = add-one h.round i;
          phase = acknowledging;
          position = h.position;
          heard = rest_heard h.span b b₁ del.rest i;
          ledger =
              (ap (λ (k : ℕ). ledger_of t book k b₁) en ∙ del.ledger t
              ∙ ap (λ (l : List ℕ). foldl (protocol.deliver (dash t book)) (ledger_of t book h.deliveries b) l) all-due) i;
        })

  -- What the code of round_end does, in one step: where the round does not end, and where it does.
  module _ {commands : ℕ} {h : Site} {r : Verdict} (en : length book ≡ commands) (eh : h ≡ head_of b) (er : r ≡ judged_end h commands s) where
    verdict_is : r ≡ verdict (protocol.for_round_end (dash t book) (view t book b) log)
    verdict_is = er ∙ (λ i. judged_end (eh i) (sym en i) s) ∙ end_verdict

    pub round_refused : (z : Refusal) → r ≡ Err z → EndedBy t book log b (Err z) b
    round_refused z ez = refused t book (verdict (protocol.for_round_end (dash t book) (view t book b) log)) z (sym verdict_is ∙ ez) good small

    pub round-taken : {x y : Set} {k n : ℕ} {b₁ b₂ b₃ : List ℕ} → r ≡ accepted → x ≡ due_of h s.nc → y ≡ due_of h s.c
        → k ≡ h.deliveries + length (in_order x) → Delivered book h.deliveries (in_order x) b b₁
        → n ≡ k + length (in_order y) → Delivered book k (in_order y) b₁ b₂ → b₃ ≡ splice b₂ 0 (head_bytes (ended h s n)) → ((i : ℕ) → get_or b₃ i 0 < 256)
        → EndedBy t book log b accepted b₃
    round-taken {x} {y} {k} {n} {b₁} {b₂} {b₃} et ex ey ek d₁ em d₂ eb small' =
        let room = ready h commands s er et ex ey in
        let a = length-append (in_order x) (in_order y) in
        let all : Delivered book h.deliveries (in_order x ++ in_order y) b b₂ =
        delivered_append book h.deliveries (in_order x) (in_order y) d₁ (subst (λ (j : ℕ). Delivered book j (in_order y) b₁ b₂) ek d₂) in
        let list : in_order x ++ in_order y ≡ in_order (due_of (head_of b) s.nc) ++ in_order (due_of (head_of b) s.c) =
        (λ i. in_order (ex i) ++ in_order (ey i)) ∙ (λ i. in_order (due_of (eh i) s.nc) ++ in_order (due_of (eh i) s.c)) in
        let total : n ≡ h.deliveries + length (in_order x ++ in_order y) = omega arith in
        let same : h.deliveries + length (in_order x ++ in_order y) ≡ (head_of b).deliveries + length (in_order (due_of (head_of b) s.nc) ++ in_order (due_of (head_of b) s.c)) =
        λ i. (eh i).deliveries + length (list i) in
        taken t book (verdict (protocol.for_round_end (dash t book) (view t book b) log)) (sym verdict_is ∙ et)
        (end_holds (omega arith) (total ∙ same)
        (subst (λ (l : List ℕ). Delivered book (head_of b).deliveries l b b₂) list (subst (λ (z : Site). Delivered book z.deliveries (in_order x ++ in_order y) b b₂) eh all))
        (ap (λ (z : Site). ended z s n) eh) eb small')
