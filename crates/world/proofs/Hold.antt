-- What the buffers hold after a step: nothing changed, or one site did.
-- Assumes nothing.
use mathlib.Core.Path.{◌≡◌, refl, sym, ap, subst, ◌∙◌}
use Rattle.std.specs.Prelude.{Err, Ok}
use mathlib.Core.Bool.{Bool}
use mathlib.Core.List.{List}
use Prim.Native.Nat.{ℕ, ◌+◌, ◌*◌, ◌≤◌, ◌<◌}
use native.Mathlib.Omega.{arith}
use native.Mathlib.Decide.{ℕ_discrete}
use lib.Dec.{eqb, ltb}
use lib.ListN.{length, get_or}
use borrow.Author.Tests.{lt-ltb, eq-eqb, ne_eqb}
use Rattle.refusals.specs.Refusals.{is_taken, settled, accepted}
use Rattle.refusals.specs.declared.Refusal.{Refusal}
use Rattle.refusals.specs.Refusals.{Verdict}
use Rattle.theory.specs.Sets.{pick}
use Rattle.wire.specs.Wire.{read_le, splice}
use Rattle.wire.proofs.Laws.{length-splice}
use Rattle.table.specs.declared.SiteTable.{SiteTable}
use Rattle.register.specs.declared.Command.{Command}
use Rattle.protocol.specs.System.{System}
use Rattle.protocol.specs.Site as protocol
use Rattle.protocol.specs.World.{World, Step, put, judge, change}
use Rattle.system.specs.Dash.{dash}
use Rattle.layout.specs.Layout.{site_at, site_size, span_place, head_of, view}
use Rattle.layout.specs.Good.{Holds, HoldsOver}
use Rattle.layout.specs.Step.{Carried}
use Rattle.layout.proofs.Finish.{unchanged, alone}
use Rattle.world.specs.World.{Buffers, PastKept, PastRows, GoodWorld, world_of, HoldsWorld, log_written, sent_written, Outcome}
use Rattle.world.specs.Parts.{lent, AtSite}
use Rattle.world.proofs.Sites.{site_same, site_other, small_site}
use Rattle.world.proofs.Past.{past_same, past-held, past-put}

-- The buffers with other bytes of site i.
abbrev pub put_site : Buffers → ℕ → List ℕ → Buffers
put_site b i ys = record { sites = splice b.sites (i * site_size) ys; log = b.log; entries = b.entries; sent = b.sent }

-- A site put back as it was.
put_same : {S : System} (w : World S) (i : ℕ) → put S i (w.site i) w ≡ w
put_same {S} w i = λ k. record { site = λ j. point j k; log = w.log; acks = w.acks; checks = w.checks }
  where
    point : (j : ℕ) → pick (eqb j i) (w.site i) (w.site j) ≡ w.site j
    point j =
        elim (ℕ_discrete j i) [
          | yes e ↦ ap (λ (x : Bool). pick x (w.site i) (w.site j)) (eq-eqb j i e) ∙ ap w.site (sym e)
          | no n ↦ ap (λ (x : Bool). pick x (w.site i) (w.site j)) (ne_eqb j i n)
        ]

module _ (t : SiteTable) (book : List Command) (b : Buffers) (good : GoodWorld t (length book) b) where
  pub site_room : (i : ℕ) → i < t.sites → i * site_size + site_size ≤ length b.sites
  site_room i l = omega (arith, good.size)

  -- A site that there is is seen in its bytes.
  pub seen : (i : ℕ) → i < t.sites → (world_of t book b).site i ≡ view t book (site_at b.sites i)
  seen i l = ap (λ (x : Bool). pick x (view t book (site_at b.sites i)) (protocol.fresh (dash t book))) (lt-ltb i t.sites l)

  pub position_seen : (i : ℕ) → i < t.sites → ((world_of t book b).site i).position ≤ b.entries
  position_seen i l = subst (λ (s : protocol.Site (dash t book)). s.position ≤ b.entries) (sym (seen i l)) (good.position i l)

  module _ (small : (k : ℕ) → get_or b.sites k 0 < 256) where
    pub kept : HoldsWorld t book b (world_of t book b)
    kept =
        record {
          site =
              λ i l.
              subst (HoldsOver t book (site_at b.sites i) (site_at b.sites i)) (sym (seen i l)) (unchanged t book (good.site i l) (small_site b.sites small i));
          says = refl;
          good = good;
        }

    -- Site i has another state.
    module _ (i : ℕ) (inside : i < t.sites) {ys : List ℕ} {s : protocol.Site (dash t book)} (h : HoldsOver t book ys ys s) (read : s.position ≤ b.entries) where
      room : i * site_size + site_size ≤ length b.sites
      room = site_room i inside

      this : site_at (put_site b i ys).sites i ≡ ys
      this = site_same b.sites i ys room h.good.size

      other : (j : ℕ) → (j ≡ i → ⊥) → site_at (put_site b i ys).sites j ≡ site_at b.sites j
      other j n = site_other b.sites i ys room h.good.size j n

      site_after : (j : ℕ) → j < t.sites
          → HoldsOver t book (site_at (put_site b i ys).sites j) (site_at (put_site b i ys).sites j) ((put (dash t book) i s (world_of t book b)).site j)
      site_after j l =
          elim (ℕ_discrete j i) [
            | yes e ↦
                subst (λ (y : List ℕ). HoldsOver t book y y ((put (dash t book) i s (world_of t book b)).site j)) (sym (ap (site_at (put_site b i ys).sites) e ∙ this))
                (subst (HoldsOver t book ys ys) (sym (ap (λ (x : Bool). pick x s ((world_of t book b).site j)) (eq-eqb j i e))) h)
            | no n ↦
                subst (λ (y : List ℕ). HoldsOver t book y y ((put (dash t book) i s (world_of t book b)).site j)) (sym (other j n))
                (subst (HoldsOver t book (site_at b.sites j) (site_at b.sites j)) (sym (ap (λ (x : Bool). pick x s ((world_of t book b).site j)) (ne_eqb j i n))) (kept.site j l))
          ]

      point : (j : ℕ) → (world_of t book (put_site b i ys)).site j ≡ (put (dash t book) i s (world_of t book b)).site j
      point j =
          elim (ℕ_discrete j i) [
            | yes e ↦
                ap (λ (x : Bool). pick x (view t book (site_at (put_site b i ys).sites j)) (protocol.fresh (dash t book))) (lt-ltb j t.sites (omega arith))
                ∙ ap (λ (y : List ℕ). view t book y) (ap (site_at (put_site b i ys).sites) e ∙ this)
                ∙ h.says
                ∙ sym (ap (λ (x : Bool). pick x s ((world_of t book b).site j)) (eq-eqb j i e))
            | no n ↦
                ap (λ (y : List ℕ). pick (ltb j t.sites) (view t book y) (protocol.fresh (dash t book))) (other j n)
                ∙ sym (ap (λ (x : Bool). pick x s ((world_of t book b).site j)) (ne_eqb j i n))
          ]

      position_after : (j : ℕ) → j < t.sites → (head_of (site_at (put_site b i ys).sites j)).position ≤ b.entries
      position_after j l =
          elim (ℕ_discrete j i) [
            | yes e ↦
                subst (λ (y : List ℕ). (head_of y).position ≤ b.entries) (sym (ap (site_at (put_site b i ys).sites) e ∙ this))
                (subst (λ (n : ℕ). n ≤ b.entries) (sym (λ k. (h.says k).position)) read)
            | no n ↦ subst (λ (y : List ℕ). (head_of y).position ≤ b.entries) (sym (other j n)) (good.position j l)
          ]

      pub put_holds : HoldsWorld t book (put_site b i ys) (put (dash t book) i s (world_of t book b))
      put_holds =
          record {
            site = site_after;
            says =
                λ k. record { site = λ j. point j k; log = (world_of t book b).log; acks = (world_of t book b).acks; checks = (world_of t book b).checks };
            good =
                record {
                  size = let r = room in let z = h.good.size in length-splice b.sites (i * site_size) ys (omega arith) ∙ good.size;
                  site = λ j l. (site_after j l).good;
                  position = position_after;
                  room = good.room;
                  short = good.short;
                  logged = good.logged;
                  twice = good.twice;
                  sent = good.sent;
                  acks = good.acks;
                  checks = good.checks;
                };
          }

  -- ---- how a step ends

  module _ (u : Step) where
    pub refused : (r : Refusal) → judge (dash t book) (world_of t book b) u ≡ Err r → ((k : ℕ) → get_or b.sites k 0 < 256) → Outcome t book u b (Err r) b
    refused r e small =
        record {
          verdict = sym e;
          holds =
              subst (λ (v : Verdict). HoldsWorld t book b (settled v (change (dash t book) (world_of t book b) u) (world_of t book b))) (sym e)
              (kept small);
          log = sym (ap (λ (v : Verdict). pick (is_taken v) (log_written t book (world_of t book b) u b) b.log) e);
          sent = sym (ap (λ (v : Verdict). pick (is_taken v) (sent_written t book (world_of t book b) u b) b.sent) e);
          past = λ i l. past_same (site_at b.sites i);
        }

    pub taken : {after : Buffers} → judge (dash t book) (world_of t book b) u ≡ accepted
        → HoldsWorld t book after (change (dash t book) (world_of t book b) u)
        → after.log ≡ log_written t book (world_of t book b) u b → after.sent ≡ sent_written t book (world_of t book b) u b
        → PastRows t.sites b.sites after.sites
        → Outcome t book u b accepted after
    taken {after} e h el es ep =
        record {
          verdict = sym e;
          holds =
              subst (λ (v : Verdict). HoldsWorld t book after (settled v (change (dash t book) (world_of t book b) u) (world_of t book b))) (sym e) h;
          log = el ∙ sym (ap (λ (v : Verdict). pick (is_taken v) (log_written t book (world_of t book b) u b) b.log) e);
          sent = es ∙ sym (ap (λ (v : Verdict). pick (is_taken v) (sent_written t book (world_of t book b) u b) b.sent) e);
          past = ep;
        }

    -- What is past the rows where site i was written over its bytes.
    pub past_at : (i : ℕ) → i < t.sites → {promise : List ℕ → List ℕ → Type 0} {sites : List ℕ} → (h : AtSite i promise b.sites sites)
        → PastKept (site_at b.sites i) h.new → PastRows t.sites b.sites sites
    past_at i inside h k =
        subst (PastRows t.sites b.sites) (sym h.bytes) (past-put t.sites b.sites i h.new (site_room i inside) h.size k)

    -- A step that changes one site and is taken.
    pub one_site : ((k : ℕ) → get_or b.sites k 0 < 256) → (i : ℕ) → i < t.sites → {promise : List ℕ → List ℕ → Type 0} {sites : List ℕ}
        → (h : AtSite i promise b.sites sites) → (f : protocol.Site (dash t book) → protocol.Site (dash t book)) {rows : ℕ}
        → read_le 2 (site_at b.sites i) span_place ≤ rows
        → Holds t book rows (site_at b.sites i) h.new (f (view t book (site_at b.sites i)))
        → (f (view t book (site_at b.sites i))).position ≤ b.entries
        → judge (dash t book) (world_of t book b) u ≡ accepted
        → change (dash t book) (world_of t book b) u ≡ put (dash t book) i (f ((world_of t book b).site i)) (world_of t book b)
        → b.log ≡ log_written t book (world_of t book b) u b → b.sent ≡ sent_written t book (world_of t book b) u b
        → Outcome t book u b accepted (lent sites b.log b.entries b.sent)
    one_site small i inside h f more holds read e ec el es =
        subst (λ (y : List ℕ). Outcome t book u b accepted (lent y b.log b.entries b.sent)) (sym h.bytes)
        (taken e
        (subst (HoldsWorld t book (put_site b i h.new)) (sym ec)
        (put_holds small i inside (subst (λ (s : protocol.Site (dash t book)). HoldsOver t book h.new h.new (f s)) (sym (seen i inside)) (alone t book holds))
        (subst (λ (s : protocol.Site (dash t book)). (f s).position ≤ b.entries) (sym (seen i inside)) read)))
        el es
        (past-put t.sites b.sites i h.new (site_room i inside) h.size (past-held t book more holds)))

    -- A step that is refused after one site was written as it was.
    pub refused_site : ((k : ℕ) → get_or b.sites k 0 < 256) → (i : ℕ) → i < t.sites → {promise : List ℕ → List ℕ → Type 0} {sites : List ℕ}
        → (h : AtSite i promise b.sites sites) → HoldsOver t book (site_at b.sites i) h.new ((world_of t book b).site i)
        → (r : Refusal) → judge (dash t book) (world_of t book b) u ≡ Err r
        → Outcome t book u b (Err r) (lent sites b.log b.entries b.sent)
    refused_site small i inside {sites = sites} h holds r e =
        record {
          verdict = sym e;
          holds =
              subst
              (λ (v : Verdict). HoldsWorld t book (lent sites b.log b.entries b.sent) (settled v (change (dash t book) (world_of t book b) u) (world_of t book b)))
              (sym e)
              (subst (λ (y : List ℕ). HoldsWorld t book (lent y b.log b.entries b.sent) (world_of t book b)) (sym h.bytes)
              (subst (HoldsWorld t book (put_site b i h.new)) (put_same (world_of t book b) i) (put_holds small i inside (alone t book holds) (position_seen i inside))));
          log = sym (ap (λ (v : Verdict). pick (is_taken v) (log_written t book (world_of t book b) u b) b.log) e);
          sent = sym (ap (λ (v : Verdict). pick (is_taken v) (sent_written t book (world_of t book b) u b) b.sent) e);
          past = past_at i inside h (past-held t book (omega arith) holds);
        }

    -- A step that changes one site where it is taken, carried out by a function that judges it.
    pub carried_site : ((k : ℕ) → get_or b.sites k 0 < 256) → (i : ℕ) → i < t.sites → {promise : List ℕ → List ℕ → Type 0} {sites : List ℕ}
        → (h : AtSite i promise b.sites sites) → (f : protocol.Site (dash t book) → protocol.Site (dash t book)) (v : Verdict) {r : Verdict}
        → Carried t book v (f (view t book (site_at b.sites i))) (view t book (site_at b.sites i)) (site_at b.sites i) r h.new
        → (v ≡ accepted → (f (view t book (site_at b.sites i))).position ≤ b.entries)
        → judge (dash t book) (world_of t book b) u ≡ v
        → change (dash t book) (world_of t book b) u ≡ put (dash t book) i (f ((world_of t book b).site i)) (world_of t book b)
        → b.log ≡ log_written t book (world_of t book b) u b → b.sent ≡ sent_written t book (world_of t book b) u b
        → Outcome t book u b r (lent sites b.log b.entries b.sent)
    carried_site small i inside {sites = sites} h f (Ok _) k read e ec el es =
        subst (λ (y : Verdict). Outcome t book u b y (lent sites b.log b.entries b.sent)) (sym k.answer)
        (one_site small i inside h f (omega arith) k.site (read refl) e ec el es)
    carried_site small i inside {sites = sites} h f (Err x) k read e ec el es =
        subst (λ (y : Verdict). Outcome t book u b y (lent sites b.log b.entries b.sent)) (sym k.answer)
        (refused_site small i inside h (subst (HoldsOver t book (site_at b.sites i) h.new) (sym (seen i inside)) k.site) x e)
