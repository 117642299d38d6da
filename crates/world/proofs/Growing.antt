-- What the buffers hold with one log entry, one acknowledgment or one check message more.
-- Assumes nothing.
use Rattle.std.specs.Prelude.{Some}
use mathlib.Core.Path.{◌≡◌, refl, sym, ap, subst, ◌∙◌}
use mathlib.Core.Bool.{Bool, true, false, ◌&&◌}
use mathlib.Core.List.{List, [], ◌∷◌, ◌++◌}
use mathlib.Core.Logic.{⊎_elim}
use Prim.Native.Nat.{ℕ, zero, suc, ◌+◌, ◌*◌, ◌^◌, ◌≤◌, ◌<◌}
use native.Mathlib.Omega.{arith}
use lib.Dec.{eqb}
use lib.ListN.{length}
use borrow.Author.Tests.{eqb-true}
use Rattle.theory.specs.Sets as theory
use Rattle.theory.specs.Sets.{pick, one}
use Rattle.theory.specs.Lists.{nth}
use Rattle.theory.specs.Counting.{left, right, last_or_below}
use Rattle.wire.proofs.Laws.{length-splice}
use Rattle.sets.proofs.Laws.{set_of-members}
use Rattle.table.specs.declared.SiteTable.{SiteTable}
use Rattle.register.specs.declared.Command.{Command}
use Rattle.protocol.specs.Recovery as recovery
use Rattle.protocol.specs.StandingLaws.{entries-more}
use Rattle.protocol.specs.World.{World, append, send_acknowledgment, send_check}
use Rattle.system.specs.Dash.{dash}
use Rattle.entries.specs.declared.Entry.{Entry}
use Rattle.entries.specs.Entries.{entry_size, entry_of, write_entry, view_entry, log_to, in_range_of}
use Rattle.entries.proofs.Bytes.{Fits, length_entry, entry_written, entry_other}
use Rattle.entries.proofs.Logs.{log_written}
use Rattle.sent.specs.Sent as sent
use Rattle.sent.specs.Sent.{acks_of, checks_of, one_more, checked}
use Rattle.world.specs.World.{Buffers, known_to, entry_for, HoldsWorld}
use Rattle.world.specs.Parts.{lent}

-- An entry written after those that are meant.
length-written : (log : List ℕ) (k : ℕ) (e : Entry) → (k + 1) * entry_size ≤ length log → length (write_entry log k e) ≡ length log
unfolding write_entry
length-written log k e h = let z = length_entry e in length-splice log (k * entry_size) _ (omega arith)

-- An entry of the protocol in words is the entry that it was made of.
pub entry_back : (e : Entry) → e.nc.bits < 2 ^ 64 → e.c.bits < 2 ^ 64 → entry_for (view_entry e) ≡ e
entry_back e n c = λ i. record { site = e.site; round = e.round; nc = set_of-members e.nc n i; c = set_of-members e.c c i }

-- One message more, of commands that are known, leaves all messages known.
known_more : (c : ℕ) (l : List theory.Set) (x : theory.Set) → ((n : ℕ) → known_to c (nth l n) ≡ true) → known_to c (Some x) ≡ true
    → (n : ℕ) → known_to c (nth (l ++ (x ∷ [])) n) ≡ true
known_more c [] x h k zero = k
known_more c [] x h k (suc n) = refl
known_more c (y ∷ l) x h k zero = h zero
known_more c (y ∷ l) x h k (suc n) = known_more c l x (λ m. h (suc m)) k n

-- An entry more, of a site that has fewer than two of its round, leaves at most two of each.
twice_more : (l : recovery.Log) (e : recovery.Entry) → ((j r : ℕ) → recovery.entries j r l ≤ 2) → recovery.entries e.site e.round l < 2 → (j r : ℕ)
    → recovery.entries j r (l ++ (e ∷ [])) ≤ 2
twice_more l e h few j r = go (eqb e.site j && eqb e.round r) refl (entries-more j r l e)
  where
    go : (q : Bool) → (eqb e.site j && eqb e.round r) ≡ q → recovery.entries j r (l ++ (e ∷ [])) ≡ recovery.entries j r l + one q → recovery.entries j r (l ++ (e ∷ [])) ≤ 2
    go true eq n =
        let ej = eqb-true e.site j (left (eqb e.site j) (eqb e.round r) eq) in
        let er = eqb-true e.round r (right (eqb e.site j) (eqb e.round r) eq) in
        let f : recovery.entries j r l < 2 =
        subst (λ (x : ℕ). recovery.entries x r l < 2) ej (subst (λ (x : ℕ). recovery.entries e.site x l < 2) er few) in
        omega arith
    go false eq n = omega (arith, h j r)

module _ (t : SiteTable) (book : List Command) (b : Buffers) {w : World (dash t book)} (h : HoldsWorld t book b w) where
  pub entry_holds : (e : Entry) → Fits e → in_range_of t.sites (length book) e ≡ true → recovery.entries e.site e.round (log_to b.log b.entries) < 2
      → (b.entries + 1) * entry_size ≤ length b.log
      → HoldsWorld t book (lent b.sites (write_entry b.log b.entries e) (b.entries + 1) b.sent) (append (dash t book) (view_entry e) w)
  entry_holds e f range few room =
      let z = length-written b.log b.entries e room in
      record {
        site = h.site;
        says =
            λ k.
            record {
              site = (h.says k).site;
              log = (log_written b.log b.entries e (omega arith) f ∙ ap (λ (l : recovery.Log). l ++ (view_entry e ∷ [])) (λ i. (h.says i).log)) k;
              acks = (h.says k).acks;
              checks = (h.says k).checks;
            };
        good =
            record {
              size = h.good.size;
              site = h.good.site;
              position = λ i l. let p = h.good.position i l in omega arith;
              room = omega arith;
              short = let s = h.good.short in omega arith;
              logged =
                  λ k l.
                  ⊎_elim
                  (λ q. ap (in_range_of t.sites (length book)) (ap (entry_of (write_entry b.log b.entries e)) q ∙ entry_written b.log b.entries e (omega arith) f) ∙ range)
                  (λ q.
                  ap (in_range_of t.sites (length book)) (entry_other b.log b.entries e k (omega arith) (λ z. omega arith))
                  ∙ h.good.logged k q)
                  (last_or_below k b.entries (omega arith));
              twice =
                  λ j r.
                  subst (λ (l : recovery.Log). recovery.entries j r l ≤ 2) (sym (log_written b.log b.entries e (omega arith) f))
                  (twice_more (log_to b.log b.entries) (view_entry e) h.good.twice few j r);
              sent = h.good.sent;
              acks = h.good.acks;
              checks = h.good.checks;
            };
      }

  module _ (i k : ℕ) (x : theory.Set) (known : known_to (length book) (Some x) ≡ true) {after exact : List ℕ} where
    pub acknowledgment_holds : sent.Holds after exact (one_more i k x (acks_of b.sent)) (checks_of b.sent)
        → HoldsWorld t book (lent b.sites b.log b.entries after) (send_acknowledgment (dash t book) i k x w)
    acknowledgment_holds s =
        record {
          site = h.site;
          says =
              λ z.
              record {
                site = (h.says z).site;
                log = (h.says z).log;
                acks = (s.acks ∙ (λ y. one_more i k x (h.says y).acks)) z;
                checks = (s.checks ∙ (λ y. (h.says y).checks)) z;
              };
          good =
              record {
                size = h.good.size;
                site = h.good.site;
                position = h.good.position;
                room = h.good.room;
                short = h.good.short;
                logged = h.good.logged;
                twice = h.good.twice;
                sent = s.good;
                acks = λ j r n. (λ z. known_to (length book) (nth (s.acks z j r) n)) ∙ grown j r (eqb j i && eqb r k) n;
                checks = λ j r. (λ z. known_to (length book) (s.checks z j r)) ∙ h.good.checks j r;
              };
        }
      where
        grown : (j r : ℕ) (q : Bool) (n : ℕ) → known_to (length book) (nth (pick q (acks_of b.sent j r ++ (x ∷ [])) (acks_of b.sent j r)) n) ≡ true
        grown j r true n = known_more (length book) (acks_of b.sent j r) x (h.good.acks j r) known n
        grown j r false n = h.good.acks j r n

    pub check_holds : sent.Holds after exact (acks_of b.sent) (checked i k x (checks_of b.sent))
        → HoldsWorld t book (lent b.sites b.log b.entries after) (send_check (dash t book) i k x w)
    check_holds s =
        record {
          site = h.site;
          says =
              λ z.
              record {
                site = (h.says z).site;
                log = (h.says z).log;
                acks = (s.acks ∙ (λ y. (h.says y).acks)) z;
                checks = (s.checks ∙ (λ y. checked i k x (h.says y).checks)) z;
              };
          good =
              record {
                size = h.good.size;
                site = h.good.site;
                position = h.good.position;
                room = h.good.room;
                short = h.good.short;
                logged = h.good.logged;
                twice = h.good.twice;
                sent = s.good;
                acks = λ j r n. (λ z. known_to (length book) (nth (s.acks z j r) n)) ∙ h.good.acks j r n;
                checks = λ j r. (λ z. known_to (length book) (s.checks z j r)) ∙ there j r (eqb j i && eqb r k);
              };
        }
      where
        there : (j r : ℕ) (q : Bool) → known_to (length book) (pick q (Some x) (checks_of b.sent j r)) ≡ true
        there j r true = known
        there j r false = h.good.checks j r
