-- All sites fresh and nothing sent: the start of a run.
-- Assumes nothing.
use Rattle.std.specs.Prelude.{None}
use mathlib.Core.Path.{◌≡◌, refl, sym, ap, subst, ◌∙◌}
use mathlib.Core.Bool.{Bool, true, false}
use mathlib.Core.List.{List, []}
use Prim.Native.Nat.{ℕ, ◌+◌, ◌*◌, ◌≤◌, ◌<◌}
use native.Mathlib.Omega.{arith}
use native.Mathlib.Decide.{ℕ_discrete}
use lib.Dec.{ltb}
use lib.ListN.{length, take, drop}
use borrow.Author.Tests.{ltb-true}
use borrow.Rule.Slice.PartMut.{put_mid}
use Rattle.theory.specs.Sets.{pick}
use Rattle.theory.specs.Lists.{nth}
use Rattle.wire.specs.Wire.{splice}
use Rattle.table.specs.declared.SiteTable.{SiteTable}
use Rattle.register.specs.declared.Command.{Command}
use Rattle.protocol.specs.Site as protocol
use Rattle.system.specs.Dash.{dash}
use Rattle.layout.specs.Layout.{site_at, site_size, heard_place, view}
use Rattle.layout.specs.Good.{Holds, HoldsOver}
use Rattle.layout.proofs.Finish.{alone}
use Rattle.entries.proofs.Logs.{log_none}
use Rattle.entries.proofs.Judging.{entries_none}
use Rattle.sent.specs.Sent as sent
use Rattle.sent.specs.Sent.{cleared}
use Rattle.world.specs.World.{known_to}
use Rattle.world.specs.Started.{Started}
use Rattle.world.proofs.Sites.{site_same, site_other, lent_part, given_back}

-- The first n sites are fresh, whatever the table and the book, and nothing but these was written.
pub record FreshTo (n : ℕ) (earlier sites : List ℕ) : Type 0 where
  pub site : (i : ℕ) → i < n → (t : SiteTable) (book : List Command) → HoldsOver t book (site_at sites i) (site_at sites i) (protocol.fresh (dash t book))
  pub past : (i : ℕ) → i < n → drop heard_place (site_at sites i) ≡ drop heard_place (site_at earlier i)
  pub rest : (i : ℕ) → n ≤ i → site_at sites i ≡ site_at earlier i

-- Some site table: what is past a fresh site is the same at each.
some_table : SiteTable
some_table = record { sites = 1; faults = 0; mask = 0 }

-- One site more, written by way of its part.
pub fresh-more : (earlier sites : List ℕ) (n k : ℕ) (ys : List ℕ) → k ≡ site_size → n * site_size + site_size ≤ length sites → length ys ≡ site_size → FreshTo n earlier sites
    → ((t : SiteTable) (book : List Command) → Holds t book 0 (take k (drop (n * site_size) sites)) ys (protocol.fresh (dash t book)))
    → FreshTo (n + 1) earlier (put_mid (n * site_size) k sites ys)
fresh-more earlier sites n k ys e room size f h =
    subst (FreshTo (n + 1) earlier) (sym (given_back sites n k e ys size))
    (record {
      site =
          λ i l t book.
          elim (ℕ_discrete i n) [
            | yes q ↦
                subst (λ (y : List ℕ). HoldsOver t book y y (protocol.fresh (dash t book)))
                (sym (ap (site_at (splice sites (n * site_size) ys)) q ∙ site_same sites n ys room size)) (alone t book (h t book))
            | no m ↦
                subst (λ (y : List ℕ). HoldsOver t book y y (protocol.fresh (dash t book))) (sym (site_other sites n ys room size i m)) (f.site i (omega arith) t book)
          ];
      past =
          λ i l.
          elim (ℕ_discrete i n) [
            | yes q ↦
                ap (drop heard_place) (ap (site_at (splice sites (n * site_size) ys)) q ∙ site_same sites n ys room size) ∙ (h some_table []).past
                ∙ ap (drop heard_place) (lent_part sites n k e ∙ f.rest n (omega arith) ∙ ap (site_at earlier) (sym q))
            | no m ↦ ap (drop heard_place) (site_other sites n ys room size i m) ∙ f.past i (omega arith)
          ];
      rest = λ i l. site_other sites n ys room size i (λ q. omega arith) ∙ f.rest i (omega arith);
    })

-- All sites are fresh and nothing is sent.
pub started : (t : SiteTable) (n : ℕ) {earlier sites now before : List ℕ} → n ≡ t.sites → length sites ≡ t.sites * site_size → FreshTo n earlier sites
    → sent.Holds now (cleared before) (λ j r. []) (λ j r. None) → Started t sites now earlier before
started t n {earlier} {sites} {now} {before} e size f h =
    record {
      holds =
          λ book log short.
          record {
            site = λ i l. f.site i (omega arith) t book;
            says =
                λ k.
                record {
                  site = λ i. point book i (ltb i t.sites) refl k;
                  log = log_none log k;
                  acks = h.acks k;
                  checks = h.checks k;
                };
            good =
                record {
                  size = size;
                  site = λ i l. (f.site i (omega arith) t book).good;
                  position =
                      λ i l. subst (λ (n : ℕ). n ≤ 0) (sym (λ k. ((f.site i (omega arith) t book).says k).position)) (omega arith);
                  room = omega arith;
                  short = short;
                  logged = λ k l. absurd (omega arith);
                  twice = λ j r. omega (arith, entries_none log j r);
                  sent = h.good;
                  acks = λ j r k. ap (λ (a : ℕ → ℕ → List (ℕ → Bool)). known_to (length book) (nth (a j r) k)) h.acks;
                  checks = λ j r. λ k. known_to (length book) (h.checks k j r);
                };
          };
      bytes = h.bytes;
      past = λ i l. f.past i (omega arith);
    }
  where
    point : (book : List Command) (i : ℕ) (x : Bool) → ltb i t.sites ≡ x → pick x (view t book (site_at sites i)) (protocol.fresh (dash t book)) ≡ protocol.fresh (dash t book)
    point book i true q = (f.site i (let l = ltb-true i t.sites q in omega arith) t book).says
    point book i false q = refl
