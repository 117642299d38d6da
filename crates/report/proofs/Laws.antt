-- Laws of the site lines: one delivery more, one line, one site more, and the lines of a world.
-- Assumes nothing.
use mathlib.Core.Path.{◌≡◌, refl, sym, ap, subst, ◌∙◌}
use mathlib.Core.Bool.{Bool, true, false, not}
use mathlib.Core.List.{List, [], ◌∷◌, ◌++◌, append-nil, append_assoc}
use Prim.Native.Nat.{ℕ, zero, suc, ◌+◌, ◌*◌, ◌≤◌, ◌<◌}
use native.Mathlib.Numerals.{add-one}
use native.Mathlib.Omega.{arith}
use lib.IntN.{ℤ}
use lib.ListN.{length, take, drop}
use Rattle.theory.specs.Machine.{Delivery}
use Rattle.theory.specs.Sets.{pick}
use Rattle.table.specs.declared.SiteTable.{SiteTable}
use Rattle.table.specs.Table.{faulty_of}
use Rattle.register.specs.declared.Command.{Command}
use Rattle.print.specs.declared.Text.{Text}
use Rattle.print.specs.Print.{HasRoom, Printed}
use Rattle.print.proofs.Laws.{nothing, more}
use Rattle.lines.specs.Lines.{line_end, site_head, delivery_text, deliveries_text, site_line}
use Rattle.protocol.specs.Site as protocol
use Rattle.protocol.specs.World.{World}
use Rattle.system.specs.Dash.{dash}
use Rattle.layout.specs.Layout.{site_at, site_size, head_of, delivery_of, deliveries_of, view}
use Rattle.layout.specs.Good.{Good, GoodAt}
use Rattle.runs.specs.Run.{site_lines}
use Rattle.report.specs.Report.{Printable, AllPrintable, line_of, line_at, lines_below}

-- ---- the text

text_more : (l : List (Delivery ℤ)) (d : Delivery ℤ) → deliveries_text (l ++ (d ∷ [])) ≡ deliveries_text l ++ delivery_text d.command d.answer
text_more [] d = append-nil _
text_more (c ∷ l) d =
    ap (λ (t : List ℕ). delivery_text c.command c.answer ++ t) (text_more l d)
    ∙ sym (append_assoc (delivery_text c.command c.answer) (deliveries_text l) (delivery_text d.command d.answer))

-- One delivery more is written.
pub deliveries_more : {t u v : Text} (b : List ℕ) (k : ℕ) {m : ℕ} {z : ℤ} → record { command = m; answer = z } ≡ delivery_of b k
    → Printed u t (deliveries_text (deliveries_of k b)) → Printed v u (delivery_text m z) → Printed v t (deliveries_text (deliveries_of (k + 1) b))
unfolding deliveries_of
deliveries_more {t} {v = v} b k {m} {z} e p q =
    let d : Delivery ℤ = record { command = m; answer = z } in
    let l : deliveries_text (deliveries_of k b) ++ delivery_text m z ≡ deliveries_text (deliveries_of (k + 1) b) =
    sym (text_more (deliveries_of k b) d)
    ∙ ap (λ (x : Delivery ℤ). deliveries_text (deliveries_of k b ++ (x ∷ []))) e
    ∙ ap (λ (n : ℕ). deliveries_text (deliveries_of n b)) (sym (add-one k)) in
    subst (λ (x : List ℕ). Printed v t x) l (more p q)

-- Head, deliveries and end are a site's line.
pub line_printed : {s t u v : Text} (number : ℕ) (b : List ℕ) {round n : ℕ} → round ≡ (head_of b).round → n ≡ (head_of b).deliveries
    → Printed t s (site_head number round) → Printed u t (deliveries_text (deliveries_of n b)) → Printed v u line_end
    → Printed v s (line_of number b)
unfolding site_line head_of
line_printed {s} {v = v} number b e f p q w =
    subst (λ (x : List ℕ). Printed v s x) (λ i. site_head number (e i) ++ deliveries_text (deliveries_of (f i) b) ++ line_end) (more (more p q) w)

-- ---- one site

pub faulty_line : (t : SiteTable) (sites : List ℕ) (i : ℕ) (s : Text) → faulty_of t i ≡ true → HasRoom s 0 → Printed s s (line_at t sites i)
faulty_line t sites i s h r = rw h (nothing s r)

pub correct_line : {s u : Text} (t : SiteTable) (sites : List ℕ) (i : ℕ) {k : ℕ} → faulty_of t i ≡ false → k ≡ site_size
    → Printed u s (line_of i (take k (drop (i * site_size) sites))) → Printed u s (line_at t sites i)
unfolding site_at
correct_line t sites i h e w = rw h (rw e at w)

-- One site more is printed.
pub sites_more : {s u v : Text} (t : SiteTable) (sites : List ℕ) (i : ℕ)
    → Printed u s (lines_below t sites i) → Printed v u (line_at t sites i) → Printed v s (lines_below t sites (i + 1))
sites_more t sites i p q = rw (add-one i) (more p q)

-- ---- what the lines are of

pub good_printable : {sites commands : ℕ} {b : List ℕ} → Good sites commands b → Printable b
good_printable g = record { size = g.size; few = g.head.room }

module _ (t : SiteTable) (book : List Command) where
  -- Sites end to end whose correct ones are good can be printed.
  pub good_all_printable : (sites : List ℕ) → t.sites * site_size ≤ length sites → ((i : ℕ) → i < t.sites → faulty_of t i ≡ false → GoodAt t book (site_at sites i)) → AllPrintable t sites
  good_all_printable sites h g = record { size = h; each = λ i l e. good_printable (g i l e) }

  -- The line is that of the site that the bytes are seen as.
  pub line_seen : (number : ℕ) (b : List ℕ) → line_of number b ≡ site_line number (view t book b).round (view t book b).ledger.deliveries
  line_seen number b = refl

  -- The lines are those of every world whose correct sites the bytes are seen as.
  pub lines_correct : (sites : List ℕ) (w : World (dash t book)) (n : ℕ) → ((i : ℕ) → i < n → faulty_of t i ≡ false → w.site i ≡ view t book (site_at sites i))
      → lines_below t sites n ≡ site_lines t book n w
  lines_correct sites w zero h = refl
  lines_correct sites w (suc n) h =
      λ j. lines_correct sites w n (λ i l. h i (omega arith)) j ++ one (faulty_of t n) (h n (omega arith)) j
    where
      one : (b : Bool) → (b ≡ false → w.site n ≡ view t book (site_at sites n))
          → pick (not b) (line_of n (site_at sites n)) [] ≡ pick (not b) (site_line n (w.site n).round (w.site n).ledger.deliveries) []
      one true g = refl
      one false g = ap (λ (s : protocol.Site (dash t book)). site_line n s.round s.ledger.deliveries) (sym (g refl))

  -- The same where all sites are seen.
  pub lines_seen : (sites : List ℕ) (w : World (dash t book)) (n : ℕ) → ((i : ℕ) → i < n → w.site i ≡ view t book (site_at sites i))
      → lines_below t sites n ≡ site_lines t book n w
  lines_seen sites w n h = lines_correct sites w n (λ i l e. h i l)
