-- What the calls that look at a site write, and what of the protocol's site that is.
-- Assumes nothing.
use mathlib.Core.Path.{◌≡◌, refl, sym, ap, ◌∙◌}
use Rattle.std.specs.Prelude.{Err, Ok, Result, Option, Some}
use mathlib.Core.Bool.{true}
use mathlib.Core.List.{List, [], ◌∷◌, ◌++◌}
use mathlib.Core.Logic.{◌⊎◌, inl, inr}
use Prim.Native.Nat.{ℕ, zero, suc, ◌+◌, ◌≤◌, ◌<◌}
use native.Mathlib.Omega.{arith}
use lib.Dec.{leb, ltb}
use lib.IntN.{ℤ}
use lib.ListN.{length, take, get_or}
use mir.Syntax.{w32}
use borrow.Author.Tests.{leb-true, lt-ltb, le-ltb}
use Rattle.theory.specs.Sets.{one}
use Rattle.theory.specs.Lists.{nth}
use Rattle.theory.specs.Machine.{Delivery}
use Rattle.theory.specs.ListLaws.{nth-append, nth_last, nth_end}
use Rattle.theory.specs.Counting.{last_or_below}
use Rattle.wire.proofs.Laws.{next}
use Rattle.wire.specs.Wire.{bytes, read_le, splice}
use Rattle.signed.proofs.Laws.{bytes_signed}
use Rattle.refusals.specs.declared.Refusal.{Refusal}
use Rattle.refusals.specs.declared.Refusal.TheVariants.{Range}
use Rattle.refusals.specs.Refusals.{number_of, code_of}
use Rattle.table.specs.declared.Rules.{Rules}
use Rattle.sets.specs.Sets.{capacity}
use Rattle.register.specs.declared.Bike.{Bike}
use Rattle.register.specs.Register.{bikes}
use Rattle.register.specs.Lent.{bike_size, bike_bytes, register_of}
use Rattle.protocol.specs.System.{verdict, granted, ◌else◌⨾◌}
use Rattle.protocol.specs.Site.{is_waiting, is_some}
use Rattle.layout.specs.declared.Phase.{Phase}
use Rattle.layout.specs.declared.Phase.TheVariants.{Acknowledging, Waiting}
use Rattle.layout.specs.declared.Site.{Site}
use Rattle.layout.specs.Layout.{site_size, count_place, register_place, delivery_size, head_of, phase_seen, phase_number, slot, delivery_of, deliveries_of, delivery_bytes}
use Rattle.layout.proofs.Deliveries.{length_deliveries}
use Rattle.layout.proofs.Encode.{counted}
use Rattle.judging.specs.Outcomes.{outcome}
use Rattle.judging.specs.Judging.{system_of, site_in, rules_of, judged_as, for_site}
use Rattle.judging.proofs.Demands.{then_refused, code_refused, code-taken, last_refused, last_taken}
use Rattle.judging.proofs.Laws.{Judged, site_judged, good_code, refused_code}
use Rattle.looking.specs.Looking.{status_size, status_bytes, head_status, found_bytes, status_call, bike_call, delivery_call}

-- ---- what is written

module _ (o : List ℕ) where
  pub status_written : (h : Site) {p : ℕ} {l₁ l₂ l₃ l₄ : List ℕ} → p ≡ phase_number h.phase → l₁ ≡ splice o 0 (bytes 1 h.round) → l₂ ≡ splice l₁ 1 (bytes 1 p)
      → l₃ ≡ splice l₂ 2 (bytes 1 h.deliveries) → l₄ ≡ splice l₃ 3 (bytes 2 h.position) → l₄ ≡ splice o 0 (head_status h)
  unfolding bytes
  status_written h {p} ep e₁ e₂ e₃ e₄ =
      next o 0 ((bytes 1 h.round ++ bytes 1 p) ++ bytes 1 h.deliveries) (bytes 2 h.position) 3 refl (omega arith)
      (next o 0 (bytes 1 h.round ++ bytes 1 p) (bytes 1 h.deliveries) 2 refl (omega arith) (next o 0 (bytes 1 h.round) (bytes 1 p) 1 refl (omega arith) e₁ e₂) e₃) e₄
      ∙ (λ i. splice o 0 (((bytes 1 h.round ++ bytes 1 (ep i)) ++ bytes 1 h.deliveries) ++ bytes 2 h.position))

  pub bike-written : (e : Bike) {f : Bike} {l₁ l₂ : List ℕ} → f ≡ e → l₁ ≡ splice o 0 (bytes 4 f.reading) → l₂ ≡ splice l₁ 4 (bytes 4 f.dash) → l₂ ≡ splice o 0 (bike_bytes e)
  unfolding bytes
  bike-written e {f} ef e₁ e₂ = next o 0 (bytes 4 f.reading) (bytes 4 f.dash) 4 refl (omega arith) e₁ e₂ ∙ ap (λ (x : Bike). splice o 0 (bike_bytes x)) ef

  pub delivery_written : (b : List ℕ) (k : ℕ) {m w : ℕ} {l₁ l₂ : List ℕ} → length b ≡ site_size → k < capacity → ((i : ℕ) → get_or b i 0 < 256)
      → m ≡ read_le 1 b (slot k) → w ≡ read_le 4 b (slot k + 1) → l₁ ≡ splice o 0 (bytes 1 m) → l₂ ≡ splice l₁ 1 (bytes 4 w)
      → l₂ ≡ splice o 0 (delivery_bytes (delivery_of b k).command (delivery_of b k).answer)
  unfolding bytes
  delivery_written b k {m} {w} size h small em ew e₁ e₂ =
      next o 0 (bytes 1 m) (bytes 4 w) 1 refl (omega arith) e₁ e₂
      ∙ (λ i. splice o 0 (bytes 1 (em i) ++ (ap (bytes 4) ew ∙ sym (bytes_signed w32 4 b (slot k + 1) (omega arith) small (omega arith))) i))

-- ---- what it is of the protocol's site

-- The number of a phase.
number_waiting : (p : Phase) → phase_number p ≡ one (is_waiting (phase_seen p))
number_waiting Acknowledging = refl
number_waiting (Waiting x) = refl

nth_below : (n k : ℕ) (b : List ℕ) → k < n → nth (deliveries_of n b) k ≡ Some (delivery_of b k)
unfolding deliveries_of
nth_below zero k b h = absurd (omega arith)
nth_below (suc n) k b h = go (last_or_below k n h) (λ l. nth_below n k b l)
  where
    go : (k ≡ n) ⊎ (k < n) → (k < n → nth (deliveries_of n b) k ≡ Some (delivery_of b k))
        → nth (deliveries_of n b ++ (delivery_of b n ∷ [])) k ≡ Some (delivery_of b k)
    go (inl e) r = nth_last (deliveries_of n b) (delivery_of b n) k (e ∙ sym (length_deliveries n b)) ∙ ap (λ (m : ℕ). Some (delivery_of b m)) (sym e)
    go (inr l) r = nth-append (deliveries_of n b) (delivery_of b n ∷ []) k (let z = length_deliveries n b in omega arith) ∙ r l

module _ (table book site : List ℕ) where
  abbrev head : Site
  head = head_of (take site_size site)

  status_seen : head_status head ≡ status_bytes (system_of table book) (site_in table book site)
  status_seen =
      λ i.
      ((bytes 1 head.round ++ bytes 1 (number_waiting head.phase i))
      ++ bytes 1 ((sym (counted (take site_size site)) ∙ sym (length_deliveries (read_le 2 (take site_size site) count_place) (take site_size site))) i))
      ++ bytes 2 head.position

  -- ---- the status

  module _ (o : List ℕ) {j : Result Rules Refusal}
      (e : j ≡ judged_as (verdict (for_site table book (leb status_size (length o)) site)) (rules_of table book)) where
    pub status_refused : {r : Refusal} {k : ℕ} → j ≡ Err r → k ≡ number_of r → outcome k o ≡ status_call table book site o
    unfolding status_call
    status_refused h ek =
        let w = refused_code (verdict (for_site table book (leb status_size (length o)) site)) (rules_of table book) e h ek in
        code_refused (verdict (for_site table book (leb status_size (length o)) site)) _ o w.0 w.1

    module _ {x : Rules} (h : j ≡ Ok x) where
      status_code : 0 ≡ code_of (verdict (for_site table book (leb status_size (length o)) site))
      status_code = good_code (verdict (for_site table book (leb status_size (length o)) site)) (rules_of table book) e h

      judged : (leb status_size (length o) ≡ true) × (true ≡ true) × Judged table book site
      judged = site_judged table book (leb status_size (length o)) true site status_code refl

      pub status_sized : site_size ≤ length site
      status_sized = judged.2.sized

      pub status_few : head.deliveries ≤ capacity
      status_few = judged.2.good.head.room

      pub status_room : status_size ≤ length o
      status_room = leb-true status_size (length o) judged.0

      pub status_taken : {l : List ℕ} → l ≡ splice o 0 (head_status head) → outcome 0 l ≡ status_call table book site o
      unfolding status_call
      status_taken e =
          (λ i. outcome 0 ((e ∙ ap (splice o 0) status_seen) i))
          ∙ code-taken (verdict (for_site table book (leb status_size (length o)) site)) _ o status_code refl

  -- ---- a bike

  module _ (bike : ℕ) (o : List ℕ) {j : Result Rules Refusal}
      (e : j ≡ judged_as (verdict (for_site table book (leb bike_size (length o)) site)) (rules_of table book)) where
    pub bike_refused : {r : Refusal} {k : ℕ} → j ≡ Err r → k ≡ number_of r → outcome k o ≡ bike_call table book site bike o
    unfolding bike_call
    bike_refused h ek =
        let w = refused_code (verdict (for_site table book (leb bike_size (length o)) site)) (rules_of table book) e h ek in
        then_refused (for_site table book (leb bike_size (length o)) site) (ltb bike bikes else Range ⨾ granted) _ o w.0 w.1

    module _ {x : Rules} (h : j ≡ Ok x) where
      bike-code : 0 ≡ code_of (verdict (for_site table book (leb bike_size (length o)) site))
      bike-code = good_code (verdict (for_site table book (leb bike_size (length o)) site)) (rules_of table book) e h

      pub bike_sized : site_size ≤ length site
      bike_sized = (site_judged table book (leb bike_size (length o)) true site bike-code refl).2.sized

      pub bike-room : bike_size ≤ length o
      bike-room = leb-true bike_size (length o) (site_judged table book (leb bike_size (length o)) true site bike-code refl).0

      pub bike_range : {k : ℕ} → bikes ≤ bike → k ≡ number_of Range → outcome k o ≡ bike_call table book site bike o
      unfolding bike_call
      bike_range h ek = (λ i. outcome (ek i) o) ∙ last_refused (for_site table book (leb bike_size (length o)) site) (ltb bike bikes) Range _ o bike-code refl (le-ltb bike bikes h)

      pub bike-taken : bike < bikes → {l : List ℕ} → l ≡ splice o 0 (bike_bytes (register_of (take site_size site) register_place bike)) → outcome 0 l ≡ bike_call table book site bike o
      unfolding bike_call
      bike-taken h e =
          (λ i. outcome 0 (e i))
          ∙ last_taken (for_site table book (leb bike_size (length o)) site) (ltb bike bikes) Range _ o bike-code refl (lt-ltb bike bikes h)

  -- ---- a delivery

  module _ (i : ℕ) (o : List ℕ) {j : Result Rules Refusal}
      (e : j ≡ judged_as (verdict (for_site table book (leb delivery_size (length o)) site)) (rules_of table book)) where
    pub delivery_refused : {r : Refusal} {k : ℕ} → j ≡ Err r → k ≡ number_of r → outcome k o ≡ delivery_call table book site i o
    unfolding delivery_call
    delivery_refused h ek =
        let w = refused_code (verdict (for_site table book (leb delivery_size (length o)) site)) (rules_of table book) e h ek in
        then_refused (for_site table book (leb delivery_size (length o)) site)
        (is_some (nth (deliveries_of (read_le 2 (take site_size site) count_place) (take site_size site)) i) else Range ⨾ granted) _ o w.0 w.1

    module _ {x : Rules} (h : j ≡ Ok x) where
      delivery_code : 0 ≡ code_of (verdict (for_site table book (leb delivery_size (length o)) site))
      delivery_code = good_code (verdict (for_site table book (leb delivery_size (length o)) site)) (rules_of table book) e h

      pub delivery_sized : site_size ≤ length site
      delivery_sized = (site_judged table book (leb delivery_size (length o)) true site delivery_code refl).2.sized

      pub delivery_room : delivery_size ≤ length o
      delivery_room = leb-true delivery_size (length o) (site_judged table book (leb delivery_size (length o)) true site delivery_code refl).0

      module _ {count : ℕ} (eh : count ≡ head.deliveries) where
        ec : count ≡ read_le 2 (take site_size site) count_place
        ec = eh ∙ sym (counted (take site_size site))

        pub delivery_below : i < count → i < capacity
        unfolding head_of
        delivery_below h = let r = (site_judged table book (leb delivery_size (length o)) true site delivery_code refl).2.good.head.room in omega arith

        pub delivery_range : {k : ℕ} → count ≤ i → k ≡ number_of Range → outcome k o ≡ delivery_call table book site i o
        unfolding delivery_call
        delivery_range h ek =
            (λ j. outcome (ek j) o)
            ∙ last_refused (for_site table book (leb delivery_size (length o)) site)
            (is_some (nth (deliveries_of (read_le 2 (take site_size site) count_place) (take site_size site)) i)) Range _ o delivery_code refl
            (ap is_some (nth_end (deliveries_of (read_le 2 (take site_size site) count_place) (take site_size site)) i
            (let e = length_deliveries (read_le 2 (take site_size site) count_place) (take site_size site) in omega (arith, ec))))

        pub delivery_taken : i < count → {l : List ℕ} → l ≡ splice o 0 (delivery_bytes (delivery_of (take site_size site) i).command (delivery_of (take site_size site) i).answer)
            → outcome 0 l ≡ delivery_call table book site i o
        unfolding delivery_call
        delivery_taken h e =
            let found = nth_below (read_le 2 (take site_size site) count_place) i (take site_size site) (omega (arith, ec)) in
            (λ j. outcome 0 ((e ∙ ap (λ (x : Option (Delivery ℤ)). splice o 0 (found_bytes x)) (sym found)) j))
            ∙ last_taken (for_site table book (leb delivery_size (length o)) site)
            (is_some (nth (deliveries_of (read_le 2 (take site_size site) count_place) (take site_size site)) i)) Range _ o delivery_code refl
            (ap is_some found)
