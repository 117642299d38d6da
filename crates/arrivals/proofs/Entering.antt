-- Step 06 on lent buffers: an entry of a faulty site in the log.
-- Assumes nothing.
use mathlib.Core.Path.{◌≡◌, refl, sym, ap, subst, ◌∙◌}
use Rattle.std.specs.Prelude.{Err}
use mathlib.Core.Bool.{Bool, true, false, not}
use mathlib.Core.List.{List}
use Prim.Native.Nat.{ℕ, ◌+◌, ◌*◌, ◌≤◌}
use lib.Dec.{ltb}
use lib.ListN.{length}
use borrow.Author.Tests.{ltb-true}
use Rattle.refusals.specs.declared.Refusal.{Refusal}
use Rattle.refusals.specs.Refusals.{Verdict, accepted}
use Rattle.refusals.specs.declared.Refusal.TheVariants.{Range, Role, ThirdEntry}
use Rattle.theory.specs.Sets.{pick}
use Rattle.theory.specs.Counting.{not-true, not-false, not-not}
use Rattle.sets.specs.declared.Set.{Set}
use Rattle.sets.specs.Sets.{in_set}
use Rattle.table.specs.declared.SiteTable.{SiteTable}
use Rattle.table.specs.Table.{faulty_of}
use Rattle.register.specs.declared.Command.{Command}
use Rattle.protocol.specs.Recovery as recovery
use Rattle.protocol.specs.World.{false_entry, append, judge}
use Rattle.system.specs.Dash.{dash}
use Rattle.layout.specs.Layout.{site_at}
use Rattle.entries.specs.declared.Entry.{Entry}
use Rattle.entries.specs.Entries.{entry_size, log_to, write_entry, view_entry, in_range_of}
use Rattle.entries.proofs.Bytes.{Fits}
use Rattle.world.specs.World.{world_of, HoldsWorld}
use Rattle.world.specs.Parts.{lent, Entered}
use Rattle.world.proofs.Past.{past_same}
use Rattle.world.proofs.Hold.{kept, refused, taken}
use Rattle.world.proofs.Growing.{entry_holds, entry_back}
use Rattle.arrivals.proofs.Judging.{entry_judged}

-- The verdict on an entry, by whether it is in range, whether its site is faulty, and how many that site has in its round.
abbrev entry_verdict : Bool → Bool → ℕ → Verdict
entry_verdict x f n = pick x (pick f (pick (ltb n 2) accepted (Err ThirdEntry)) (Err Role)) (Err Range)

module _ (t : SiteTable) (commands : ℕ) (log : List ℕ) (entries j r : ℕ) (nc c : Set) where
  abbrev this : Entry
  this = record { site = j; round = r; nc = nc; c = c }

  abbrev answered : Verdict → ℕ → List ℕ → Type 0
  answered v k after = Entered t commands (false_entry j r (in_set nc) (in_set c)) log entries v after k

  told : (book : List Command) (sites sent : List ℕ) → commands ≡ length book
      → judge (dash t book) (world_of t book (lent sites log entries sent)) (false_entry j r (in_set nc) (in_set c))
      ≡ entry_verdict (in_range_of t.sites commands this) (faulty_of t j) (recovery.entries j r (log_to log entries))
  told book sites sent q =
      entry_judged t book (world_of t book (lent sites log entries sent)) j r nc c
      ∙ ap (λ (m : ℕ). entry_verdict (in_range_of t.sites m this) (faulty_of t j) (recovery.entries j r (log_to log entries))) (sym q)

  entry_refused : (y : Refusal) → entry_verdict (in_range_of t.sites commands this) (faulty_of t j) (recovery.entries j r (log_to log entries)) ≡ Err y
      → answered (Err y) entries log
  entry_refused y e =
      λ book sites sent q g small.
      refused t book (lent sites log entries sent) g (false_entry j r (in_set nc) (in_set c)) y (told book sites sent q ∙ e) small

  module _ {x : Bool} (ex : x ≡ in_range_of t.sites commands this) where
    pub entry_out : not x ≡ true → answered (Err Range) entries log
    entry_out h = entry_refused Range (λ i. entry_verdict ((sym ex ∙ not-true x h) i) (faulty_of t j) (recovery.entries j r (log_to log entries)))

    module _ (hx : not x ≡ false) {f : Bool} (ef : f ≡ faulty_of t j) where
      pub entry_correct : not f ≡ true → answered (Err Role) entries log
      entry_correct h =
          entry_refused Role (λ i. entry_verdict ((sym ex ∙ not-false x hx) i) ((sym ef ∙ not-true f h) i) (recovery.entries j r (log_to log entries)))

      module _ (hf : not f ≡ false) {third : Bool} (et : third ≡ not (ltb (recovery.entries j r (log_to log entries)) 2)) where
        few : not third ≡ ltb (recovery.entries j r (log_to log entries)) 2
        few = ap not et ∙ not-not (ltb (recovery.entries j r (log_to log entries)) 2)

        by_number : entry_verdict (in_range_of t.sites commands this) (faulty_of t j) (recovery.entries j r (log_to log entries))
            ≡ pick (not third) accepted (Err ThirdEntry)
        by_number = λ i. pick ((sym ex ∙ not-false x hx) i) (pick ((sym ef ∙ not-false f hf) i) (pick (sym few i) accepted (Err ThirdEntry)) (Err Role)) (Err Range)

        pub entry_third : third ≡ true → answered (Err ThirdEntry) entries log
        entry_third h = entry_refused ThirdEntry (by_number ∙ ap (λ (b : Bool). pick (not b) accepted (Err ThirdEntry)) h)

        pub entered : third ≡ false → Fits this → (entries + 1) * entry_size ≤ length log → {after : List ℕ} → after ≡ write_entry log entries this
            → {n : ℕ} → n ≡ entries + 1 → answered accepted n after
        entered h fits room {after} ea en =
            subst (λ (k : ℕ). answered accepted k after) (sym en) (λ book sites sent q g small.
            let b = lent sites log entries sent in
            taken t book b g (false_entry j r (in_set nc) (in_set c))
            (told book sites sent q ∙ by_number ∙ ap (λ (y : Bool). pick (not y) accepted (Err ThirdEntry)) h)
            (subst (λ (l : List ℕ). HoldsWorld t book (lent sites l (entries + 1) sent) (append (dash t book) (view_entry this) (world_of t book b))) (sym ea)
            (entry_holds t book b (kept t book b g small) this fits (ap (λ (m : ℕ). in_range_of t.sites m this) (sym q) ∙ sym ex ∙ not-false x hx) (ltb-true (recovery.entries j r (log_to log entries)) 2 (sym few ∙ ap not h)) room))
            (ea ∙ ap (write_entry log entries) (sym (entry_back this fits.nc fits.c))) refl (λ i l. past_same (site_at sites i)))
