-- The verdict on a run, one law for each answer, and what a run that is taken gives.
-- Assumes nothing.
use mathlib.Core.Path.{◌≡◌, refl, sym, ap, ◌∙◌}
use Rattle.std.specs.Prelude.{Err, None, Ok, Some, Option}
use mathlib.Core.Bool.{Bool, true, false}
use mathlib.Core.List.{List}
use Prim.Native.Nat.{ℕ, ◌+◌, ◌-◌, ◌≤◌, ◌<◌}
use native.Mathlib.Omega.{arith}
use lib.Dec.{leb}
use lib.ListN.{length, take, drop}
use borrow.Author.Tests.{le-leb, lt-leb, leb-true}
use Rattle.refusals.specs.Refusals.{is_taken, accepted}
use Rattle.refusals.specs.declared.Refusal.{Refusal}
use Rattle.refusals.specs.declared.Refusal.TheVariants.{Book, Table, Size}
use Rattle.refusals.specs.Refusals.{Verdict}
use Rattle.table.specs.declared.SiteTable.{SiteTable}
use Rattle.table.specs.Table.{is_good, marked_size, marked_in, table_as, read_marked}
use Rattle.table.proofs.Laws.{judged_good as table-good, judged_refused as table-refused, table_whole}
use Rattle.register.specs.declared.Command.{Command}
use Rattle.commands.specs.Book.{max_commands, read_up_to, verdict_of, judge_book, commands_of, measure_book, Placed, noted_places}
use Rattle.commands.proofs.Walk.{is_counted, not-counted, taken-counted}
use Rattle.commands.proofs.Noting.{note_noted, past_noted}
use Rattle.theory.specs.Sets.{pick}
use lib.Seq.{sets}
use Rattle.wire.proofs.Laws.{part_all}
use Rattle.protocol.specs.System.{granted, ◌else◌⨾◌, verdict}
use Rattle.runs.specs.Run.{max_run, header_size, book_size, book_of, step_bytes, for_run}
use Rattle.header.specs.declared.Run.{Run}
use Rattle.header.specs.Header.{for_header, said_by, opened_as, judge_run, places_after}

-- ---- the parts of a run

-- The part from the header to the book's end is the book.
pub book_part : (run : List ℕ) {end : ℕ} → end ≡ header_size + book_size run → take (end - header_size) (drop header_size run) ≡ book_of run
book_part run {end} e =
    let q : end - header_size ≡ book_size run = omega arith in
    ap (λ (k : ℕ). take k (drop header_size run)) q

-- The part from the book's end on holds the steps.
pub step_part : (run : List ℕ) {end : ℕ} → end ≡ header_size + book_size run → take (length run - end) (drop end run) ≡ step_bytes run
step_part run {end} e = part_all run end ∙ ap (λ (k : ℕ). drop k run) e

-- ---- size and header: one law for each answer

module _ (run : List ℕ) where
  pub too_long : max_run < length run → Err Size ≡ verdict (for_header run)
  too_long h = rw (lt-leb (length run) max_run h) refl

  module _ (a : length run ≤ max_run) where
    pub header_cut : length run < header_size → Err Table ≡ verdict (for_header run)
    header_cut h = rw (le-leb (length run) max_run a, lt-leb header_size (length run) h) refl

    module _ (b : header_size ≤ length run) where
      -- A header that is not cut has a whole table, which is judged by its limits.
      whole : table_as (is_good (marked_in run)) (marked_in run) ≡ read_marked run
      whole = table_whole marked_size run (marked_in run) (omega arith)

      pub bad_table : {r : Refusal} → read_marked run ≡ Err r → Err r ≡ verdict (for_header run)
      bad_table {r} h =
          ap Err (table-refused (is_good (marked_in run)) (marked_in run) (whole ∙ h)).1 ∙ rw (le-leb (length run) max_run a, le-leb header_size (length run) b, (table-refused (is_good (marked_in run)) (marked_in run) (whole ∙ h)).0) refl

      pub good_table : {u : SiteTable} → read_marked run ≡ Ok u → (is_good (marked_in run) ≡ true) × (u ≡ marked_in run)
      good_table c = table-good (is_good (marked_in run)) (marked_in run) (whole ∙ c)

      module _ {u : SiteTable} (c : read_marked run ≡ Ok u) {end : ℕ} (f : end ≡ header_size + book_size run) where
        pub book_cut : length run < end → Err Table ≡ verdict (for_header run)
        book_cut h =
            rw (
              le-leb (length run) max_run a,
              le-leb header_size (length run) b,
              (good_table c).0,
              lt-leb (header_size + book_size run) (length run) (omega arith),
            )
            refl

        pub header_taken : end ≤ length run → accepted ≡ verdict (for_header run)
        header_taken h =
            rw (
              le-leb (length run) max_run a,
              le-leb header_size (length run) b,
              (good_table c).0,
              le-leb (header_size + book_size run) (length run) (omega arith),
            )
            refl

end_inside : (a b c d : Bool) → verdict (a else Size ⨾ b else Table ⨾ c else Table ⨾ d else Table ⨾ granted) ≡ accepted → d ≡ true
end_inside true true true true h = refl
end_inside true true true false h = absurd (let z : ◌≡◌ {A = ℕ} 0 1 = cc in omega arith)
end_inside true true false d h = absurd (let z : ◌≡◌ {A = ℕ} 0 1 = cc in omega arith)
end_inside true false c d h = absurd (let z : ◌≡◌ {A = ℕ} 0 1 = cc in omega arith)
end_inside false b c d h = absurd (let z : ◌≡◌ {A = ℕ} 0 1 = cc in omega arith)

pub book_inside : (run : List ℕ) → verdict (for_header run) ≡ accepted → header_size + book_size run ≤ length run
book_inside run h =
    leb-true (header_size + book_size run) (length run) (end_inside (leb (length run) max_run) (leb header_size (length run)) (is_good (marked_in run)) (leb (header_size + book_size run) (length run)) h)

-- ---- the whole run: one law for each answer

-- The refusal of a book is the last demand's.
book_last : (o : Option (List Command)) → verdict_of o ≡ verdict (is_taken (verdict_of o) else Book ⨾ granted)
book_last None = refl
book_last (Some cs) = refl

first_refused : (a b c d : Bool) (v : Verdict) {r : Refusal} → verdict (a else Size ⨾ b else Table ⨾ c else Table ⨾ d else Table ⨾ granted) ≡ Err r
    → Err r ≡ verdict (a else Size ⨾ b else Table ⨾ c else Table ⨾ d else Table ⨾ is_taken v else Book ⨾ granted)
first_refused true true true true v h = absurd (let z : ◌≡◌ {A = ℕ} 0 1 = cc in omega arith)
first_refused true true true false v h = sym h
first_refused true true false d v h = sym h
first_refused true false c d v h = sym h
first_refused false b c d v h = sym h

first_taken : (a b c d : Bool) (v : Verdict) → verdict (a else Size ⨾ b else Table ⨾ c else Table ⨾ d else Table ⨾ granted) ≡ accepted
    → verdict (is_taken v else Book ⨾ granted) ≡ verdict (a else Size ⨾ b else Table ⨾ c else Table ⨾ d else Table ⨾ is_taken v else Book ⨾ granted)
first_taken true true true true v h = refl
first_taken true true true false v h = absurd (let z : ◌≡◌ {A = ℕ} 0 1 = cc in omega arith)
first_taken true true false d v h = absurd (let z : ◌≡◌ {A = ℕ} 0 1 = cc in omega arith)
first_taken true false c d v h = absurd (let z : ◌≡◌ {A = ℕ} 0 1 = cc in omega arith)
first_taken false b c d v h = absurd (let z : ◌≡◌ {A = ℕ} 0 1 = cc in omega arith)

module _ (run p : List ℕ) where
  pub run_refused : {r : Refusal} → verdict (for_header run) ≡ Err r → (Err r ≡ judge_run run) × (p ≡ places_after run p)
  unfolding judge_run places_after
  run_refused {r} h =
      let e = first_refused (leb (length run) max_run) (leb header_size (length run)) (is_good (marked_in run)) (leb (header_size + book_size run) (length run)) (judge_book (book_of run)) h in (
        ap (λ (v : Verdict). opened_as v (said_by run)) e,
        ap (λ (v : Verdict). pick (is_taken v) (sets p 0 (noted_places (book_of run))) p) (sym h),
      )

  -- The verdict on the book, where size and header are taken.
  module _ (h : verdict (for_header run) ≡ accepted) {b q : List ℕ} (e : b ≡ book_of run) (w : q ≡ sets p 0 (noted_places b)) where
    walked : q ≡ places_after run p
    unfolding places_after
    walked =
        w ∙ ap (λ (l : List ℕ). sets p 0 (noted_places l)) e
        ∙ ap (λ (v : Verdict). pick (is_taken v) (sets p 0 (noted_places (book_of run))) p) (sym h)

    by_book : {v : Verdict} → v ≡ judge_book b → v ≡ verdict (for_run run)
    unfolding judge_book
    by_book g =
        g ∙ ap judge_book e ∙ book_last (read_up_to max_commands (book_of run))
        ∙ first_taken (leb (length run) max_run) (leb header_size (length run)) (is_good (marked_in run)) (leb (header_size + book_size run) (length run)) (judge_book (book_of run)) h

    pub run-counted : {n end : ℕ} {t : SiteTable} → measure_book b ≡ Some n → t ≡ marked_in run → end ≡ header_size + book_size run
        → (Ok (record { rules = record { table = t; commands = n }; steps = end }) ≡ judge_run run) × (q ≡ places_after run p)
    unfolding judge_run
    run-counted {n} {end} {t} m et ee =
        let c = is_counted b m in
        let k : n ≡ length (commands_of (book_of run)) = c.1 ∙ ap (λ (l : List ℕ). length (commands_of l)) e in
        let said : record { rules = record { table = t; commands = n }; steps = end } ≡ said_by run = λ i. record { rules = record { table = et i; commands = k i }; steps = ee i } in
        (ap Ok said ∙ ap (λ (v : Verdict). opened_as v (said_by run)) (by_book c.0), walked)

    pub run_unreadable : measure_book b ≡ None → (Err Book ≡ judge_run run) × (q ≡ places_after run p)
    unfolding judge_run
    run_unreadable m = (ap (λ (v : Verdict). opened_as v (said_by run)) (by_book (not-counted b m).0), walked)

-- ---- what a run that is taken gives

pub record Sound (run : List ℕ) : Type 0 where
  pub size : length run ≤ max_run
  pub table : is_good (marked_in run) ≡ true
  pub end : header_size + book_size run ≤ length run
  pub book : judge_book (book_of run) ≡ accepted

pub sound : (run : List ℕ) → verdict (for_run run) ≡ accepted → Sound run
sound run h =
    let g = go (leb (length run) max_run) (leb header_size (length run)) (is_good (marked_in run)) (leb (header_size + book_size run) (length run)) (judge_book (book_of run)) h in
    record {
      size = leb-true (length run) max_run g.0;
      table = g.1.0;
      end = leb-true (header_size + book_size run) (length run) g.1.1.0;
      book = g.1.1.1;
    }
  where
    go : (a b c d : Bool) (v : Verdict)
        → verdict (a else Size ⨾ b else Table ⨾ c else Table ⨾ d else Table ⨾ is_taken v else Book ⨾ granted) ≡ accepted
        → (a ≡ true) × ((c ≡ true) × ((d ≡ true) × (v ≡ accepted)))
    go true true true true (Ok _) h = (refl, (refl, (refl, refl)))
    go true true true true (Err r) h = absurd (let z : ◌≡◌ {A = ℕ} 0 1 = cc in omega arith)
    go true true true false v h = absurd (let z : ◌≡◌ {A = ℕ} 0 1 = cc in omega arith)
    go true true false d v h = absurd (let z : ◌≡◌ {A = ℕ} 0 1 = cc in omega arith)
    go true false c d v h = absurd (let z : ◌≡◌ {A = ℕ} 0 1 = cc in omega arith)
    go false b c d v h = absurd (let z : ◌≡◌ {A = ℕ} 0 1 = cc in omega arith)

-- ---- for a caller

opened_taken : (v : Verdict) (m : Run) {n : Run} → Ok n ≡ opened_as v m → (v ≡ accepted) × (n ≡ m)
opened_taken (Ok _) m e = (refl, cc)
opened_taken (Err r) m e = absurd (let z : ◌≡◌ {A = ℕ} 0 1 = cc in omega arith)

opened_refused : (v : Verdict) (m : Run) {r : Refusal} → Err r ≡ opened_as v m → v ≡ Err r
opened_refused (Ok _) m e = absurd (let z : ◌≡◌ {A = ℕ} 0 1 = cc in omega arith)
opened_refused (Err x) m {r} e = let q : r ≡ x = cc in ap Err (sym q)

header_first : (a b c d : Bool) (v : Verdict) → verdict (a else Size ⨾ b else Table ⨾ c else Table ⨾ d else Table ⨾ is_taken v else Book ⨾ granted) ≡ accepted
    → verdict (a else Size ⨾ b else Table ⨾ c else Table ⨾ d else Table ⨾ granted) ≡ accepted
header_first true true true true v h = refl
header_first true true true false v h = h
header_first true true false d v h = h
header_first true false c d v h = h
header_first false b c d v h = h

module _ (run : List ℕ) where
  pub judged_taken : {n : Run} → Ok n ≡ judge_run run → (verdict (for_run run) ≡ accepted) × (n ≡ said_by run)
  unfolding judge_run
  judged_taken e = opened_taken (verdict (for_run run)) (said_by run) e

  -- What a run that is taken says.
  pub judged_table : {n : Run} → Ok n ≡ judge_run run → n.rules.table ≡ marked_in run
  judged_table e = ap (λ (r : Run). r.rules.table) (judged_taken e).1

  pub judged_end : {n : Run} → Ok n ≡ judge_run run → n.steps ≡ header_size + book_size run
  judged_end e = ap (λ (r : Run). r.steps) (judged_taken e).1

  pub judged_refused : {r : Refusal} → Err r ≡ judge_run run → verdict (for_run run) ≡ Err r
  unfolding judge_run
  judged_refused e = opened_refused (verdict (for_run run)) (said_by run) e

  -- The places of a run that is taken.
  pub places_noted : (p : List ℕ) {q : List ℕ} → verdict (for_run run) ≡ accepted → max_commands ≤ length p → q ≡ places_after run p → Placed (book_of run) q
  unfolding places_after
  places_noted p h room e =
      let f = header_first (leb (length run) max_run) (leb header_size (length run)) (is_good (marked_in run)) (leb (header_size + book_size run) (length run)) (judge_book (book_of run)) h in
      note_noted (book_of run) p room (taken-counted (book_of run) (sound run h).book) (e ∙ ap (λ (v : Verdict). pick (is_taken v) (sets p 0 (noted_places (book_of run))) p) f)

  -- What is past the places is as it was.
  pub past_places : (p : List ℕ) {q : List ℕ} → q ≡ places_after run p → drop max_commands q ≡ drop max_commands p
  unfolding places_after
  past_places p e = ap (drop {A = ℕ} max_commands) e ∙ past_noted (is_taken (verdict (for_header run))) (book_of run) p
