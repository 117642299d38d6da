-- Laws of a run: its three parts are its print, by the verdict on it, and what the call answers.
-- Assumes nothing.
use mathlib.Core.Path.{◌≡◌, refl, sym, ap, subst, ◌∙◌}
use Rattle.std.specs.Prelude.{Err, Ok, Option}
use Rattle.steps.specs.declared.Step.{Step}
use mathlib.Core.Bool.{Bool, true, false, ◌&&◌}
use mathlib.Core.List.{List, ◌++◌}
use Prim.Native.Nat.{ℕ, ◌+◌, ◌*◌, ◌-◌, ◌≤◌, ◌<◌}
use native.Mathlib.Omega.{arith}
use borrow.Author.Tests.{leb-true}
use lib.Dec.{leb}
use lib.ListN.{length, take, drop, replicate, length-take, length-drop, length-append}
use lib.Seq.{length-take-le, take_at, drop_at}
use Rattle.refusals.specs.Refusals.{number_of, is_taken, accepted}
use Rattle.refusals.specs.declared.Refusal.{Refusal}
use Rattle.theory.specs.Sets.{pick}
use Rattle.theory.specs.Counting.{both as both_true, left, right, never}
use Rattle.wire.specs.Wire.{read_le, splice}
use Rattle.table.specs.declared.SiteTable.{SiteTable}
use Rattle.table.specs.Table.{is_good, faulty_count_of, marked_in}
use Rattle.table.proofs.Laws.{good_limits, good_few}
use Rattle.register.specs.declared.Command.{Command}
use Rattle.commands.specs.Book.{max_commands, commands_of, Placed}
use Rattle.commands.proofs.Walk.{few_commands}
use Rattle.conflicts.specs.Conflicts.{rows_in}
use Rattle.conflicts.proofs.Laws.{none_noted}
use Rattle.protocol.specs.System.{verdict}
use Rattle.protocol.specs.World.{World}
use Rattle.system.specs.Dash.{dash}
use Rattle.print.specs.declared.Text.{Text}
use Rattle.print.specs.Print.{Wrote, Printed}
use Rattle.print.proofs.Laws.{more}
use Rattle.steps.specs.Steps.{steps_of}
use Rattle.lines.specs.Lines.{run_line, refused_line}
use Rattle.lines.proofs.Laws.{run_short}
use Rattle.header.specs.declared.Run.{Run}
use Rattle.header.specs.Header.{judge_run, places_after}
use Rattle.header.proofs.Laws.{Sound, judged_taken, places_noted, past_places}
use Rattle.runs.specs.Run.{max_run, header_size, book_size, book_of, step_bytes, for_run, site_lines, played, print_as, print_of}
use Rattle.layout.specs.Layout.{site_at, site_size, span_place}
use Rattle.world.specs.World.{Buffers, HoldsWorld}
use Rattle.world.specs.Started.{Started}
use Rattle.world.proofs.Past.{further}
use Rattle.play.specs.Played.{HoldsLast, PlayedAll}
use Rattle.report.specs.Report.{AllPrintable, lines_below}
use Rattle.report.proofs.Laws.{good_all_printable, lines_seen}
use Rattle.sent.specs.Sent.{sent_size}
use Rattle.run.specs.Ran.{run_line_room, print_room, sites_bytes, log_bytes, Ran, ran, run_of, Working, working, is_roomy}
use Rattle.run.specs.Left.{PastLeft, Worked, is_played, Left}
use Rattle.run.specs.Prepared.{Roomy}

-- ---- the first line

pub first_short : (t : SiteTable) (book : List ℕ) {f c : ℕ} → is_good t ≡ true → f ≡ faulty_count_of t → c ≡ length (commands_of book) → length (run_line t.sites f c) ≤ run_line_room
first_short t book {f} {c} good ef ec =
    let l = good_limits t good in
    run_short t.sites f c (omega arith) (omega (arith, good_few t good)) (omega (arith, few_commands book))

-- ---- the sites that the buffers hold

module _ (t : SiteTable) (book : List Command) {b : Buffers} {w : World (dash t book)} (h : HoldsWorld t book b w) where
  pub held_printable : AllPrintable t b.sites
  held_printable = good_all_printable t book b.sites (omega (arith, h.good.size)) (λ i l e. (h.site i l).good)

  held_lines : lines_below t b.sites t.sites ≡ site_lines t book t.sites w
  held_lines = lines_seen t book b.sites w t.sites (λ i l. sym (h.site i l).says)

-- The first line, those of the refused steps and those of the sites are the print.
pub all_parts : (t : SiteTable) (book : List Command) (steps : List ℕ) {x u v w : Text} {e : List ℕ} {f c : ℕ} {sites log sent : List ℕ} → f ≡ faulty_count_of t → c ≡ length book
    → Printed u x (run_line t.sites f c) → PlayedAll t book steps v u e sites log sent → Printed w v (lines_below t sites t.sites)
    → Printed w x (played t book (steps_of steps))
all_parts t book steps {x} {u} {v} {w} ef ec a p z =
    more
    (more (subst (λ (l : List ℕ). Printed u x l) (λ i. run_line t.sites (ef i) (ec i)) a) p.lines)
    (subst (λ (l : List ℕ). Printed w v l) (held_lines t book p.world) z)

-- What is past the rows of the sites is as it was before the start.
pub past_left : (t : SiteTable) (book : List Command) {steps earlier started sent unsent sites log sent' : List ℕ} {u v : Text} → Started t started sent earlier unsent
    → PlayedAll t book steps v u started sites log sent' → PastLeft t earlier sites
past_left t book {earlier = earlier} {started = started} {sites = sites} fresh played i l =
    (played.past i l).past
    ∙ further 0 (read_le 2 (site_at sites i) span_place) (site_at earlier i) (site_at started i) (omega arith) (fresh.past i l)

-- ---- the first parts of the working memory

-- A part put back at the start leaves the length.
pub length_back : (n : ℕ) (whole part : List ℕ) → n ≤ length whole → length part ≡ length (take n whole) → length (part ++ drop n whole) ≡ length whole
length_back n whole part h e = simp (length-append, length-drop) (omega (arith, length-take-le n whole h))

module _ (t : SiteTable) {w : Working} (good : is_good t ≡ true) (room : Roomy w) where
  pub sites_room : t.sites * site_size ≤ length w.sites
  sites_room = let n = good_limits t good in omega (arith, room.sites)

  -- The three parts put back: they hold the last world, and what is past them is as it was.
  pub worked : (book : List Command) (steps : List (Option Step)) {sites log sent : List ℕ} → length sites ≡ length (take (t.sites * site_size) w.sites) → length log ≡ length (take log_bytes w.log)
      → length sent ≡ length (take sent_size w.sent) → HoldsLast t book steps sites log sent
      → PastLeft t (take (t.sites * site_size) w.sites) sites
      → Worked t book steps w (working (sites ++ drop (t.sites * site_size) w.sites) (log ++ drop log_bytes w.log) (sent ++ drop sent_size w.sent))
  worked book steps {sites} {log} {sent} a b c h p =
      let i = a ∙ length-take-le (t.sites * site_size) w.sites sites_room in
      let j = b ∙ length-take-le log_bytes w.log room.log in
      let k = c ∙ length-take-le sent_size w.sent room.sent in
      record {
        world =
            coe 1 0 (z.
            HoldsLast t book steps (take_at sites (drop (t.sites * site_size) w.sites) (t.sites * site_size) i z) (take_at log (drop log_bytes w.log) log_bytes j z)
            (take_at sent (drop sent_size w.sent) sent_size k z)) h;
        rows = subst (PastLeft t (take (t.sites * site_size) w.sites)) (sym (take_at sites (drop (t.sites * site_size) w.sites) (t.sites * site_size) i)) p;
        sites = drop_at sites (drop (t.sites * site_size) w.sites) (t.sites * site_size) i;
        log = drop_at log (drop log_bytes w.log) log_bytes j;
        sent = drop_at sent (drop sent_size w.sent) sent_size k;
      }

-- ---- by the verdict

module _ (run : List ℕ) where
  -- The steps of a run that is taken are shorter than a run, since its header is not empty.
  pub steps_short : Sound run → {end : ℕ} → end ≡ header_size + book_size run → length (take (length run - end) (drop end run)) < max_run
  steps_short s {end} e = simp (length-take, length-drop) (omega (arith, s.size, s.end))

  pub print_refused : {s after : List ℕ} {end n : ℕ} (r : Refusal) → verdict (for_run run) ≡ Err r → n ≡ number_of r
      → Wrote after end s 0 (refused_line n) → Wrote after end s 0 (print_of run)
  unfolding print_of
  print_refused {s} {after} {end} r e q w = subst (λ (l : List ℕ). Wrote after end s 0 l) (ap refused_line q ∙ sym (ap (print_as run) e)) w

  pub print_taken : {s after : List ℕ} {end : ℕ} {t : SiteTable} {book steps : List ℕ} → verdict (for_run run) ≡ accepted → t ≡ marked_in run → book ≡ book_of run → steps ≡ step_bytes run
      → Wrote after end s 0 (played t (commands_of book) (steps_of steps)) → Wrote after end s 0 (print_of run)
  unfolding print_of
  print_taken {s} {after} {end} e et eb es w =
      subst (λ (l : List ℕ). Wrote after end s 0 l) ((λ i. played (et i) (commands_of (eb i)) (steps_of (es i))) ∙ sym (ap (print_as run) e)) w

-- The part that is the book of a run that is taken: its commands are counted and their places noted, and no row yet.
pub placed_part : (run : List ℕ) {b q : List ℕ} {n : Run} → b ≡ book_of run → Ok n ≡ judge_run run → q ≡ places_after run none_noted
    → (rows_in q ≡ replicate max_commands 0) × (n.rules.commands ≡ length (commands_of b)) × Placed b q
placed_part run {b} {q} e o w =
    let j = judged_taken run o in (
      past_places run none_noted w,
      ap (λ (r : Run). r.rules.commands) j.1 ∙ ap (λ (l : List ℕ). length (commands_of l)) (sym e),
      subst (λ (l : List ℕ). Placed l q) (sym e) (places_noted run none_noted j.0 (omega arith) w),
    )

-- ---- what the call answers

pub roomy_told : (w : Working) (out : List ℕ) → is_roomy w out ≡ true → Roomy w × (print_room ≤ length out)
roomy_told w out h =
    let a = leb sites_bytes (length w.sites) in
    let b = leb log_bytes (length w.log) in
    let c = leb sent_size (length w.sent) in
    let d = leb print_room (length out) in
    let u = left (a && b && c) d h in
    let v = left (a && b) c u in (
      record {
        sites = leb-true sites_bytes (length w.sites) (left a b v);
        log = leb-true log_bytes (length w.log) (right a b v);
        sent = leb-true sent_size (length w.sent) (right (a && b) c u);
      },
      leb-true print_room (length out) (right (a && b && c) d h),
    )

module _ (run : List ℕ) (w : Working) (out : List ℕ) where
  -- A buffer too short: nothing is written, and the run is not played.
  pub no_room : is_roomy w out ≡ false → (ran 0 out ≡ run_of run w out) × Left run w out w
  unfolding run_of
  no_room h = (
    sym (λ i. pick (h i) (ran (length (print_of run)) (splice out 0 (print_of run))) (ran 0 out)),
    record { kept = λ e. refl; worked = λ e. absurd (never (is_roomy w out) (left (is_roomy w out) (is_taken (verdict (for_run run))) e) h) },
  )

  pub with-room : {after : List ℕ} {end : ℕ} → is_roomy w out ≡ true → Wrote after end out 0 (print_of run) → ran end after ≡ run_of run w out
  unfolding run_of
  with-room {after} {end} h x =
      let e : end ≡ length (print_of run) = omega (arith, x.end) in
      rw h (λ i. ran (e i) (x.bytes i))

  -- A run refused: its line is written, and it is not played.
  pub refused_left : (r : Refusal) → verdict (for_run run) ≡ Err r → Left run w out w
  refused_left r h =
      record {
        kept = λ e. refl;
        worked = λ e. absurd (never (is_taken (verdict (for_run run))) (right (is_roomy w out) (is_taken (verdict (for_run run))) e) (ap is_taken h));
      }

  pub played_left : {t : SiteTable} {book steps : List ℕ} {after : Working} → is_roomy w out ≡ true → verdict (for_run run) ≡ accepted → t ≡ marked_in run → book ≡ book_of run
      → steps ≡ step_bytes run → Worked t (commands_of book) (steps_of steps) w after → Left run w out after
  played_left {t} {book} {steps} {after} room h et eb es x =
      record {
        kept = λ e. absurd (never (is_played run w out) (both_true (is_roomy w out) (is_taken (verdict (for_run run))) room (ap is_taken h)) e);
        worked = λ e. coe 0 1 (i. Worked (et i) (commands_of (eb i)) (steps_of (es i)) w after) x;
      }

-- ---- for a caller

-- No more bytes are answered than the buffer has.
pub answer_fits : (run : List ℕ) (w : Working) (out : List ℕ) {after : List ℕ} {end : ℕ} → ran end after ≡ run_of run w out → end ≤ length after
unfolding run_of splice
answer_fits run w out {after} {end} = go (is_roomy w out)
  where
    go : (b : Bool) → ran end after ≡ pick b (ran (length (print_of run)) (splice out 0 (print_of run))) (ran 0 out) → end ≤ length after
    go true e =
        let n = ap (λ (x : Ran). x.answer) e in
        let s = ap (λ (x : Ran). length x.out) e in
        let a = length-append (take 0 out ++ print_of run) (drop (0 + length (print_of run)) out) in
        omega (arith, length-append (take 0 out) (print_of run))
    go false e = let n = ap (λ (x : Ran). x.answer) e in omega arith
