-- Laws of the loop over the steps of a run: what is left of them, from the world that the buffers hold.
-- Assumes nothing.
use mathlib.Core.Path.{◌≡◌, refl, sym, ap, subst, ◌∙◌}
use Rattle.std.specs.Prelude.{Err, None, Option, Some}
use mathlib.Core.List.{List, [], ◌∷◌, ◌++◌, append-nil, foldl-append}
use Prim.Native.Nat.{ℕ, suc, ◌+◌, ◌≤◌, ◌<◌}
use native.Mathlib.Numerals.{add-one}
use native.Mathlib.Omega.{arith}
use lib.ListN.{length, drop}
use Rattle.refusals.specs.Refusals.{number_of, accepted}
use Rattle.refusals.specs.declared.Refusal.{Refusal}
use Rattle.refusals.specs.declared.Refusal.TheVariants.{Form}
use Rattle.refusals.specs.Refusals.{Verdict}
use Rattle.table.specs.declared.SiteTable.{SiteTable}
use Rattle.register.specs.declared.Command.{Command}
use Rattle.protocol.specs.World as protocol
use Rattle.protocol.specs.World.{World, start, judge, step, play}
use Rattle.system.specs.Dash.{dash}
use Rattle.print.specs.declared.Text.{Text}
use Rattle.print.specs.Print.{HasRoom, Printed}
use Rattle.print.proofs.Laws.{nothing, Left, left_all, left_more, left_none, decimal_short}
use Rattle.steps.specs.declared.Step.{Step}
use Rattle.steps.specs.Steps.{size_of, read_step, steps_of}
use Rattle.steps.specs.Meaning.{meaning}
use Rattle.steps.proofs.Walk.{more_at, bad_at, end_at}
use Rattle.entries.proofs.Logs.{log_length}
use Rattle.lines.specs.Lines.{step_line}
use Rattle.lines.proofs.Laws.{step-length}
use Rattle.runs.specs.Run.{report, step_lines, world_after}
use Rattle.layout.specs.Layout.{site_at}
use Rattle.world.specs.World.{Buffers, PastRows, world_of, HoldsWorld, Outcome}
use Rattle.world.specs.Parts.{lent}
use Rattle.world.proofs.Past.{past_same, past_more}
use Rattle.play.specs.Played.{line_room, lines_room, last_world, HoldsLast, PlayedAll}

-- ---- the line of a step

-- A line has room for two digits of a refusal.
pub line_short : (step refusal : ℕ) → step < 100000 → refusal < 100 → length (step_line step refusal) ≤ line_room
line_short step refusal a b = omega (arith, step-length step refusal, decimal_short 4 step a, decimal_short 1 refusal b)

-- No line for a step that is taken.
pub silent : (s : Text) (number : ℕ) {v : Verdict} → v ≡ accepted → HasRoom s 0 → Printed s s (report number v)
silent s number e h = subst (λ (v : Verdict). Printed s s (report number v)) (sym e) (nothing s h)

pub loud : (number : ℕ) (r : Refusal) {s u : Text} {code : ℕ} → code ≡ number_of r → Printed u s (step_line number code) → Printed u s (report number (Err r))
loud number r {s} {u} ec w = subst (λ (k : ℕ). Printed u s (step_line number k)) ec w

pub reported : (number : ℕ) {s u : Text} {v w : Verdict} → v ≡ w → Printed u s (report number w) → Printed u s (report number v)
reported number {s} {u} e w = subst (λ (x : Verdict). Printed u s (report number x)) (sym e) w

-- ---- what is left

module _ (t : SiteTable) (book : List Command) where
  -- Played so far: what steps led to the world that the buffers hold, and what lines and world the steps left give from there.
  pub record Playing (steps : List ℕ) (first : Text) (earlier : List ℕ) (b : Buffers) (text : Text) (at number : ℕ) : Type 0 where
    pub past : List protocol.Step
    pub world : HoldsWorld t book b (play (dash t book) (start (dash t book)) past)
    pub lines :
        Left text first (step_lines t book number (play (dash t book) (start (dash t book)) past) (steps_of (drop at steps)))
        (step_lines t book 1 (start (dash t book)) (steps_of steps))
    pub after : world_after t book (play (dash t book) (start (dash t book)) past) (steps_of (drop at steps)) ≡ world_after t book (start (dash t book)) (steps_of steps)
    pub kept : PastRows t.sites earlier b.sites

  pub playing_none : (steps : List ℕ) (first : Text) {b : Buffers} → HoldsWorld t book b (start (dash t book)) → HasRoom first 0 → Playing steps first b.sites b first 0 1
  playing_none steps first {b} h r =
      record {
        past = [];
        world = h;
        lines = left_all first (step_lines t book 1 (start (dash t book)) (steps_of steps)) r;
        after = refl;
        kept = λ i l. past_same (site_at b.sites i);
      }

  -- Buffers that hold the last world have as many log entries as it has.
  last_held : (steps : List ℕ) {b : Buffers} → HoldsWorld t book b (last_world t book (steps_of steps)) → HoldsLast t book (steps_of steps) b.sites b.log b.sent
  last_held steps {b} h =
      subst (λ (k : ℕ). HoldsWorld t book (lent b.sites b.log k b.sent) (last_world t book (steps_of steps)))
      (sym (log_length b.log b.entries) ∙ (λ i. length (h.says i).log)) h

  module _ (steps : List ℕ) (first : Text) {earlier : List ℕ} {b : Buffers} {text : Text} {at number : ℕ} (p : Playing steps first earlier b text at number) where
    now_world : world_of t book b ≡ play (dash t book) (start (dash t book)) p.past
    now_world = p.world.says

    -- One step more.
    pub playing_more : {u : Step} {next : ℕ} {v : Verdict} {b' : Buffers} {text' : Text} → read_step (drop at steps) ≡ Some u → next ≡ at + size_of u
        → Outcome t book (meaning u) b v b' → Printed text' text (report number v) → Playing steps first earlier b' text' next (number + 1)
    playing_more {u} {next} {v} {b'} {text'} e q o w =
        record {
          past = p.past ++ (meaning u ∷ []);
          world = subst (λ (x : World (dash t book)). HoldsWorld t book b' x) (ap (λ (x : World (dash t book)). step (dash t book) x (meaning u)) now_world ∙ sym grown) o.holds;
          lines =
              subst (λ (k : ℕ). Left text' first (step_lines t book k (play (dash t book) (start (dash t book)) (p.past ++ (meaning u ∷ []))) rest) whole) (sym (add-one number))
              (subst (λ (x : World (dash t book)). Left text' first (step_lines t book (suc number) x rest) whole) (sym grown)
              (left_more w
              (subst (λ (x : Verdict). Left text first (report number x ++ step_lines t book (suc number) (step (dash t book) past (meaning u)) rest) whole) (sym judged)
              (subst (λ (rs : List (Option Step)). Left text first (step_lines t book number past rs) whole) left p.lines))));
          after =
              ap (λ (x : World (dash t book)). world_after t book x rest) grown
              ∙ ap (world_after t book past) (sym left)
              ∙ p.after;
          kept = λ i l. past_more (p.kept i l) (o.past i l);
        }
      where
        past : World (dash t book)
        past = play (dash t book) (start (dash t book)) p.past

        rest : List (Option Step)
        rest = steps_of (drop next steps)

        whole : List ℕ
        whole = step_lines t book 1 (start (dash t book)) (steps_of steps)

        left : steps_of (drop at steps) ≡ Some u ∷ rest
        left =
            let same : size_of u ≡ size_of u = refl in
            more_at steps at e same ∙ ap (λ (k : ℕ). Some u ∷ steps_of (drop k steps)) (sym q)

        grown : play (dash t book) (start (dash t book)) (p.past ++ (meaning u ∷ [])) ≡ step (dash t book) past (meaning u)
        grown = foldl-append (step (dash t book)) (start (dash t book)) p.past (meaning u ∷ [])

        judged : v ≡ judge (dash t book) past (meaning u)
        judged = o.verdict ∙ ap (λ (x : World (dash t book)). judge (dash t book) x (meaning u)) now_world

    -- A step that cannot be read is the last.
    pub playing_last : {next : ℕ} {text' : Text} → at < length steps → read_step (drop at steps) ≡ None → next ≡ length steps
        → Printed text' text (report number (Err Form)) → Playing steps first earlier b text' next (number + 1)
    playing_last {next} {text'} g e q w =
        record {
          past = p.past;
          world = p.world;
          lines =
              subst (λ (rs : List (Option Step)). Left text' first (step_lines t book (number + 1) past rs) whole) (sym none)
              (left_more w
              (subst (λ (l : List ℕ). Left text first l whole) (sym (append-nil (report number (Err Form))))
              (subst (λ (rs : List (Option Step)). Left text first (step_lines t book number past rs) whole) left p.lines)));
          after = ap (world_after t book past) none ∙ ap (world_after t book past) (sym left) ∙ p.after;
          kept = p.kept;
        }
      where
        past : World (dash t book)
        past = play (dash t book) (start (dash t book)) p.past

        whole : List ℕ
        whole = step_lines t book 1 (start (dash t book)) (steps_of steps)

        left : steps_of (drop at steps) ≡ None ∷ []
        left = bad_at steps at g e

        none : steps_of (drop next steps) ≡ []
        none = end_at steps next (omega arith)

    -- No bytes are left.
    pub playing_end : length steps ≤ at → text.end ≤ first.end + lines_room → PlayedAll t book steps text first earlier b.sites b.log b.sent
    playing_end g r =
        record {
          lines = left_none (subst (λ (rs : List (Option Step)). Left text first (step_lines t book number past rs) whole) left p.lines);
          world = last_held steps (subst (λ (x : World (dash t book)). HoldsWorld t book b x) (ap (world_after t book past) (sym left) ∙ p.after) p.world);
          room = r;
          past = p.kept;
        }
      where
        past : World (dash t book)
        past = play (dash t book) (start (dash t book)) p.past

        whole : List ℕ
        whole = step_lines t book 1 (start (dash t book)) (steps_of steps)

        left : steps_of (drop at steps) ≡ []
        left = end_at steps at g
