-- How a step is told by its kind, and what each kind's function asks for.
-- Assumes nothing.
use mathlib.Core.Path.{◌≡◌, refl, sym, subst}
use mathlib.Core.Bool.{true, false}
use mathlib.Core.List.{List, [], ◌∷◌}
use Prim.Native.Nat.{ℕ, ◌≤◌, ◌<◌}
use native.Mathlib.Omega.{arith}
use lib.ListN.{length, get_or}
use denote.Enum.Declared as Declared
use types.Run.{OneOf, miss}
use Rattle.refusals.specs.Refusals.{Verdict}
use Rattle.theory.specs.Counting.{never}
use Rattle.sets.specs.Sets.{capacity}
use Rattle.table.specs.declared.SiteTable.{SiteTable}
use Rattle.register.specs.declared.Command.{Command}
use Rattle.commands.specs.Book.{commands_of}
use Rattle.commands.proofs.Walk.{few_commands}
use Rattle.conflicts.specs.Conflicts.{conflict_rows}
use Rattle.rounds.specs.Rounds.{Kept}
use Rattle.rounds.specs.declared.Rounds.{Rounds}
use Rattle.steps.specs.declared.Step.{Step}
use Rattle.steps.specs.declared.Step.TheVariants as kinds
use Rattle.steps.specs.Meaning.{meaning}
use Rattle.steps.specs.contracts.Step as declared
use Rattle.world.specs.World.{Buffers, GoodWorld, Outcome}
use Rattle.world.specs.Parts.{Arrived}
use Rattle.moves.specs.Moves.{Ready, LogRead}
use Rattle.closings.specs.Closings.{GoodSites, GoodLog, KeptLog}
use Rattle.stepping.specs.Kinds.{arrives}

-- ---- the kinds, by their places in the declaration

pub is_arrival : (u : Step) → OneOf (0 ∷ 1 ∷ 2 ∷ 3 ∷ 4 ∷ []) (Declared.tag_of declared.the_type u) → arrives u ≡ true
is_arrival (kinds.Command i m) h = refl
is_arrival (kinds.Acknowledgment i j r a) h = refl
is_arrival (kinds.Check i j r) h = refl
is_arrival (kinds.FalseAcknowledgment i j r x) h = refl
is_arrival (kinds.FalseCheck i j r x) h = refl
is_arrival (kinds.FalseEntry j r nc c) h = absurd (miss (0 ∷ 1 ∷ 2 ∷ 3 ∷ 4 ∷ []) 5 tt h)
is_arrival (kinds.Turn i) h = absurd (miss (0 ∷ 1 ∷ 2 ∷ 3 ∷ 4 ∷ []) 6 tt h)
is_arrival (kinds.FastDelivery i m) h = absurd (miss (0 ∷ 1 ∷ 2 ∷ 3 ∷ 4 ∷ []) 7 tt h)
is_arrival (kinds.LogRead i) h = absurd (miss (0 ∷ 1 ∷ 2 ∷ 3 ∷ 4 ∷ []) 8 tt h)
is_arrival (kinds.RoundEnd i) h = absurd (miss (0 ∷ 1 ∷ 2 ∷ 3 ∷ 4 ∷ []) 9 tt h)

pub no_arrival : (u : Step) → OneOf (5 ∷ 6 ∷ 7 ∷ 8 ∷ 9 ∷ []) (Declared.tag_of declared.the_type u) → arrives u ≡ true → ⊥
no_arrival (kinds.Command i m) h e = miss (5 ∷ 6 ∷ 7 ∷ 8 ∷ 9 ∷ []) 0 tt h
no_arrival (kinds.Acknowledgment i j r a) h e = miss (5 ∷ 6 ∷ 7 ∷ 8 ∷ 9 ∷ []) 1 tt h
no_arrival (kinds.Check i j r) h e = miss (5 ∷ 6 ∷ 7 ∷ 8 ∷ 9 ∷ []) 2 tt h
no_arrival (kinds.FalseAcknowledgment i j r x) h e = miss (5 ∷ 6 ∷ 7 ∷ 8 ∷ 9 ∷ []) 3 tt h
no_arrival (kinds.FalseCheck i j r x) h e = miss (5 ∷ 6 ∷ 7 ∷ 8 ∷ 9 ∷ []) 4 tt h
no_arrival (kinds.FalseEntry j r nc c) h e = never false e refl
no_arrival (kinds.Turn i) h e = never false e refl
no_arrival (kinds.FastDelivery i m) h e = never false e refl
no_arrival (kinds.LogRead i) h e = never false e refl
no_arrival (kinds.RoundEnd i) h e = never false e refl

-- ---- the arms

-- The step is of this kind.
pub arrived : (t : SiteTable) (commands : ℕ) (sent sites after : List ℕ) {u v : Step} {r : Verdict} → u ≡ v → Arrived t commands (meaning v) sent sites r after
    → arrives u ≡ true → Arrived t commands (meaning u) sent sites r after
arrived t commands sent sites after {r = r} e h k = subst (λ (x : Step). Arrived t commands (meaning x) sent sites r after) (sym e) h

pub arm : (t : SiteTable) (book : List Command) (b after : Buffers) {u v : Step} {r : Verdict} → u ≡ v → Outcome t book (meaning v) b r after → Outcome t book (meaning u) b r after
arm t book b after {r = r} e h = subst (λ (x : Step). Outcome t book (meaning x) b r after) (sym e) h

pub ready_as : (t : SiteTable) (book : List ℕ) (b : Buffers) {rows part : List ℕ} {u v : Step} → u ≡ v → part ≡ rows → Ready t book rows b (meaning u) → Ready t book part b (meaning v)
ready_as t book b {rows} {part} {u} {v} e er h = subst (λ (l : List ℕ). Ready t book l b (meaning v)) (sym er) (subst (λ (x : Step). Ready t book rows b (meaning x)) e h)

-- What is kept goes by the same rows.
pub kept_by : (t : SiteTable) (log : List ℕ) {rows same : List ℕ} {kept : Rounds} → rows ≡ same → Kept t rows log kept → Kept t same log kept
kept_by t log {kept = kept} e h = subst (λ (l : List ℕ). Kept t l log kept) e h

-- A log read goes by as many entries as there are.
pub read_to : (t : SiteTable) (i : ℕ) (sites after : List ℕ) {n k : ℕ} {v : Verdict} → n ≡ k → LogRead t i n sites v after → LogRead t i k sites v after
read_to t i sites after {v = v} e h = subst (λ (m : ℕ). LogRead t i m sites v after) e h

-- ---- what the functions ask for

module _ (t : SiteTable) (book : List ℕ) (commands : ℕ) (b : Buffers) (e : length (commands_of book) ≡ commands) (g : GoodWorld t (length (commands_of book)) b) where
  pub good_sites : GoodSites t commands b.sites
  good_sites = subst (λ (n : ℕ). GoodSites t n b.sites) e (record { size = g.size; site = g.site })

  pub kept_log : {rows : List ℕ} {kept : Rounds} → rows ≡ conflict_rows book → ((k : ℕ) → get_or b.log k 0 < 256) → b.entries ≡ kept.entries → Kept t rows b.log kept
      → KeptLog t book b.sites b.log kept
  kept_log er small en k =
      record {
        good = subst (λ (n : ℕ). GoodLog t (length (commands_of book)) b.sites b.log n) en (record { room = g.room; logged = g.logged; position = g.position });
        bytes = small;
        rounds = kept_by t b.log er k;
      }

  pub few : commands ≤ capacity
  few = let l = few_commands book in omega arith
