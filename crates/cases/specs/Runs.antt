-- The common sequence on concrete runs, by computation: the statement holds of three runs, and not of one that was doctored.
-- Rests on the definitions alone.
use Rattle.std.specs.Prelude.{◌≡◌, refl, Bool, true, false, ◌&&◌, ◌||◌, not, List, [], ◌∷◌, ◌++◌, map, ◌⊎◌, ℕ, zero, suc, ◌<◌, eqb, ltb, ℤ, pos, nat_abs, Some}
use Rattle.std.proofs.Common.{sym, ◌∙◌, ap, subst, inl, inr, ⊎_elim, arith, eqb-true, ltb-true}
use Rattle.wire.specs.Wire.{read_le, value}
use Rattle.theory.specs.Sets.{∅, pick, all, any, count, members}
use Rattle.theory.specs.Counting.{left, right, either, never, last_or_below, all_at}
use Rattle.theory.specs.Lists.{contents, distinct, before, sift}
use Rattle.theory.specs.ListLaws.{before_first, before_second}
use Rattle.theory.specs.Machine.{Delivery, run, answered, answer_in}
use Rattle.sets.specs.Sets.{has}
use Rattle.table.specs.declared.SiteTable.{SiteTable}
use Rattle.register.specs.declared.Bike.{Bike}
use Rattle.register.specs.declared.Command.{Command}
use Rattle.register.specs.declared.Command.TheVariants.{Add}
use Rattle.register.specs.Register.{bike, change}
use Rattle.commands.specs.Book.{commands_of, read_command, read_kind}
use Rattle.protocol.specs.System.{System, correct}
use Rattle.protocol.specs.Recovery.{entries, decide_from}
use Rattle.protocol.specs.Site.{Site}
use Rattle.protocol.specs.World.{World, Step, command, acknowledgment, false_acknowledgment, false_entry, turn, fast_delivery, log_read, round_end, start, play, put}
use Rattle.protocol.specs.CommonSequence.{CommonSequence, Explained, Explains, delivers, taken}
use Rattle.system.specs.Dash.{dash}
use Rattle.cases.specs.Cases.{fit_and_read}

-- ---- how a statement about every number is computed

abbrev Each : ℕ → (ℕ → Type 0) → Type 0
Each zero P = Unit {0}
Each (suc n) P = Each n P × P n

each : (n : ℕ) (P : ℕ → Type 0) → Each n P → (i : ℕ) → i < n → P i
each zero P h i l = absurd (omega arith)
each (suc n) P h i l = go (last_or_below i n l) (each n P h.0 i)
  where
    go : (i ≡ n) ⊎ (i < n) → (i < n → P i) → P i
    go (inl e) r = rw e h.1
    go (inr k) r = r k

abbrev all_below : ℕ → List ℕ → Bool
all_below n [] = true
all_below n (x ∷ l) = ltb x n && all_below n l

below : (n : ℕ) (l : List ℕ) → all_below n l ≡ true → (m : ℕ) → contents l m ≡ true → m < n
below n [] h m k = absurd (never false k refl)
below n (x ∷ l) h m k =
    ⊎_elim (λ e. rw (eqb-true m x e) (ltb-true x n (left (ltb x n) (all_below n l) h))) (below n l (right (ltb x n) (all_below n l) h) m) (either (eqb m x) (contents l m) k)

module _ (S : System) where
  open S use {machine, commands}

  abbrev in_order : List ℕ → List ℕ → ℕ → ℕ → Bool
  in_order sequence list a b = not (machine.conflict a b && (before a b sequence && contents list b)) || before a b list

  order_by_test : (sequence list : List ℕ) → all_below commands sequence ≡ true → all commands (λ a. all commands (in_order sequence list a)) ≡ true
      → (a b : ℕ) → machine.conflict a b ≡ true → before a b sequence ≡ true → contents list b ≡ true → before a b list ≡ true
  order_by_test sequence list small test a b c h k =
      let la = below commands sequence small a (before_first a b sequence h) in
      let lb = below commands sequence small b (before_second a b sequence h) in
      go (machine.conflict a b) (before a b sequence) (contents list b) (before a b list) c h k
      (all_at commands (in_order sequence list a) (all_at commands (λ a. all commands (in_order sequence list a)) test a la) b lb)
    where
      go : (p q r s : Bool) → p ≡ true → q ≡ true → r ≡ true → (not (p && (q && r)) || s) ≡ true → s ≡ true
      go true true true s hp hq hr h = h
      go true true false s hp hq hr h = absurd (never false hr refl)
      go true false r s hp hq hr h = absurd (never false hq refl)
      go false q r s hp hq hr h = absurd (never false hp refl)

  -- What explains a site, from what it holds written out.
  explains_by : (sequence list read : List ℕ) (site : Site S) (held : List (Delivery machine.Answer))
      → read ≡ list → site.ledger.deliveries ≡ held → held ≡ answered machine machine.initial list → distinct list ≡ true
      → all_below commands sequence ≡ true → all commands (λ a. all commands (in_order sequence list a)) ≡ true
      → map (λ d. Some d.answer) held ≡ map (λ m. answer_in machine machine.initial sequence m) list
      → site.ledger.state ≡ run machine machine.initial (sift (contents list) sequence)
      → Explains S sequence read site
  explains_by sequence list read site held er eh ans once small test eq state =
      subst (λ (d : List ℕ). Explains S sequence d site) (sym er)
      (record {
        held = eh ∙ ans;
        once = once;
        order = order_by_test sequence list small test;
        answers = ap (map (λ (d : Delivery machine.Answer). Some d.answer)) eh ∙ eq;
        state = state;
      })

-- ---- one site, a FIT and a READ that conflict: document 01's whole case

abbrev alone : System
alone = dash (record { sites = 1; faults = 0; mask = 0 }) (commands_of fit_and_read)

abbrev whole_case : List Step
whole_case = command 0 0 ∷ command 0 1 ∷ turn 0 ∷ log_read 0 ∷ round_end 0 ∷ []

abbrev answer : ℕ → ℤ → Delivery ℤ
answer m a = record { command = m; answer = a }

pub whole_case_lem : CommonSequence alone whole_case
unfolding has all any count members entries decide_from read_le value read_command read_kind commands_of
whole_case_lem =
    record {
      sequence = 0 ∷ 1 ∷ [];
      exactly = λ m. refl;
      once = refl;
      site = each 1 (λ i. correct alone i ≡ true → Explains alone (0 ∷ 1 ∷ []) (delivers alone i (play alone (start alone) whole_case).log (taken alone (start alone) whole_case)) ((play alone (start alone) whole_case).site i))
          (tt, λ c. explains_by alone (0 ∷ 1 ∷ []) (0 ∷ 1 ∷ []) _ _ (answer 0 (pos 0) ∷ answer 1 (pos 14000) ∷ []) refl refl refl refl refl refl refl refl);
    }

-- The same run with another answer in the site's record.
abbrev doctored : World alone
doctored =
    put alone 0
    (record {
      received = site.received;
      delivered = site.delivered;
      pending = site.pending;
      fast = site.fast;
      round = site.round;
      phase = site.phase;
      position = site.position;
      heard = site.heard;
      ledger = record { state = site.ledger.state; deliveries = answer 0 (pos 0) ∷ answer 1 (pos 13999) ∷ [] };
    })
    (play alone (start alone) whole_case)
  where
    site : Site alone
    site = (play alone (start alone) whole_case).site 0

abbrev second_answer : List (Delivery ℤ) → ℕ
second_answer [] = 0
second_answer (d ∷ []) = 0
second_answer (d ∷ e ∷ l) = nat_abs e.answer

-- No sequence explains it.
pub doctored_unexplained : Explained alone whole_case doctored → ⊥
unfolding has all any count members entries decide_from read_le value read_command read_kind commands_of
doctored_unexplained e =
    let z : ◌≡◌ {A = ℕ} 13999 14000 = ap second_answer (e.site 0 (omega arith) refl).held in omega arith

-- ---- six sites, the last one faulty

abbrev six : SiteTable
six = record { sites = 6; faults = 1; mask = 32 }

-- Commands reach sites 0 to 4, and each takes a turn.
abbrev everywhere : ℕ → List ℕ → List Step
everywhere zero ms = []
everywhere (suc k) ms = everywhere k ms ++ (map (command k) ms ++ (turn k ∷ []))

-- The first acknowledgments of round 1 of the first k sites reach site i.
abbrev acknowledged_to : ℕ → ℕ → List Step
acknowledged_to i zero = []
acknowledged_to i (suc k) = acknowledged_to i k ++ (acknowledgment i k 1 1 ∷ [])

abbrev times : ℕ → Step → List Step
times zero t = []
times (suc k) t = t ∷ times k t

-- Two dealers add kilometres at once: ADD 10 and ADD 20 on bike 5. The faulty site acknowledges what it did not get.
-- Sites 0 and 1 deliver both fast, in opposite orders.
abbrev adding : System
adding = dash six (commands_of (1 ∷ 5 ∷ 10 ∷ 0 ∷ 1 ∷ 5 ∷ 20 ∷ 0 ∷ []))

abbrev adding_steps : List Step
adding_steps =
    everywhere 5 (0 ∷ 1 ∷ [])
    ++ (acknowledged_to 0 4 ++ (false_acknowledgment 0 5 1 (contents (0 ∷ 1 ∷ [])) ∷ fast_delivery 0 0 ∷ fast_delivery 0 1 ∷ []))
    ++ (acknowledged_to 1 4 ++ (false_acknowledgment 1 5 1 (contents (0 ∷ 1 ∷ [])) ∷ fast_delivery 1 1 ∷ fast_delivery 1 0 ∷ []))

-- A bike after two commands that name it, or as it was at first.
abbrev in_turn : Command → Command → Bool → Bike
in_turn c d b = pick b (change d (pick b (change c (bike 0 0)) (bike 0 0))) (pick b (change c (bike 0 0)) (bike 0 0))

pub adding-run : CommonSequence adding adding_steps
unfolding has all any count members entries decide_from read_le value read_command read_kind commands_of
adding-run =
    record {
      sequence = 0 ∷ 1 ∷ [];
      exactly = λ m. spread (eqb m 0) (eqb m 1);
      once = refl;
      site = each 6 (λ i. correct adding i ≡ true → Explains adding (0 ∷ 1 ∷ []) (delivers adding i (play adding (start adding) adding_steps).log (taken adding (start adding) adding_steps)) ((play adding (start adding) adding_steps).site i))
          ((((((tt, λ c. first), λ c. second), λ c. nothing 2 refl refl refl), λ c. nothing 3 refl refl refl), λ c. nothing 4 refl refl refl), λ c. absurd (never false c refl));
    }
  where
    world : World adding
    world = play adding (start adding) adding_steps

    spread : (a b : Bool) → (a || (b || false)) ≡ ((a || (b || false)) || (b || (a || false)) || false || false || false || false)
    spread true true = refl
    spread true false = refl
    spread false true = refl
    spread false false = refl

    first : Explains adding (0 ∷ 1 ∷ []) (delivers adding 0 world.log (taken adding (start adding) adding_steps)) (world.site 0)
    first = explains_by adding (0 ∷ 1 ∷ []) (0 ∷ 1 ∷ []) _ _ (answer 0 (pos 0) ∷ answer 1 (pos 0) ∷ []) refl refl refl refl refl refl refl refl

    second : Explains adding (0 ∷ 1 ∷ []) (delivers adding 1 world.log (taken adding (start adding) adding_steps)) (world.site 1)
    second = explains_by adding (0 ∷ 1 ∷ []) (1 ∷ 0 ∷ []) _ _ (answer 1 (pos 0) ∷ answer 0 (pos 0) ∷ []) refl refl refl refl refl refl refl (λ i k. same_bike (eqb k 5) i)
      where
        same_bike : (b : Bool) → in_turn (Add 5 20) (Add 5 10) b ≡ in_turn (Add 5 10) (Add 5 20) b
        same_bike true = refl
        same_bike false = refl

    nothing : (i : ℕ) → delivers adding i world.log (taken adding (start adding) adding_steps) ≡ [] → (world.site i).ledger.deliveries ≡ [] → (world.site i).ledger.state ≡ adding.machine.initial
        → Explains adding (0 ∷ 1 ∷ []) (delivers adding i world.log (taken adding (start adding) adding_steps)) (world.site i)
    nothing i er eh es = explains_by adding (0 ∷ 1 ∷ []) [] _ _ [] er eh refl refl refl refl refl es

-- A FIT against a READ on bike 5. Sites 0 to 4 acknowledge the FIT, site 0 delivers it fast; then the READ comes and all five propose.
-- The faulty site logs twice and is excluded. Sites 0 and 1 read the log and end the round.
abbrev fitting : System
fitting = dash six (commands_of fit_and_read)

abbrev fitting_steps : List Step
fitting_steps =
    everywhere 5 (0 ∷ [])
    ++ (acknowledged_to 0 5 ++ (fast_delivery 0 0 ∷ []))
    ++ everywhere 5 (1 ∷ [])
    ++ (false_entry 5 1 ∅ (contents (1 ∷ [])) ∷ false_entry 5 1 ∅ (contents (0 ∷ [])) ∷ [])
    ++ (times 7 (log_read 0) ++ times 7 (log_read 1))
    ++ (round_end 0 ∷ round_end 1 ∷ [])

pub fitting-run : CommonSequence fitting fitting_steps
unfolding has all any count members entries decide_from read_le value read_command read_kind commands_of
fitting-run =
    record {
      sequence = 0 ∷ 1 ∷ [];
      exactly = λ m. spread (eqb m 0) (eqb m 1);
      once = refl;
      site = each 6 (λ i. correct fitting i ≡ true → Explains fitting (0 ∷ 1 ∷ []) (delivers fitting i world.log (taken fitting (start fitting) fitting_steps)) (world.site i))
          ((((((tt, λ c. both 0 refl refl refl), λ c. both 1 refl refl refl), λ c. nothing 2 refl refl refl), λ c. nothing 3 refl refl refl), λ c. nothing 4 refl refl refl), λ c. absurd (never false c refl));
    }
  where
    world : World fitting
    world = play fitting (start fitting) fitting_steps

    spread : (a b : Bool) → (a || (b || false)) ≡ ((a || (b || false)) || (a || (b || false)) || false || false || false || false)
    spread true true = refl
    spread true false = refl
    spread false true = refl
    spread false false = refl

    both : (i : ℕ) → delivers fitting i world.log (taken fitting (start fitting) fitting_steps) ≡ 0 ∷ 1 ∷ []
        → (world.site i).ledger.deliveries ≡ answer 0 (pos 0) ∷ answer 1 (pos 14000) ∷ []
        → (world.site i).ledger.state ≡ run fitting.machine fitting.machine.initial (0 ∷ 1 ∷ [])
        → Explains fitting (0 ∷ 1 ∷ []) (delivers fitting i world.log (taken fitting (start fitting) fitting_steps)) (world.site i)
    both i er eh es = explains_by fitting (0 ∷ 1 ∷ []) (0 ∷ 1 ∷ []) _ _ (answer 0 (pos 0) ∷ answer 1 (pos 14000) ∷ []) er eh refl refl refl refl refl es

    nothing : (i : ℕ) → delivers fitting i world.log (taken fitting (start fitting) fitting_steps) ≡ [] → (world.site i).ledger.deliveries ≡ []
        → (world.site i).ledger.state ≡ fitting.machine.initial
        → Explains fitting (0 ∷ 1 ∷ []) (delivers fitting i world.log (taken fitting (start fitting) fitting_steps)) (world.site i)
    nothing i er eh es = explains_by fitting (0 ∷ 1 ∷ []) [] _ _ [] er eh refl refl refl refl refl es
