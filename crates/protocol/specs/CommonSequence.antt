-- Demand 3 as a statement: what document 01's section "The common sequence" says of a list of steps and the world after it.
-- Assumes nothing.
use Rattle.std.specs.Prelude.{◌≡◌, true, ◌&&◌, ℕ, suc, ◌<◌, eqb, Some}
use mathlib.Core.List.{List, [], ◌∷◌, ◌++◌, foldl, map}
use Rattle.refusals.specs.Refusals.{is_taken}
use Rattle.theory.specs.Sets.{Set, ◌∖◌, pick, any, members}
use Rattle.theory.specs.Lists.{contents, distinct, before, sift}
use Rattle.theory.specs.Machine.{run, answered, answer_in}
use Rattle.protocol.specs.System.{System, correct}
use Rattle.protocol.specs.Recovery.{Log, Tally, decide, nc_set, c_set}
use Rattle.protocol.specs.Site.{Site, tally_or}
use Rattle.protocol.specs.World.{World, Step, command, acknowledgment, check, false_acknowledgment, false_check, false_entry, turn, fast_delivery, log_read, round_end, start, step, judge, play}

-- What has been read off the list for one site: the round that its next round end ends, and what it has delivered.
pub record Reading : Type 0 where
  pub round : ℕ
  pub list : List ℕ

module _ (S : System) where
  open S use {machine, commands, sites}

  -- The steps of a list that are not refused, from a world on.
  abbrev pub taken : World S → List Step → List Step
  taken w [] = []
  taken w (t ∷ ts) = pick (is_taken (judge S w t)) (t ∷ taken (step S w t) ts) (taken (step S w t) ts)

  -- Site i delivers what is in a set, in number order, without what it has delivered before.
  abbrev pub deliver_new : Set → List ℕ → List ℕ
  deliver_new x list = list ++ members commands (x ∖ contents list)

  -- The r-th round end of a site delivers the NCSet of round r, then its CSet.
  abbrev pub end_round : Tally → Reading → Reading
  end_round t d = record { round = suc d.round; list = deliver_new (c_set S t) (deliver_new (nc_set S t) d.list) }

  -- What one step that is not refused delivers at site i, the rounds being those that the log decides.
  abbrev pub read_step : ℕ → Log → Reading → Step → Reading
  read_step i log d (command i' m) = d
  read_step i log d (acknowledgment i' j r a) = d
  read_step i log d (check i' j r) = d
  read_step i log d (false_acknowledgment i' j r x) = d
  read_step i log d (false_check i' j r x) = d
  read_step i log d (false_entry j r nc c) = d
  read_step i log d (turn i') = d
  read_step i log d (fast_delivery i' m) = pick (eqb i i') (record { round = d.round; list = d.list ++ (m ∷ []) }) d
  read_step i log d (log_read i') = d
  read_step i log d (round_end i') = pick (eqb i i') (end_round (tally_or (decide S d.round log)) d) d

  -- What site i delivers, read off the steps that are not refused and the log.
  abbrev pub delivers : ℕ → Log → List Step → List ℕ
  delivers i log ts = (foldl (read_step i log) (record { round = 1; list = [] }) ts).list

  -- A sequence explains what a correct site delivers, answers and holds.
  pub record Explains (sequence delivers : List ℕ) (site : Site S) : Type 0 where
    -- the deliveries that the site holds are those read off, in that order, each with the answer given
    pub held : site.ledger.deliveries ≡ answered machine machine.initial delivers
    -- none twice
    pub once : distinct delivers ≡ true
    -- each only after all that conflict with it and stand before it in the sequence
    pub order :
        (a b : ℕ) → machine.conflict a b ≡ true → before a b sequence ≡ true → contents delivers b ≡ true → before a b delivers ≡ true
    -- its answers are those of the whole sequence from the initial state
    pub answers :
        map (λ d. Some d.answer) site.ledger.deliveries
        ≡ map (λ m. answer_in machine machine.initial sequence m) delivers
    -- its state is that of its own commands in the order of the sequence
    pub state : site.ledger.state ≡ run machine machine.initial (sift (contents delivers) sequence)

  -- A list of steps, the world after it, and a sequence that explains every correct site.
  pub record Explained (steps : List Step) (world : World S) : Type 0 where
    pub sequence : List ℕ
    -- exactly the commands delivered at any correct site, each once
    pub exactly :
        (m : ℕ)
        → contents sequence m
        ≡ any sites (λ i. correct S i && contents (delivers i world.log (taken (start S) steps)) m)
    pub once : distinct sequence ≡ true
    pub site :
        (i : ℕ)
        → i < sites
        → correct S i ≡ true
        → Explains sequence (delivers i world.log (taken (start S) steps)) (world.site i)

  -- After a list of steps, whatever it is, the correct sites have a common sequence.
  abbrev pub CommonSequence : List Step → Type 0
  CommonSequence steps = Explained steps (play S (start S) steps)
