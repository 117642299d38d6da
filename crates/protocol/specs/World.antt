-- The world of all sites: the ten steps 01 to 0A of document 01, their refusals, and play over a list of steps.
-- Assumes nothing.
use Rattle.std.specs.Prelude.{◌&&◌, ℕ, suc, pred, eqb, leb, ltb, None, Option, Some}
use mathlib.Core.List.{List, [], ◌∷◌, ◌++◌, foldl}
use Rattle.refusals.specs.Refusals.{settled}
use Rattle.refusals.specs.declared.Refusal.TheVariants.{Range, Role, Disabled, ThirdEntry}
use Rattle.refusals.specs.Refusals.{Verdict}
use Rattle.theory.specs.Sets.{Set, ∅, only, pick}
use Rattle.theory.specs.Lists.{nth}
use Rattle.protocol.specs.System.{System, Demands, granted, ◌else◌⨾◌, verdict, correct, known}
use Rattle.protocol.specs.Recovery.{Entry, Log, entries}
use Rattle.protocol.specs.Site.{Site, fresh, receive, hear, acknowledge, propose, proposal, deliver_fast, read_entry, finish, undelivered, acknowledges, decision, tally_or, is_some, next, next_in_range, for_turn, for_fast_delivery, for_log_read, for_round_end}

-- The steps of a run. i is the site that receives or acts, j the one that a message or entry comes from, r a round.
pub data Step : Type 0 where
  -- 01 i m: command m reaches i
  command : (i m : ℕ) → Step
  -- 02 i j r a: the a-th acknowledgment that correct j sent in round r reaches i
  acknowledgment : (i j r a : ℕ) → Step
  -- 03 i j r: the check message that correct j sent in round r reaches i
  check : (i j r : ℕ) → Step
  -- 04 i j r set: an acknowledgment of faulty j
  false_acknowledgment : (i j r : ℕ) → Set → Step
  -- 05 i j r set: a check message of faulty j
  false_check : (i j r : ℕ) → Set → Step
  -- 06 j r NC C: a log entry of faulty j
  false_entry : (j r : ℕ) → Set → Set → Step
  -- 07 i
  turn : (i : ℕ) → Step
  -- 08 i m
  fast_delivery : (i m : ℕ) → Step
  -- 09 i
  log_read : (i : ℕ) → Step
  -- 0A i
  round_end : (i : ℕ) → Step

-- A message, or the empty set where there is none.
abbrev pub or_empty : Option Set → Set
or_empty None = ∅
or_empty (Some x) = x

module _ (S : System) where
  open S use {commands, capacity, sites, faulty, rounds}

  pub record World : Type 0 where
    pub site : ℕ → Site S
    pub log : Log
    -- the acknowledgments that a correct site sent in a round, oldest first
    pub acks : ℕ → ℕ → List Set
    -- the check message that a correct site sent in a round
    pub checks : ℕ → ℕ → Option Set

  -- The start of a run.
  abbrev pub start : World
  start = record { site = λ i. fresh S; log = []; acks = λ j r. []; checks = λ j r. None }

  -- The world with another state of site i.
  abbrev pub put : ℕ → Site S → World → World
  put i s w = record { site = λ j. pick (eqb j i) s (w.site j); log = w.log; acks = w.acks; checks = w.checks }

  abbrev pub append : Entry → World → World
  append e w = record { site = w.site; log = w.log ++ (e ∷ []); acks = w.acks; checks = w.checks }

  -- 004, line 15.
  abbrev pub send_acknowledgment : ℕ → ℕ → Set → World → World
  send_acknowledgment i k x w =
      record {
        site = w.site;
        log = w.log;
        acks = λ j r. pick (eqb j i && eqb r k) (w.acks j r ++ (x ∷ [])) (w.acks j r);
        checks = w.checks;
      }

  -- 004, line 17.
  abbrev pub send_check : ℕ → ℕ → Set → World → World
  send_check i k x w =
      record { site = w.site; log = w.log; acks = w.acks; checks = λ j r. pick (eqb j i && eqb r k) (Some x) (w.checks j r) }

  -- The entry that a proposing site appends (004, line 18).
  abbrev pub entry_of : ℕ → Site S → Entry
  entry_of i s = record { site = i; round = s.round; nc = (proposal S s).nc; c = (proposal S s).c }

  -- A turn that acknowledges: pending is raised and sent.
  abbrev pub acknowledging_turn : ℕ → Site S → World → World
  acknowledging_turn i s w = send_acknowledgment i s.round (undelivered S s) (put i (acknowledge S s) w)

  -- A turn that proposes: the check message is sent, the proposal appended, and the site waits.
  abbrev pub proposing_turn : ℕ → Site S → World → World
  proposing_turn i s w = append (entry_of i s) (send_check i s.round (undelivered S s) (put i (propose S s) w))

  -- The a-th acknowledgment of a site and round, a from 1.
  abbrev pub sent_acknowledgment : World → ℕ → ℕ → ℕ → Option Set
  sent_acknowledgment w j r a = nth (w.acks j r) (pred a)

  -- What a message from j to i in round r asks for first, and what it asks for then.
  abbrev pub for_message : (i j r : ℕ) → Demands → Demands
  for_message i j r more =
      ltb i sites else Range ⨾ ltb j sites else Range ⨾ leb 1 r else Range ⨾ leb r (suc rounds) else Range ⨾ more

  -- What a message of a faulty site with a set asks for.
  abbrev pub for_false : (i j r : ℕ) → Set → Demands
  for_false i j r x = for_message i j r (known S x else Range ⨾ correct S i else Role ⨾ faulty j else Role ⨾ granted)

  -- What each step asks for, in the order of document 01: 4, then 5, then 6, 7 and 8; a full record only where nothing else refuses.
  abbrev pub demands : World → Step → Demands
  demands w (command i m) = ltb i sites else Range ⨾ ltb m commands else Range ⨾ correct S i else Role ⨾ granted
  demands w (acknowledgment i j r a) =
      for_message i j r
      (leb 1 a else Range
      ⨾ leb a capacity else Range
      ⨾ correct S i else Role
      ⨾ correct S j else Role
      ⨾ is_some (sent_acknowledgment w j r a) else Disabled
      ⨾ granted)
  demands w (check i j r) =
      for_message i j r (correct S i else Role ⨾ correct S j else Role ⨾ is_some (w.checks j r) else Disabled ⨾ granted)
  demands w (false_acknowledgment i j r x) = for_false i j r x
  demands w (false_check i j r x) = for_false i j r x
  demands w (false_entry j r nc c) =
      ltb j sites else Range
      ⨾ leb 1 r else Range
      ⨾ leb r rounds else Range
      ⨾ known S nc else Range
      ⨾ known S c else Range
      ⨾ faulty j else Role
      ⨾ ltb (entries j r w.log) 2 else ThirdEntry
      ⨾ granted
  demands w (turn i) = ltb i sites else Range ⨾ correct S i else Role ⨾ for_turn S i (w.site i) w.log
  demands w (fast_delivery i m) =
      ltb i sites else Range ⨾ ltb m commands else Range ⨾ correct S i else Role ⨾ for_fast_delivery S m (w.site i)
  demands w (log_read i) =
      ltb i sites else Range
      ⨾ next_in_range S (next S (w.site i) w.log) else Range
      ⨾ correct S i else Role
      ⨾ for_log_read S (w.site i) w.log
  demands w (round_end i) = ltb i sites else Range ⨾ correct S i else Role ⨾ for_round_end S (w.site i) w.log

  -- What each step makes of the world where it is not refused.
  abbrev pub change : World → Step → World
  change w (command i m) = put i (receive S (only m) (w.site i)) w
  change w (acknowledgment i j r a) = put i (hear S j r (or_empty (sent_acknowledgment w j r a)) (w.site i)) w
  change w (check i j r) = put i (receive S (or_empty (w.checks j r)) (w.site i)) w
  change w (false_acknowledgment i j r x) = put i (hear S j r x (w.site i)) w
  change w (false_check i j r x) = put i (receive S x (w.site i)) w
  change w (false_entry j r nc c) = append (record { site = j; round = r; nc = nc; c = c }) w
  change w (turn i) = pick (acknowledges S (w.site i)) (acknowledging_turn i (w.site i) w) (proposing_turn i (w.site i) w)
  change w (fast_delivery i m) = put i (deliver_fast S m (w.site i)) w
  change w (log_read i) = put i (read_entry S (w.site i)) w
  change w (round_end i) = put i (finish S (tally_or (decision S (w.site i) w.log)) (w.site i)) w

  -- The verdict on a step.
  abbrev pub judge : World → Step → Verdict
  judge w t = verdict (demands w t)

  -- A refused step leaves everything as it was.
  abbrev pub step : World → Step → World
  step w t = settled (judge w t) (change w t) w

  -- Each step gets what the step before it left.
  abbrev pub play : World → List Step → World
  play = foldl step
