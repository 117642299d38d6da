-- What a step finds in every run: room in the log, which has at most two entries a site and round, and in what was sent, since a site acknowledges at most once a command and round.
-- Rests on agreement's Capacity.
use mathlib.Core.Path.{◌≡◌, ap}
use mathlib.Core.Bool.{true}
use mathlib.Core.List.{List, [], ◌∷◌, ◌++◌, foldl-append}
use Prim.Native.Nat.{ℕ, ◌≤◌, ◌<◌}
use native.Mathlib.Omega.{arith}
use lib.ListN.{length}
use Rattle.table.specs.declared.SiteTable.{SiteTable}
use Rattle.table.specs.Table.{is_good}
use Rattle.table.proofs.Laws.{good_limits, good_quorums, good_few}
use Rattle.register.specs.declared.Command.{Command}
use Rattle.commands.specs.Book.{commands_of}
use Rattle.commands.proofs.Walk.{few_commands}
use Rattle.protocol.specs.World.{World, Step, start, step, play}
use Rattle.agreement.specs.Acked.{Sizes}
use Rattle.agreement.proofs.Capacity.{acks_bound, log_bound}
use Rattle.system.specs.Dash.{dash}
use Rattle.entries.proofs.Logs.{log_length}
use Rattle.sent.specs.Sent.{max_acknowledgments}
use Rattle.world.specs.World.{Buffers, world_of, HoldsWorld}
use Rattle.play.specs.Played.{log_room}

sizes : (t : SiteTable) (book : List Command) → is_good t ≡ true → Sizes (dash t book) t.faults
sizes t book good = record { few = good_few t good; quorums = good_quorums t good }

module _ (t : SiteTable) (s : List ℕ) (good : is_good t ≡ true) (past : List Step) {b : Buffers}
    (h : HoldsWorld t (commands_of s) b (play (dash t (commands_of s)) (start (dash t (commands_of s))) past)) where
  -- Two entries a site and round.
  pub entries_few : b.entries < log_room
  entries_few =
      let e = ap (λ (w : World (dash t (commands_of s))). length w.log) h.says in
      omega (arith, log_length b.log b.entries, log_bound (dash t (commands_of s)) t.faults (sizes t (commands_of s) good) past, (good_limits t good).sites)

  -- After any further step too, a site has sent at most one acknowledgment a command in a round.
  pub acks_few : (u : Step) (j r : ℕ) → length ((step (dash t (commands_of s)) (world_of t (commands_of s) b) u).acks j r) ≤ max_acknowledgments
  acks_few u j r =
      let e = ap (λ (w : World (dash t (commands_of s))). length ((step (dash t (commands_of s)) w u).acks j r)) h.says in
      let g = ap (λ (w : World (dash t (commands_of s))). length (w.acks j r)) (foldl-append (step (dash t (commands_of s))) (start (dash t (commands_of s))) past (u ∷ [])) in
      let k = acks_bound (dash t (commands_of s)) t.faults (sizes t (commands_of s) good) (past ++ (u ∷ [])) j r in
      omega (arith, few_commands s)
