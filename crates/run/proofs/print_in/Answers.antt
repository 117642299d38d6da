-- `run::print_in`: the first parts are lent at just their sizes, and what is past them stays.
-- Assumes nothing.
use mathlib.Core.Path.{sym}
use native.Mathlib.Omega.{arith}
use lib.Seq.{length-take-le}
use Rattle.table.proofs.Laws.{good_limits}
use Rattle.commands.specs.Book.{commands_of}
use Rattle.steps.specs.Steps.{steps_of}
use Rattle.sent.specs.Sent.{sent_size}
use Rattle.run.specs.Ran.{log_bytes}
use Rattle.run.proofs.Laws.{sites_room, worked}
use Rattle.run.proofs.print_in.Goals as goal

pub print_on-requires : goal.print_on-requires
print_on-requires c =
    let a = c in (
      a.requires.0,
      record {
        sites = length-take-le _ _ (sites_room a.args.rules.table a.requires.0.good a.requires.1);
        log = length-take-le log_bytes a.args.log.now a.requires.1.log;
        sent = length-take-le sent_size a.args.sent.now a.requires.1.sent;
      },
      a.requires.2,
      a.requires.3,
    )

pub returns : goal.returns
returns c =
    let a = c in
    let p = c.print_on in (
      p.ensures.0,
      worked a.args.rules.table a.requires.0.good a.requires.1 (commands_of a.args.book.now.bytes.now) (steps_of a.args.steps.now) p.auto.sites p.auto.log p.auto.sent p.ensures.1 p.ensures.2,
    )

pub overflow_mul-size : goal.overflow_mul-size
overflow_mul-size c = let a = c in let n = good_limits a.args.rules.table a.requires.0.good in record { fits = omega arith }

pub slice_bounds-print_on-end : goal.slice_bounds-print_on-end
slice_bounds-print_on-end c = let a = c in sites_room a.args.rules.table a.requires.0.good a.requires.1

pub slice_bounds-print_on-end-2 : goal.slice_bounds-print_on-end-2
slice_bounds-print_on-end-2 c = let a = c in sym (length-take-le _ _ (sites_room a.args.rules.table a.requires.0.good a.requires.1))
