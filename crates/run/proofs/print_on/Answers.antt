-- `run::print_on`: the first line, the lines of the refused steps and those of the sites are the print; the buffers hold the last world.
-- Assumes nothing.
use mathlib.Core.Path.{sym, ◌∙◌}
use native.Mathlib.Omega.{arith}
use Rattle.table.proofs.Laws.{good_limits}
use Rattle.commands.specs.Book.{commands_of}
use Rattle.run.proofs.Laws.{first_short, held_printable, all_parts, past_left}
use Rattle.run.proofs.print_on.Goals as goal

pub put_run_line-requires : goal.put_run_line-requires
put_run_line-requires c =
    let a = c in
    omega (arith, first_short a.args.rules.table a.args.book.now.bytes.now a.requires.0.good c.faulty_count-faulty.ensures (sym a.requires.3 ∙ a.args.book.now.counted), a.requires.0.room)

pub play_steps-requires : goal.play_steps-requires
play_steps-requires c =
    let a = c in
    let w = c.put_run_line.ensures in
    record {
      room = omega (arith, first_short a.args.rules.table a.args.book.now.bytes.now a.requires.0.good c.faulty_count-faulty.ensures (sym a.requires.3 ∙ a.args.book.now.counted), a.requires.0.room, w.wrote.end, w.size);
      good = a.requires.0.good;
      short = a.requires.0.short;
      log = omega (arith, a.requires.1.log);
      conflicts = a.requires.2;
      counted = a.requires.3;
      world = c.start.ensures.holds (commands_of a.args.book.now.bytes.now) a.args.log.now (omega (arith, a.requires.1.log));
    }

pub put_site_lines-requires : goal.put_site_lines-requires
put_site_lines-requires c =
    let a = c in
    let w = c.put_run_line.ensures in
    let p = c.play_steps.ensures in
    let n = good_limits a.args.rules.table a.requires.0.good in (
      held_printable a.args.rules.table (commands_of a.args.book.now.bytes.now) p.world,
      omega (arith, first_short a.args.rules.table a.args.book.now.bytes.now a.requires.0.good c.faulty_count-faulty.ensures (sym a.requires.3 ∙ a.args.book.now.counted), a.requires.0.room, w.wrote.end, w.size, p.room, p.lines.size),
    )

pub returns : goal.returns
returns c =
    let a = c in (
      all_parts a.args.rules.table (commands_of a.args.book.now.bytes.now) a.args.steps.now c.faulty_count-faulty.ensures (sym a.requires.3 ∙ a.args.book.now.counted)
          c.put_run_line.ensures c.play_steps.ensures c.put_site_lines.ensures.0,
      c.play_steps.ensures.world,
      past_left a.args.rules.table (commands_of a.args.book.now.bytes.now) c.start.ensures c.play_steps.ensures,
    )
