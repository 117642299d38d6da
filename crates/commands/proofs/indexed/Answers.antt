-- `commands::indexed`: the command at the noted place.
-- Rests on Places.
use mathlib.Core.Path.{sym, ◌∙◌}
use native.Mathlib.Omega.{arith}
use Rattle.commands.proofs.Walk.{few_commands, read_at, whole_is, not_whole}
use Rattle.commands.proofs.Places.{place_noted, place_read, place_inside}
use Rattle.commands.proofs.indexed.Goals as goal

pub offset_bounds-places-k : goal.offset_bounds-places-k
offset_bounds-places-k c = omega (arith, few_commands c.args.book.now)

pub bounds-places-k : goal.bounds-places-k
bounds-places-k c = let a = c.args in place_noted a.book.now a.places.now a.k c.requires.0 c.requires.1

pub slice_bounds-read_command-count : goal.slice_bounds-read_command-count
slice_bounds-read_command-count c = let a = c.args in place_inside a.book.now a.places.now a.k c.requires.0 c.requires.1

pub slice_bounds-read_command-start : goal.slice_bounds-read_command-start
slice_bounds-read_command-start c = let a = c.args in place_inside a.book.now a.places.now a.k c.requires.0 c.requires.1

pub returns-in_default : goal.returns-in_default
returns-in_default c =
    let a = c.args in
    absurd (not_whole (sym (read_at a.book.now _ c.read_command.ensures c.in_default.is) ∙ place_read a.book.now a.places.now a.k c.requires.0 c.requires.1))

pub returns : goal.returns
returns c =
    let a = c.args in
    whole_is (sym (read_at a.book.now _ c.read_command.ensures c.in-Some.is) ∙ place_read a.book.now a.places.now a.k c.requires.0 c.requires.1)
