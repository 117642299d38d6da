-- `judging::judge_book`: by the walk that notes places.
-- Assumes nothing.
use mathlib.Core.Path.{sym, ◌∙◌}
use Rattle.judging.proofs.Laws.{book-counted, book_refused}
use Rattle.judging.proofs.judge_book.Goals as goal

pub returns-in_default : goal.returns-in_default
returns-in_default c = book_refused _ (sym c.note.ensures.0 ∙ c.in_default.is)

pub returns : goal.returns
returns c = book-counted _ (sym c.note.ensures.0 ∙ c.in-Some.is)
