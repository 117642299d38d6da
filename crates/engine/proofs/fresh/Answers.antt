-- `engine::fresh`: a law for each answer.
-- Assumes nothing.
use mathlib.Core.Path.{refl, sym}
use Rattle.layout.specs.Layout.{site_size}
use Rattle.judging.proofs.Laws.{first_length}
use Rattle.engine.proofs.Laws.{fresh_refused, fresh-taken}
use Rattle.engine.proofs.fresh.Goals as goal

pub returns-then-site-lt-SIZE : goal.returns-then-site-lt-SIZE
returns-then-site-lt-SIZE c = let a = c.args in λ t book. fresh_refused a.site.now t book c.if-site-lt-SIZE.true refl

pub fresh-requires : goal.fresh-requires
fresh-requires c = let a = c.args in sym (first_length site_size a.site.now c.if-site-lt-SIZE.false)

pub returns : goal.returns
returns c = let a = c.args in λ t book. fresh-taken a.site.now t book c.if-site-lt-SIZE.false (c.fresh.ensures t book)
