-- `first_of` meets its contract: what a search among the first k entries tells.
-- Assumes nothing.
use Rattle.std.proofs.Common.{◌≡◌, ◌∙◌, rules, tests}
use Rattle.std.proofs.lemmas.Iterator.{first_from_Range}
use Rattle.entries.specs.Entries.{entry_of}
use Rattle.entries.proofs.Prefix.{first_searched}
use Rattle.entries.proofs.first_of.Goals as goal

pub returns : goal.returns
returns c =
    let a = c.args in
    c.unwrap_or.ensures
    ∙ first_searched a.log.now a.round a.k c.find.result
    (first_from_Range _ _ _ _ (λ i. (entry_of a.log.now i).round ≡ a.round) (λ i. (entry_of a.log.now i).round ≡ a.round → ⊥) c.find.ensures.ran
    (λ x q h. search (rules, tests)) (λ x q h. search (rules, tests)))
