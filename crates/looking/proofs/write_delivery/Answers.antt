-- `looking::write_delivery`: command and answer are written side by side.
-- Assumes nothing.
use Rattle.looking.proofs.Laws.{delivery_written}
use Rattle.looking.proofs.write_delivery.Goals as goal

pub returns : goal.returns
returns c = let s = c in delivery_written _ _ _ s.requires.0 s.requires.1 (λ i. (c.type_inv.site i).fits) c.get-command.ensures c.get-answer.ensures c.put.ensures c.put-2.ensures
