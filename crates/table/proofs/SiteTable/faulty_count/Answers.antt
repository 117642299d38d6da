-- `SiteTable::faulty_count` meets its contract: the bits of the mask are as many as the faulty sites.
-- Assumes nothing.
use Rattle.table.proofs.Laws.{ones_faulty}
use Rattle.table.proofs.SiteTable.faulty_count.Goals as goal

pub returns : goal.returns
returns c = ones_faulty c.args.self c.requires
