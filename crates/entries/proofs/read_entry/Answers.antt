-- `read_entry` meets its contract, field by field.
-- Assumes nothing.
use Rattle.entries.proofs.Bytes.{same_entry}
use Rattle.entries.proofs.read_entry.Goals as goal

pub returns : goal.returns
returns c = same_entry c.site_of.ensures c.round_of.ensures c.nc_of.ensures c.c_of.ensures
