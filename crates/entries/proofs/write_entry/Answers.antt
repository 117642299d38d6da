-- `write_entry` meets its contract: four writes side by side are one.
-- Assumes nothing.
use Rattle.entries.proofs.Bytes.{wrote}
use Rattle.entries.proofs.write_entry.Goals as goal

pub returns : goal.returns
returns c = let a = c.args in wrote a.log.now a.k a.entry c.requires.0 c.put.ensures c.put-2.ensures c.write.ensures c.write-2.ensures
