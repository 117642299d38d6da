-- `turning::send`: a law for each turn.
-- Assumes nothing.
use borrow.Author.Rules.{rules}
use mathlib.Core.Path.{sym, subst}
use Prim.Native.Nat.{◌<◌}
use Rattle.entries.specs.declared.Entry.{Entry}
use Rattle.turning.proofs.Laws.{sent_acknowledged, sent-proposed}
use Rattle.turning.proofs.send.Goals as goal

pub write_entry-requires : goal.write_entry-requires
write_entry-requires c =
    let s = c in
    let e = c.entry_of.ensures in
    (s.requires.1, subst (λ (x : Entry). x.site < 256) (sym e) s.requires.2, subst (λ (x : Entry). x.round < 256) (sym e) (search rules))

pub returns-in-Acknowledged : goal.returns-in-Acknowledged
returns-in-Acknowledged c = let a = c.args in sent_acknowledged a.own a.round a.message.now a.entry.now _ c.in-Acknowledged.is c.write.ensures

pub returns-in-Proposed : goal.returns-in-Proposed
returns-in-Proposed c = let a = c.args in sent-proposed a.own a.round a.message.now a.entry.now _ _ c.in-Proposed.is c.entry_of.ensures c.write-in-Proposed.ensures c.write_entry.ensures
