use Rattle.std.proofs.Math.ListN.{drop}
use Rattle.casebook_snapshot.specs.inner.Memories.{AreChildrenBut, contents_of}
use Rattle.casebook_snapshot.specs.declared.item.Item.{Item}
use Rattle.casebook_snapshot.proofs.memory.names_in.Given as goal

abbrev pub invariant-loop-entry : goal.invariant-loop-entry
invariant-loop-entry l =
    (root : Item) → AreChildrenBut (contents_of root l.entries) l.path (drop l.entry-index l.entries) l.children.items
