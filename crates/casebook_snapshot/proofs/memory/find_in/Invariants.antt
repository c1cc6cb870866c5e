use Rattle.std.proofs.Common.{◌≡◌}
use Rattle.std.proofs.Math.ListN.{drop}
use Rattle.casebook_snapshot.specs.inner.Memories.{item_in}
use Rattle.casebook_snapshot.proofs.memory.find_in.Given as goal

abbrev pub invariant-loop-entry : goal.invariant-loop-entry
invariant-loop-entry l =
    item_in (drop l.entry-index l.entries) l.parent l.name ≡ item_in l.entries l.parent l.name
