use Rattle.std.proofs.Common.{◌≡◌}
use Rattle.std.proofs.Math.ListN.{drop}
use Rattle.casebook_folder.specs.inner.Memory.{contents_of}
use Rattle.casebook_folder.proofs.memory.found_in.Given as goal

abbrev pub invariant-loop-entry : goal.invariant-loop-entry
invariant-loop-entry l =
    contents_of (drop l.entry-index l.entries) l.path ≡ contents_of l.entries l.path
