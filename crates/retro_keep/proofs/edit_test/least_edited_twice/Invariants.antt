use Rattle.std.proofs.Common.{◌≡◌, drop, take}
use Rattle.retro_keep.specs.Edit.{least, sooner, twice_edited}
use Rattle.retro_keep.proofs.EditTests.{IsBound, twice_from}
use Rattle.retro_keep.proofs.edit_test.least_edited_twice.Given as goal

abbrev pub invariant-loop-edit : goal.invariant-loop-edit
invariant-loop-edit l = record {
  so_far : sooner l.found (least (twice_from l.edits (drop l.edit-index l.edits)))
      ≡ least (twice_edited l.edits);
  bounded : IsBound l.bound (take l.edit-index l.edits);
}
