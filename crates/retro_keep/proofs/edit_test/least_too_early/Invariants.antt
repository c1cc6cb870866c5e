use Rattle.std.proofs.Common.{◌≡◌, drop}
use Rattle.retro_keep.specs.Edit.{least, sooner, too_early}
use Rattle.retro_keep.proofs.edit_test.least_too_early.Given as goal

abbrev pub invariant-loop-edit : goal.invariant-loop-edit
invariant-loop-edit l =
    sooner l.found (least (too_early l.from (drop l.edit-index l.edits))) ≡ least (too_early l.from l.edits)
