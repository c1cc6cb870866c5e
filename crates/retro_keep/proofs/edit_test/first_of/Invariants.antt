use Rattle.std.proofs.Common.{◌≡◌, drop}
use Rattle.retro_keep.specs.Edit.{edit_of}
use Rattle.retro_keep.proofs.edit_test.first_of.Given as goal

abbrev pub invariant-loop-edit : goal.invariant-loop-edit
invariant-loop-edit l = edit_of (drop l.edit-index l.edits) l.number ≡ edit_of l.edits l.number
