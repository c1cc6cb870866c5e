use Rattle.std.proofs.Common.{◌≡◌, ℕ, take}
use Rattle.std.specs.FinMap as map_of
use Rattle.retro_keep.specs.Edit.{edit_of}
use Rattle.retro_keep.proofs.edits.Edits.of.Given as goal

abbrev pub invariant-loop-edit : goal.invariant-loop-edit
invariant-loop-edit l = (n : ℕ) → map_of.get l.first n ≡ edit_of (take l.edit-index l.edits) n
