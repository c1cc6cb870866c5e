use Rattle.std.proofs.Common.{◌≡◌, take}
use Rattle.casebook_patch.specs.Written.{written_changes}
use Rattle.casebook_patch.proofs.patch.patch_of.Given as goal

abbrev pub invariant-loop-change : goal.invariant-loop-change
invariant-loop-change l = l.patch.items ≡ written_changes (take l.change-index l.changes)
