use Rattle.std.proofs.Common.{◌≡◌, map, take}
use Rattle.casebook_patch.specs.inner.Leading.{part_of}
use Rattle.casebook_patch.proofs.part.parts_of.Given as goal

abbrev pub invariant-loop-hunk : goal.invariant-loop-hunk
invariant-loop-hunk l = l.parts.items ≡ map (part_of l.merged.items) (take l.hunk-index l.hunk-items)
