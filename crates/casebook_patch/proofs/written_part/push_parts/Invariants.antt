use Rattle.std.proofs.Common.{◌≡◌, ◌++◌, flat_map, take}
use Rattle.casebook_patch.specs.Written.{written_part}
use Rattle.casebook_patch.proofs.written_part.push_parts.Given as goal

abbrev pub invariant-loop-part : goal.invariant-loop-part
invariant-loop-part l = l.text.items ≡ l.initial.text.items ++ flat_map written_part (take l.part-index l.parts)
