use Rattle.std.proofs.Common.{◌≡◌, ◌++◌, flat_map, take}
use Rattle.casebook_patch.specs.Written.{written_line}
use Rattle.casebook_patch.proofs.written_part.push_part.Given as goal

abbrev pub invariant-loop-line : goal.invariant-loop-line
invariant-loop-line l = l.text.items ≡ l.initial.text.items ++ flat_map written_line (take l.line-index l.line-items)
