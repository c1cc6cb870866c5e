use Rattle.std.proofs.Common.{◌≡◌, take}
use Rattle.std.specs.Prelude.{flat_map}
use Rattle.casebook_screen.specs.Unified.{part_lines}
use Rattle.casebook_screen.proofs.unified.lines_of_parts.Given as goal

abbrev pub invariant-loop-part : goal.invariant-loop-part
invariant-loop-part l = l.lines.items ≡ flat_map (part_lines l.signed) (take l.part-index l.parts)
