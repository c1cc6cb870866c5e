use Rattle.std.proofs.Common.{◌≡◌, ◌++◌, drop, map}
use Rattle.retro_keep.specs.Recording.{output_in}
use Rattle.retro_redo.proofs.repair.Repair.outputs.Given as goal

abbrev pub invariant-loop-line : goal.invariant-loop-line
invariant-loop-line l = l.outputs.items ++ map output_in (drop l.line-index l.lines) ≡ map output_in l.lines
