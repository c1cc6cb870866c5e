use Rattle.std.proofs.Common.{◌≡◌, ◌++◌, drop, map}
use Rattle.std.specs.FinMap as finmap
use Rattle.retro_redo.specs.Repair.{line_again}
use Rattle.retro_redo.proofs.edited.settled_again.Given as goal

abbrev pub invariant-loop-line : goal.invariant-loop-line
invariant-loop-line l =
    l.settled.items ++ map (line_again (finmap.get l.edits)) (drop l.line-index l.lines)
    ≡ map (line_again (finmap.get l.edits)) l.lines
