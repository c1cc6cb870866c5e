use Rattle.std.proofs.Common.{◌+◌, ◌-◌}
use Rattle.std.specs.FinMap as finmap
use Rattle.retro_redo.proofs.EditedNumbers.{Marking}
use Rattle.retro_redo.proofs.stops.add_edited.Given as goal

abbrev pub invariant-loop-number : goal.invariant-loop-number
invariant-loop-number l =
    Marking (finmap.contains_key l.edits) l.from l.last l.low l.fn.numbers.keys l.numbers.keys

abbrev pub decreases-loop-number : goal.decreases-loop-number
decreases-loop-number l = l.last + 1 - l.low
