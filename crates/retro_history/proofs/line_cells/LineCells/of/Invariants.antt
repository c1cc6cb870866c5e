use Rattle.std.proofs.Common.{◌≡◌, drop}
use Rattle.std.specs.FinMap as map
use Rattle.retro_history.specs.inner.LineUse.{cells_noted}
use Rattle.retro_history.proofs.line_cells.LineCells.of.Given as goal

abbrev pub invariant-loop-note : goal.invariant-loop-note
invariant-loop-note l =
    cells_noted l.number (drop l.note-index l.notes) l.cells ≡ cells_noted l.number l.notes map.empty
