use Rattle.std.proofs.Common.{◌≡◌}
use Rattle.retro_tree.specs.declared.cell.Cell.{Cell}
use Rattle.retro_history.specs.inner.CellHistory.{history_in, history_noted}
use Rattle.retro_history.proofs.LineCells.{used_by}
use Rattle.retro_history.proofs.cell_histories.CellHistories.add_notes.Given as goal

abbrev pub invariant-loop-cell : goal.invariant-loop-cell
invariant-loop-cell l =
    (c : Cell) → used_by c l.cell-iterator (history_in c l.first l.self)
    ≡ history_noted c l.number l.notes (history_in c l.first l.fn.self)
