use Rattle.serde_json.specs.View.{view}
use Rattle.casebook_undo.proofs.RowByRow.{IsReadTo}
use Rattle.casebook_undo.proofs.row_cells.rows_in.Given as goal

abbrev pub invariant-loop-cell : goal.invariant-loop-cell
invariant-loop-cell l = IsReadTo view l.rows.items l.cells l.cell-index
