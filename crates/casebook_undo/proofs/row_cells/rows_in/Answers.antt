use Rattle.std.proofs.Common.{◌∙◌, ◌+◌, ap}
use Rattle.std.proofs.lemmas.Result.{err_from_is_err_and}
use Rattle.serde_json.specs.View.{view}
use Rattle.casebook_undo.proofs.RowByRow.{loop_done, loop_ends, loop_goes_on}
use Rattle.casebook_undo.proofs.row_cells.rows_in.Goals as goal

pub returns-in_err-row : goal.returns-in_err-row
returns-in_err-row c =
    let p = err_from_is_err_and c.from_residual.result c.from_residual.ensures.1 in
    rw (p.1, p.2)
    (loop_ends view c.in_err-row.field-0.0 c.loop-cell.rows.items c.args.cells.now c.loop-cell.cell-index _
    c.cell-item.result _ c.loop-cell-test.true c.cell-item.is (ap (λ n. n + 1) (c.len.ensures ∙ c.loop-cell.rows.ok.0))
    c.in_err-row.ensures c.loop-cell.invariant)

pub loop-cell-preserved : goal.loop-cell-preserved
loop-cell-preserved c =
    loop_goes_on view c.loop-cell.rows.items c.push.new.self.items c.args.cells.now c.loop-cell.cell-index _
    c.cell-item.result c.in_ok-row.row _ c.loop-cell-test.true c.cell-item.is c.in_ok-push.ensures.items
    (ap (λ n. n + 1) (c.len.ensures ∙ c.loop-cell.rows.ok.0)) c.in_ok-row.ensures c.loop-cell.invariant

pub returns : goal.returns
returns c =
    loop_done view c.loop-cell.rows.items c.args.cells.now c.loop-cell.cell-index c.loop-cell-test.false
    c.loop-cell.invariant
