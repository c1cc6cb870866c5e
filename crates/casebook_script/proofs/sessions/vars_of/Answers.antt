use Rattle.std.proofs.Common.{◌∙◌, ap, sym}
use Rattle.std.proofs.lemmas.Result.{err_from_is_err_and}
use Rattle.std.specs.FinMap.{empty}
use Rattle.casebook_script.specs.Sessions.{with_var}
use Rattle.casebook_script.specs.inner.Views.{vars_view}
use Rattle.casebook_script.proofs.InTurn.{row_fails, turn_done, turn_goes_on}
use Rattle.casebook_script.proofs.sessions.vars_of.Goals as goal

pub returns-in_err-vars : goal.returns-in_err-vars
returns-in_err-vars c =
    let l = c.loop-cell in
    let e = c.in_err-vars.field-0.0 in
    let p = err_from_is_err_and c.from_residual.result c.from_residual.ensures.1 in
    rw (p.1, p.2)
    (row_fails with_var (λ cell. cell) empty (vars_view l.vars) c.args.cells.now l.cell-index _ c.cell-item.result e
    c.loop-cell-test.true c.cell-item.is (rw c.as_str.ensures at c.in_err-vars.ensures) l.invariant)

pub loop-cell-preserved : goal.loop-cell-preserved
loop-cell-preserved c =
    let l = c.loop-cell in
    turn_goes_on with_var (λ cell. cell) empty (vars_view l.vars) (vars_view c.in_ok-vars.vars) c.args.cells.now
    l.cell-index _ c.cell-item.result c.loop-cell-test.true c.cell-item.is
    (ap (with_var (vars_view l.vars)) (sym c.as_str.ensures) ∙ c.in_ok-vars.ensures) l.invariant

pub returns : goal.returns
returns c =
    let l = c.loop-cell in
    turn_done with_var (λ cell. cell) empty (vars_view l.vars) c.args.cells.now l.cell-index
    c.loop-cell-test.false l.invariant
