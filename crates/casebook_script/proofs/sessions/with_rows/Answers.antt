use Rattle.std.proofs.Common.{[], ap, get_or, map, refl}
use Rattle.std.proofs.lemmas.Result.{err_from_is_err_and}
use Rattle.std.specs.FinMap.{empty}
use Rattle.retro_tree.specs.State.{empty_state}
use Rattle.casebook_script.specs.Sessions.{session_step}
use Rattle.casebook_script.specs.Steps.{in_turn}
use Rattle.casebook_script.specs.inner.RowReads.{row_view}
use Rattle.casebook_script.proofs.InTurn.{table_fails, turn_done, turn_goes_on}
use Rattle.casebook_script.proofs.sessions.with_rows.Goals as goal

pub loop-row-init : goal.loop-row-init
unfolding empty_state
loop-row-init c = ap (λ s. in_turn session_step s.sessions (map row_view c.args.rows.now)) c.in_ok-state.ensures

pub returns-in_err-state-2 : goal.returns-in_err-state-2
returns-in_err-state-2 c =
    let l = c.loop-row in
    let rows = c.args.rows.now in
    let row = get_or rows l.row-index (record { place = 0; text = record { ref_ptr = (0, 0); now = [] } }) in
    let p = err_from_is_err_and c.from_residual-in_err-state-2.result c.from_residual-in_err-state-2.ensures.1 in
    rw (p.1, p.2)
    (table_fails session_step row_view empty l.state.sessions rows l.row-index _ row c.in_err-state-2.field-0.0
    c.loop-row-test.true refl c.in_err-state-2.ensures l.invariant)

pub loop-row-preserved : goal.loop-row-preserved
loop-row-preserved c =
    let l = c.loop-row in
    let rows = c.args.rows.now in
    let row = get_or rows l.row-index (record { place = 0; text = record { ref_ptr = (0, 0); now = [] } }) in
    turn_goes_on session_step row_view empty l.state.sessions c.in_ok-state-2.state.sessions rows l.row-index _ row
    c.loop-row-test.true refl c.in_ok-state-2.ensures l.invariant

pub returns : goal.returns
returns c =
    let l = c.loop-row in
    turn_done session_step row_view empty l.state.sessions c.args.rows.now l.row-index
    c.loop-row-test.false l.invariant
