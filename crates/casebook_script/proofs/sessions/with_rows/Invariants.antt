use Rattle.std.specs.FinMap.{empty}
use Rattle.casebook_script.specs.Sessions.{session_step}
use Rattle.casebook_script.specs.inner.RowReads.{row_view}
use Rattle.casebook_script.proofs.InTurn.{IsTurn}
use Rattle.casebook_script.proofs.sessions.with_rows.Given as goal

abbrev pub invariant-loop-row : goal.invariant-loop-row
invariant-loop-row l = IsTurn session_step row_view empty l.state.sessions l.rows l.row-index
