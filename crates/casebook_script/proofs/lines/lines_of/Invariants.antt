use Rattle.std.proofs.Common.{[]}
use Rattle.casebook_script.specs.Lines.{line_step}
use Rattle.casebook_script.specs.inner.RowReads.{row_view}
use Rattle.casebook_script.proofs.InTurn.{IsTurn}
use Rattle.casebook_script.proofs.lines.lines_of.Given as goal

abbrev pub invariant-loop-row : goal.invariant-loop-row
invariant-loop-row l = IsTurn (line_step l.sessions.sessions) row_view [] l.lines.items l.rows l.row-index
