use Rattle.std.specs.FinMap.{empty}
use Rattle.casebook_script.specs.Sessions.{with_var}
use Rattle.casebook_script.specs.inner.Views.{vars_view}
use Rattle.casebook_script.proofs.InTurn.{IsTurn}
use Rattle.casebook_script.proofs.sessions.vars_of.Given as goal

abbrev pub invariant-loop-cell : goal.invariant-loop-cell
invariant-loop-cell l = IsTurn with_var (λ cell. cell) empty (vars_view l.vars) l.cells l.cell-index
