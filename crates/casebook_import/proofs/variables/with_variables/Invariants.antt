-- The variables that are left lead to what all lead to.
use Rattle.std.proofs.Common.{◌≡◌, drop}
use Rattle.std.specs.FinMap as finmap
use Rattle.casebook_import.specs.Variables.{with_variables}
use Rattle.casebook_import.proofs.variables.with_variables.Given as goal

abbrev pub invariant-loop-variable : goal.invariant-loop-variable
invariant-loop-variable l =
    with_variables (drop l.variable-index l.all) l.vars ≡ with_variables l.all finmap.empty
