-- The assignments so far are made, and the others are still to make.
use Rattle.std.proofs.Common.{map, drop}
use Rattle.retro_local.specs.Runs.{Continues, Extends}
use Rattle.retro_syntax.specs.View.{assignment_view}
use Rattle.retro_shell.specs.Simple.{assign}
use Rattle.retro_shell.proofs.assignment.assign.Given as goal

abbrev pub invariant-loop-assignment : goal.invariant-loop-assignment
invariant-loop-assignment g l = record {
  extends : Extends l.context.place.sid l.initial.local l.local;
  continues : Continues l.initial.local l.local
      (assign l.context (map assignment_view l.assignments))
      (assign l.context (map assignment_view (drop l.assignment-index l.assignments)));
}
