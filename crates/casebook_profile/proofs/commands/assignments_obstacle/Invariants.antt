use Rattle.std.proofs.Common.{◌≡◌, drop, map}
use Rattle.retro_syntax.specs.View.{assignment_view}
use Rattle.casebook_profile.specs.Commands as C
use Rattle.casebook_profile.specs.inner.Scopes.{scope_view}
use Rattle.casebook_profile.proofs.commands.assignments_obstacle.Given as goal

abbrev pub invariant-loop-assignment : goal.invariant-loop-assignment
invariant-loop-assignment l =
    C.assignments_obstacle (scope_view l.inner) (map assignment_view (drop l.assignment-index l.all))
    ≡ C.assignments_obstacle (scope_view l.scope) (map assignment_view l.all)
