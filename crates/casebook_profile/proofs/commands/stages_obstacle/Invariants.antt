use Rattle.std.proofs.Common.{◌≡◌, drop, false, map}
use Rattle.retro_syntax.specs.View.{simple_view}
use Rattle.casebook_profile.specs.Commands as C
use Rattle.casebook_profile.specs.inner.Scopes.{scope_view}
use Rattle.casebook_profile.proofs.commands.stages_obstacle.Given as goal

abbrev pub invariant-loop-simple : goal.invariant-loop-simple
invariant-loop-simple l =
    C.stages_obstacle (scope_view l.scope) l.is_piped (map simple_view (drop l.simple-index l.stages))
    ≡ C.stages_obstacle (scope_view l.scope) false (map simple_view l.stages)
