use Rattle.std.proofs.Common.{◌≡◌, length, map}
use Rattle.retro_syntax.specs.View.{item_view}
use Rattle.casebook_profile.specs.Commands as C
use Rattle.casebook_profile.specs.inner.Scopes.{scope_view}
use Rattle.casebook_profile.proofs.commands.are_clear_targets.Given as goal

abbrev pub invariant-loop-rest : goal.invariant-loop-rest
invariant-loop-rest l =
    C.are_clear (scope_view l.scope) (C.targets (map item_view l.rest))
    ≡ C.are_clear (scope_view l.scope) (C.targets (map item_view l.items))

abbrev pub decreases-loop-rest : goal.decreases-loop-rest
decreases-loop-rest l = length l.rest
