use Rattle.std.proofs.Common.{◌≡◌, length}
use Rattle.retro_text.specs.Request.{group, known_in}
use Rattle.retro_text.proofs.request.push_group.Given as goal

abbrev pub invariant-loop-rest : goal.invariant-loop-rest
invariant-loop-rest l =
    group (known_in l.known) l.options.items l.rest
    ≡ group (known_in l.known) l.initial.options.items l.initial.rest

abbrev pub decreases-loop-rest : goal.decreases-loop-rest
decreases-loop-rest l = length l.rest
