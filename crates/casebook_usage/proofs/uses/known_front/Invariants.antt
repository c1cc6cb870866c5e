use Rattle.std.proofs.Common.{◌≡◌, ◌++◌, length, map, string_bytes}
use Rattle.casebook_usage.specs.Obstacles.{known_front}
use Rattle.casebook_usage.specs.Shape.{shape_view}
use Rattle.casebook_usage.proofs.uses.known_front.Given as goal

abbrev pub invariant-loop-rest : goal.invariant-loop-rest
invariant-loop-rest l =
    map string_bytes l.fields.items ++ known_front (map shape_view l.rest)
    ≡ known_front (map shape_view l.initial.rest)

abbrev pub decreases-loop-rest : goal.decreases-loop-rest
decreases-loop-rest l = length l.rest
