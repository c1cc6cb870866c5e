use Rattle.std.proofs.Common.{◌≡◌, map, length, None}
use Rattle.std.specs.Prelude.{string_bytes}
use Rattle.retro_text.specs.Request.{request_after, request_in, known_in}
use Rattle.retro_text.proofs.request.Request.of.Given as goal

abbrev pub invariant-loop-rest : goal.invariant-loop-rest
invariant-loop-rest l = request_after (known_in l.known) l.options.items None (map string_bytes l.rest)
    ≡ request_in (known_in l.known) (map string_bytes l.initial.rest)

abbrev pub decreases-loop-rest : goal.decreases-loop-rest
decreases-loop-rest l = length l.rest
