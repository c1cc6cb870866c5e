-- The parts so far gave `last`, and the others decide.
use Rattle.std.proofs.Common.{◌≡◌, [], map, drop}
use Rattle.retro_utils.specs.Rm.{last_part}
use Rattle.retro_utils.proofs.utilities.rm.last_part.Given as goal

abbrev pub invariant-loop-part : goal.invariant-loop-part
invariant-loop-part l =
    last_part l.last (map (λ part. part.now) (drop l.part-index l.parts))
    ≡ last_part [] (map (λ part. part.now) l.parts)
