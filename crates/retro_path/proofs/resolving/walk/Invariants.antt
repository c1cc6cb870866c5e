use Rattle.std.proofs.Common.{◌≡◌, map, drop}
use Rattle.retro_path.specs.Resolving.{walk}
use Rattle.retro_path.proofs.resolving.walk.Given as goal

abbrev pub invariant-loop-part : goal.invariant-loop-part
invariant-loop-part l = walk l.path (map (λ part. part.now) (drop l.part-index l.parts)) ≡ walk l.fn.start
    (map (λ part. part.now) l.parts)
