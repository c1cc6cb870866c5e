use Rattle.std.proofs.Common.{◌≡◌, map, drop}
use Rattle.std.specs.List.{list_any}
use Rattle.retro_path.specs.Resolving.{is_long}
use Rattle.retro_path.proofs.resolving.has_long.Given as goal

abbrev pub invariant-loop-part : goal.invariant-loop-part
invariant-loop-part l = list_any is_long (map (λ part. part.now) l.parts) ≡ list_any is_long
    (map (λ part. part.now) (drop l.part-index l.parts))
