-- The paths so far, and those of the effects that are left.
use Rattle.std.proofs.Common.{◌≡◌, ◌++◌, drop, map}
use Rattle.casebook_needs.specs.Line.{effect_path}
use Rattle.casebook_needs.proofs.below.changed_paths.Given as goal

abbrev pub invariant-loop-effect : goal.invariant-loop-effect
invariant-loop-effect l =
    l.paths.items ++ map effect_path (drop l.effect-index l.effect-items)
    ≡ map effect_path l.line.effects.now
