use Rattle.std.proofs.Common.{◌≡◌, ◌++◌, take}
use Rattle.std.specs.Prelude.{flat_map}
use Rattle.casebook_summary.specs.Effects.{effect_value}
use Rattle.casebook_screen.specs.Told.{read_told}
use Rattle.casebook_screen.proofs.reads.push_each.Given as goal

abbrev pub invariant-loop-effect : goal.invariant-loop-effect
invariant-loop-effect l =
    l.screen ≡ l.fn.screen ++ flat_map (λ effect. read_told (effect_value effect)) (take l.effect-index l.effects)
