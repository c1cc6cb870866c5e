use Rattle.std.proofs.Common.{◌≡◌, ◌++◌, map, drop}
use Rattle.serde_json.specs.View.{view}
use Rattle.casebook_summary.specs.Effects.{effect_value}
use Rattle.casebook_json.specs.Causes.{effect_data}
use Rattle.casebook_json.proofs.effect_value.effect_values.Given as goal

abbrev pub invariant-loop-effect : goal.invariant-loop-effect
invariant-loop-effect l =
    map view l.values.items
    ++ map (λ effect. effect_data (effect_value effect)) (drop l.effect-index l.effects)
    ≡ map (λ effect. effect_data (effect_value effect)) l.effects
