use Rattle.std.proofs.Common.{◌≡◌, ◌++◌, take}
use Rattle.std.specs.Prelude.{flat_map}
use Rattle.casebook_summary.specs.Effects.{effect_value}
use Rattle.casebook_page.specs.Told.{effect_told}
use Rattle.casebook_page.specs.Views.{contents_view}
use Rattle.casebook_page.proofs.cancelled.push_effects.Given as goal

abbrev pub invariant-loop-effect : goal.invariant-loop-effect
invariant-loop-effect l =
    l.html ≡ l.fn.html
    ++ flat_map (λ effect. effect_told (contents_view l.contents) (effect_value effect)) (take l.effect-index l.effect-items)
