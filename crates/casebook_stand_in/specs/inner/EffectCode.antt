-- The encoding of effects, which the model of `Effect` needs.
use Rattle.std.specs.Prelude.{ℕ, refl}
use Rattle.std.specs.FinMap as map
use Rattle.std.specs.Coded.{Coded, code_by, coded×, coded_ℕ}
use Rattle.retro_tree.specs.CellOrder.{coded_cell, coded_overlay_entry}
use Rattle.retro_tree.specs.Overlay.{OverlayMap}
use Rattle.casebook_stand_in.specs.Effect.{EffectValue}

-- as the pair of the fields
abbrev pub coded_effect : Coded EffectValue
coded_effect =
    code_by (ℕ × OverlayMap) (coded× coded_ℕ (map.code coded_cell coded_overlay_entry))
    (λ effect. (effect.sid, effect.cells)) (λ p. record { sid = p.0; cells = p.1 }) (λ _. refl)
