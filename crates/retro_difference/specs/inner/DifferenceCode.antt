-- The code of a difference.
use Rattle.std.specs.Prelude.{List, refl}
use Rattle.std.specs.Coded.{Coded, code_by, coded×}
use Rattle.std.specs.FinMap as map
use Rattle.retro_tree.specs.CellOrder.{coded_cell, coded_overlay_entry}
use Rattle.retro_tree.specs.Overlay.{OverlayMap}
use Rattle.retro_difference.specs.Difference.{DifferenceValue}
use Rattle.retro_difference.specs.NextUses.{Use}
use Rattle.retro_difference.specs.inner.NextUsesCode.{coded_uses}

-- a difference is stored as its parts
abbrev pub coded_difference : Coded DifferenceValue
coded_difference =
    code_by (OverlayMap × List Use) (coded× (map.code coded_cell coded_overlay_entry) coded_uses)
    (λ d. (d.overlay, d.uses)) (λ p. record { overlay = p.0; uses = p.1 }) (λ _. refl)
