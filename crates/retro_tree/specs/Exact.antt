-- The exact overlay of a repair: it has entries for exactly the cells in which the recorded and the
-- repaired state differ, each with the repaired value.
use Rattle.std.specs.Prelude.{◌≡◌, ◌≢◌, Option, Some, None}
use Rattle.std.specs.FinMap as map
use Rattle.retro_tree.specs.Cell.{value}
use Rattle.retro_tree.specs.Overlay.{OverlayMap, combined_value}
use Rattle.retro_tree.specs.declared.cell.Cell.{Cell}
use Rattle.retro_tree.specs.declared.value.Value.{Value}
use Rattle.retro_tree.specs.declared.overlay_entry.OverlayEntry.{OverlayEntry}
use Rattle.retro_tree.specs.declared.overlay_entry.OverlayEntry.TheVariants as entries
use Rattle.retro_tree.specs.declared.state.State.{State}

-- the entry of a cell, by its values in the recorded and in the repaired state: none if they are
-- equal, and otherwise the repaired value
abbrev pub IsDifference : Option OverlayEntry → Value → Value → Type 0
IsDifference None recorded repaired = recorded ≡ repaired
IsDifference (Some (entries.Value v)) recorded repaired = (v ≡ repaired) × (recorded ≢ repaired)
IsDifference (Some (entries.Growth bytes)) recorded repaired = ⊥

-- an overlay is exact if each cell's entry is the difference in the cell
abbrev pub IsExact : OverlayMap → State → State → Type 0
IsExact overlay recorded repaired =
    (c : Cell) → IsDifference (map.get overlay c) (value c recorded) (value c repaired)

-- an overlay is tight if each entry is a value other than the recorded state's
abbrev pub IsTight : OverlayMap → State → Type 0
IsTight overlay recorded =
    (c : Cell) → IsDifference (map.get overlay c) (value c recorded)
    (combined_value (map.get overlay c) (value c recorded))
