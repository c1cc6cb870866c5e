-- Overlays: entries for some cells of a state. The other cells are those of a view.
use Rattle.std.specs.Prelude.{◌≡◌, ℕ, Bool, true, false, List, ◌++◌, Option, Some, None}
use Rattle.std.specs.FinMap as map
use Rattle.retro_tree.specs.CellOrder.{cell_cmp}
use Rattle.retro_tree.specs.Cell.{value}
use Rattle.retro_tree.specs.Change.{value_grown}
use Rattle.retro_tree.specs.declared.cell.Cell.{Cell}
use Rattle.retro_tree.specs.declared.cell.Cell.TheVariants as cells
use Rattle.retro_tree.specs.declared.value.Value.{Value}
use Rattle.retro_tree.specs.declared.value.Value.TheVariants as values
use Rattle.retro_tree.specs.declared.overlay_entry.OverlayEntry.{OverlayEntry}
use Rattle.retro_tree.specs.declared.overlay_entry.OverlayEntry.TheVariants as entries
use Rattle.retro_tree.specs.declared.state.State.{State}

-- a map from cells to entries
abbrev pub OverlayMap : Type 0
OverlayMap = map.FinMap cell_cmp OverlayEntry

-- the value of a cell in the combined state, by its entry and its value in the view's state
abbrev pub combined_value : Option OverlayEntry → Value → Value
combined_value None below = below
combined_value (Some (entries.Value v)) below = v
combined_value (Some (entries.Growth bytes)) below = value_grown bytes below

-- `now` is the combined state of an overlay and the view's state, in each cell
abbrev pub Overlays : OverlayMap → State → State → Type 0
Overlays overlay below now = (c : Cell) → value c now ≡ combined_value (map.get overlay c) (value c below)

-- whether an entry is of its cell's kind
abbrev pub fits_cell : Cell → OverlayEntry → Bool
fits_cell (cells.At p) (entries.Value (values.Node node)) = true
fits_cell (cells.At p) (entries.Growth bytes) = true
fits_cell (cells.Cwd sid) (entries.Value (values.Cwd q)) = true
fits_cell (cells.Var sid name) (entries.Value (values.Text t)) = true
fits_cell (cells.Status sid) (entries.Value (values.Status n)) = true
fits_cell _ _ = false

-- each entry is of its cell's kind
unfoldable pub Fits : OverlayMap → Type 0
Fits overlay = (c : Cell) (l : OverlayEntry) → map.get overlay c ≡ Some l → fits_cell c l ≡ true

-- whether an entry is a value, not a growth
abbrev pub is_value : OverlayEntry → Bool
is_value (entries.Value v) = true
is_value (entries.Growth bytes) = false

-- each entry is a value
unfoldable pub AllValues : OverlayMap → Type 0
AllValues overlay = (c : Cell) (l : OverlayEntry) → map.get overlay c ≡ Some l → is_value l ≡ true

-- an entry with bytes appended
abbrev pub overlay_entry_grown : List ℕ → OverlayEntry → OverlayEntry
overlay_entry_grown bytes (entries.Value v) = entries.Value (value_grown bytes v)
overlay_entry_grown bytes (entries.Growth old) = entries.Growth (old ++ bytes)

-- an overlay with bytes appended to a cell's entry, if it has one
abbrev pub grown_at : Cell → List ℕ → Option OverlayEntry → OverlayMap → OverlayMap
grown_at c bytes None overlay = overlay
grown_at c bytes (Some l) overlay = map.insert overlay c (overlay_entry_grown bytes l)

-- an overlay with a cell's entry replaced, if it has one
abbrev pub replaced_at : Cell → OverlayEntry → Option OverlayEntry → OverlayMap → OverlayMap
replaced_at c l None overlay = overlay
replaced_at c l (Some old) overlay = map.insert overlay c l
