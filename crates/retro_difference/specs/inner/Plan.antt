-- Plans of how an overlay changes over a line.
use Rattle.std.specs.Prelude.{◌≡◌, Bool, true, false, ◌||◌, List, [], ◌∷◌, Some}
use Rattle.std.specs.List.{list_any}
use Rattle.std.specs.FinMap as map
use Rattle.retro_tree.specs.Cell.{value}
use Rattle.retro_tree.specs.Notes.{cell_eq}
use Rattle.retro_tree.specs.Overlay.{OverlayMap, combined_value}
use Rattle.retro_tree.specs.Exact.{IsDifference}
use Rattle.retro_tree.specs.declared.cell.Cell.{Cell}
use Rattle.retro_tree.specs.declared.value.Value.{Value}
use Rattle.retro_tree.specs.declared.overlay_entry.OverlayEntry.{OverlayEntry}
use Rattle.retro_tree.specs.declared.state.State.{State}
use Rattle.retro_difference.specs.inner.Write.{WriteMap, entry_after, wrote_all, without}
use Rattle.retro_difference.specs.declared.write.Write.{Write}

-- an overlay after the writes and the removals of a plan
abbrev pub carried_out : WriteMap → List Cell → OverlayMap → OverlayMap
carried_out writes removals overlay = without removals (wrote_all (map.entries writes) overlay)

-- A line has the effects `recorded` on the recorded state s, and the effects `chosen` on the state
-- that an overlay makes of s. The value of a cell after the line, in the one and in the other:
abbrev pub recorded_value : OverlayMap → State → Cell → Value
recorded_value recorded s c = combined_value (map.get recorded c) (value c s)

abbrev pub repaired_value : OverlayMap → OverlayMap → State → Cell → Value
repaired_value overlay chosen s c =
    combined_value (map.get chosen c) (combined_value (map.get overlay c) (value c s))

-- each write and each removal of a plan makes a cell's entry the difference after the line
pub record IsPlan (overlay recorded chosen : OverlayMap) (s : State) (writes : WriteMap)
    (removals : List Cell) : Type 0 where
  pub write : (c : Cell) (w : Write) → map.get writes c ≡ Some w
      → IsDifference (entry_after w (map.get overlay c)) (recorded_value recorded s c)
      (repaired_value overlay chosen s c)
  pub removal : (c : Cell) → list_any (cell_eq c) removals ≡ true
      → recorded_value recorded s c ≡ repaired_value overlay chosen s c

-- whether a cell is in a plan
abbrev pub is_planned : WriteMap → List Cell → Cell → Bool
is_planned writes removals c = map.contains_key writes c || list_any (cell_eq c) removals

-- whether a cell is among those of some entries
abbrev pub is_listed : Cell → List (Cell × OverlayEntry) → Bool
is_listed c es = list_any (λ e. cell_eq e.0 c) es

-- For each cell that is neither in the plan nor among the remaining entries of the two maps, its
-- entry before the line is the difference after the line.
unfoldable pub Covers : OverlayMap → OverlayMap → OverlayMap → State → WriteMap → List Cell
    → List (Cell × OverlayEntry) → List (Cell × OverlayEntry) → Type 0
Covers overlay recorded chosen s writes removals left later =
    (c : Cell) → (is_planned writes removals c || (is_listed c left || is_listed c later)) ≡ false
    → IsDifference (map.get overlay c) (recorded_value recorded s c) (repaired_value overlay chosen s c)

-- each of some entries is the map's for its cell
abbrev pub AreEntries : OverlayMap → List (Cell × OverlayEntry) → Type 0
AreEntries m [] = Unit {0}
AreEntries m (e ∷ es) = (map.get m e.0 ≡ Some e.1) × AreEntries m es
