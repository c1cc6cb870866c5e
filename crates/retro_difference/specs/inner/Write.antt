-- Writes of an overlay's entries.
use Rattle.std.specs.Prelude.{List, [], ◌∷◌, Option, Some, None}
use Rattle.std.specs.Coded.{Coded}
use Rattle.std.specs.FinMap as map
use Rattle.retro_tree.specs.CellOrder.{cell_cmp}
use Rattle.retro_tree.specs.Overlay.{OverlayMap, overlay_entry_grown, grown_at}
use Rattle.retro_tree.specs.declared.cell.Cell.{Cell}
use Rattle.retro_tree.specs.declared.overlay_entry.OverlayEntry.{OverlayEntry}
use Rattle.retro_tree.specs.declared.overlay_entry.OverlayEntry.TheVariants as entries
use Rattle.retro_difference.specs.declared.write.Write.{Write}
use Rattle.retro_difference.specs.declared.write.Write.TheVariants.{Keep, Set, Grow}
use Rattle.retro_difference.specs.contracts.write.Write as write_type

abbrev pub coded_write : Coded Write
coded_write = (write_type.the_row).coded

-- a map from cells to writes
abbrev pub WriteMap : Type 0
WriteMap = map.FinMap cell_cmp Write

-- a cell's entry after a write; only an entry grows
abbrev pub entry_after : Write → Option OverlayEntry → Option OverlayEntry
entry_after Keep o = o
entry_after (Set v) o = Some (entries.Value v)
entry_after (Grow bytes) None = None
entry_after (Grow bytes) (Some l) = Some (overlay_entry_grown bytes l)

-- a cell's entry after the write that a map has for it, if it has one
abbrev pub entry_written : Option Write → Option OverlayEntry → Option OverlayEntry
entry_written None o = o
entry_written (Some w) o = entry_after w o

-- a cell's entry after a decision: None removes it
abbrev pub decided_entry : Option Write → Option OverlayEntry → Option OverlayEntry
decided_entry None o = None
decided_entry (Some w) o = entry_after w o

-- an overlay after a write of a cell's entry
abbrev pub wrote : Cell → Write → OverlayMap → OverlayMap
wrote c Keep overlay = overlay
wrote c (Set v) overlay = map.insert overlay c (entries.Value v)
wrote c (Grow bytes) overlay = grown_at c bytes (map.get overlay c) overlay

-- an overlay after writes in turn
abbrev pub wrote_all : List (Cell × Write) → OverlayMap → OverlayMap
wrote_all [] overlay = overlay
wrote_all (e ∷ es) overlay = wrote_all es (wrote e.0 e.1 overlay)

-- an overlay without the entries of some cells
abbrev pub without : List Cell → OverlayMap → OverlayMap
without [] overlay = overlay
without (c ∷ cs) overlay = without cs (map.remove overlay c)
