-- How the writes of an overlay's entries are undone.
use Rattle.std.specs.Prelude.{◌≡◌, ℕ, List, [], ◌∷◌, Option, Some, None, take}
use Rattle.std.specs.FinMap as map
use Rattle.retro_tree.specs.Overlay.{OverlayMap, replaced_at}
use Rattle.retro_tree.specs.declared.cell.Cell.{Cell}
use Rattle.retro_tree.specs.declared.value.Value.TheVariants as values
use Rattle.retro_tree.specs.declared.node.Node.TheVariants as nodes
use Rattle.retro_tree.specs.declared.overlay_entry.OverlayEntry.{OverlayEntry}
use Rattle.retro_tree.specs.declared.overlay_entry.OverlayEntry.TheVariants as entries
use Rattle.retro_difference.specs.declared.undo.Undo.{Undo}
use Rattle.retro_difference.specs.declared.undo.Undo.TheVariants.{Absent, Entry, Length}

-- an entry, cut to a length if it is a file
abbrev pub cut : ℕ → OverlayEntry → OverlayEntry
cut n (entries.Value (values.Node (nodes.File bytes))) =
    entries.Value (values.Node (nodes.File (take n bytes)))
cut n l = l

-- an overlay with a cell's entry cut, if it has one
abbrev pub cut_at : Cell → ℕ → Option OverlayEntry → OverlayMap → OverlayMap
cut_at c n None overlay = overlay
cut_at c n (Some l) overlay = map.insert overlay c (cut n l)

-- the cell of a write
abbrev pub undone_cell : Undo → Cell
undone_cell (Absent c) = c
undone_cell (Entry c l) = c
undone_cell (Length c n) = c

-- an overlay with a write undone
abbrev pub undone : Undo → OverlayMap → OverlayMap
undone (Absent c) overlay = map.remove overlay c
undone (Entry c l) overlay = replaced_at c l (map.get overlay c) overlay
undone (Length c n) overlay = cut_at c n (map.get overlay c) overlay

-- an overlay with writes undone in turn
abbrev pub undone_all : List Undo → OverlayMap → OverlayMap
undone_all [] overlay = overlay
undone_all (u ∷ us) overlay = undone_all us (undone u overlay)

-- undoing a write gives the previous overlay; a write without an undo changed nothing
abbrev pub Undoes : Option Undo → OverlayMap → OverlayMap → Type 0
Undoes None new old = new ≡ old
Undoes (Some u) new old = undone u new ≡ old
