-- The children of a path that have versions, as the code marks them in an overlay.
use Rattle.std.specs.Prelude.{ℕ, Bool, false, if◌then◌else◌, List, [], ◌∷◌, Option, Some, None}
use Rattle.std.specs.List.{filter}
use Rattle.std.specs.Ordering.{is_le}
use Rattle.std.specs.FinMap as finmap
use Rattle.retro_tree.specs.CellOrder.{cell_cmp}
use Rattle.retro_tree.specs.Path.{PathValue, is_child}
use Rattle.retro_tree.specs.inner.Marks.{cell_below, mark}
use Rattle.retro_tree.specs.Overlay.{OverlayMap}
use Rattle.retro_tree.specs.declared.cell.Cell.{Cell}
use Rattle.retro_tree.specs.declared.cell.Cell.TheVariants as cells
use Rattle.retro_tree.specs.declared.value.Value.{Value}
use Rattle.retro_tree.specs.declared.value.Value.TheVariants as values
use Rattle.retro_tree.specs.declared.node.Node.{Node}
use Rattle.retro_tree.specs.declared.node.Node.TheVariants as nodes
use Rattle.retro_tree.specs.declared.overlay_entry.OverlayEntry.TheVariants as entries
use Rattle.retro_history.specs.inner.CellHistory.{HistoryMap}
use Rattle.retro_history.specs.inner.Tracks.{VersionValue, version_below}
use Rattle.retro_history.specs.declared.cell_history.CellHistory.{CellHistory}

-- the histories of a cell and of the cells after it, in order
abbrev pub histories_from : Cell → HistoryMap → List (Cell × CellHistory)
histories_from c m = filter (λ e. is_le (cell_cmp c e.0)) (finmap.entries m)

-- a directory for each value that isn't Missing
abbrev pub mark_of_value : Value → Node
mark_of_value (values.Node node) = mark node
mark_of_value (values.Cwd p) = nodes.Dir
mark_of_value (values.Text t) = nodes.Dir
mark_of_value (values.Status n) = nodes.Dir

-- an overlay with the mark of a version, if there is one
abbrev pub mark_version : Cell → Option VersionValue → OverlayMap → OverlayMap
mark_version c None marks = marks
mark_version c (Some v) marks =
    finmap.insert marks c (entries.Value (values.Node (mark_of_value v.value)))

-- whether a cell is that of a child of a path
abbrev pub is_child_cell : PathValue → Cell → Bool
is_child_cell p (cells.At q) = is_child p q
is_child_cell p _ = false

-- an overlay with the marks of all children up to the first cell that isn't below the path
abbrev pub mark_tracks : PathValue → ℕ → List (Cell × CellHistory) → OverlayMap → OverlayMap
mark_tracks p number [] marks = marks
mark_tracks p number (e ∷ es) marks =
    if cell_below p e.0 then mark_tracks p number es
    (if is_child_cell p e.0 then mark_version e.0 (version_below number e.1.track) marks else marks)
    else marks
