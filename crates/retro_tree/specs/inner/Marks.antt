-- The children of a path in the combined state, as the code computes them: in a small tree in
-- which each child is a directory.
use Rattle.std.specs.Prelude.{ℕ, Bool, false, if◌then◌else◌, List, [], ◌∷◌, ◌++◌, Option, Some, None, is_some}
use Rattle.std.specs.List.{filter}
use Rattle.std.specs.Ordering.{is_le}
use Rattle.std.specs.FinMap as map
use Rattle.retro_tree.specs.CellOrder.{cell_cmp}
use Rattle.retro_tree.specs.Path.{PathValue, below, is_child}
use Rattle.retro_tree.specs.Tree.{Tree, put}
use Rattle.retro_tree.specs.Overlay.{OverlayMap}
use Rattle.retro_tree.specs.declared.cell.Cell.{Cell}
use Rattle.retro_tree.specs.declared.cell.Cell.TheVariants as cells
use Rattle.retro_tree.specs.declared.value.Value.TheVariants as values
use Rattle.retro_tree.specs.declared.overlay_entry.OverlayEntry.{OverlayEntry}
use Rattle.retro_tree.specs.declared.overlay_entry.OverlayEntry.TheVariants as entries
use Rattle.retro_tree.specs.declared.node.Node.{Node}
use Rattle.retro_tree.specs.declared.node.Node.TheVariants.{Missing, Dir, File}

-- the entries of a cell and of the cells after it, in order
abbrev pub overlay_from : Cell → OverlayMap → List (Cell × OverlayEntry)
overlay_from c overlay = filter (λ e. is_le (cell_cmp c e.0)) (map.entries overlay)

-- whether a cell is that of a path below another, or of the path itself
abbrev pub cell_below : PathValue → Cell → Bool
cell_below p (cells.At q) = is_some (below p q)
cell_below p (cells.Cwd sid) = false
cell_below p (cells.Var sid name) = false
cell_below p (cells.Status sid) = false

-- a tree with a directory for each name
abbrev pub children_tree : PathValue → List (List ℕ) → Tree → Tree
children_tree p [] tree = tree
children_tree p (n ∷ ns) tree = children_tree p ns (put (p ++ n ∷ []) Dir tree)

-- a node as a mark: a directory for each node that isn't missing
abbrev pub mark : Node → Node
mark Missing = Missing
mark Dir = Dir
mark (File bytes) = Dir

-- the mark of a child, by its entry; a growth creates the file
abbrev pub mark_of : OverlayEntry → Option Node
mark_of (entries.Value (values.Node node)) = Some (mark node)
mark_of (entries.Value (values.Cwd q)) = None
mark_of (entries.Value (values.Text t)) = None
mark_of (entries.Value (values.Status n)) = None
mark_of (entries.Growth bytes) = Some Dir

-- a tree with a mark
abbrev pub put_mark : PathValue → Option Node → Tree → Tree
put_mark q None tree = tree
put_mark q (Some node) tree = put q node tree

-- a tree with the mark of one entry, if it is a child's
abbrev pub mark_entry : PathValue → Cell → OverlayEntry → Tree → Tree
mark_entry p (cells.At q) overlay tree = if is_child p q then put_mark q (mark_of overlay) tree else tree
mark_entry p _ overlay tree = tree

-- a tree with the mark_entries of all entries up to the first that isn't below the path
abbrev pub mark_entries : PathValue → List (Cell × OverlayEntry) → Tree → Tree
mark_entries p [] tree = tree
mark_entries p (e ∷ es) tree = if cell_below p e.0 then mark_entries p es (mark_entry p e.0 e.1 tree) else tree

-- whether the first entry is below the path
abbrev pub starts_below : PathValue → List (Cell × OverlayEntry) → Bool
starts_below p [] = false
starts_below p (e ∷ es) = cell_below p e.0
