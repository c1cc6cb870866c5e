-- Commits: the state that an overlay makes of a state.
use Rattle.std.specs.Prelude.{ℕ, Bool, false, List, [], ◌∷◌, Option, Some, None}
use Rattle.std.specs.Ordering.{nat_cmp, eq_by_cmp}
use Rattle.std.specs.FinMap as map
use Rattle.retro_tree.specs.Session.{unset}
use Rattle.retro_tree.specs.Overlay.{OverlayMap}
use Rattle.retro_tree.specs.State.{put_node, grow_file, put_status}
use Rattle.retro_tree.specs.Change.{put_var, put_cwd}
use Rattle.retro_tree.specs.declared.cell.Cell.{Cell}
use Rattle.retro_tree.specs.declared.cell.Cell.TheVariants as cells
use Rattle.retro_tree.specs.declared.value.Value.TheVariants as values
use Rattle.retro_tree.specs.declared.overlay_entry.OverlayEntry.{OverlayEntry}
use Rattle.retro_tree.specs.declared.overlay_entry.OverlayEntry.TheVariants as entries
use Rattle.retro_tree.specs.declared.state.State.{State}

-- a variable of a session set, or unset if the session exists
abbrev pub put_text : ℕ → List ℕ → Option (List ℕ) → State → State
put_text sid name (Some text) s = put_var sid name text s
put_text sid name None s =
    record s { sessions = unset (map.get s.sessions sid) sid name s.sessions }

-- An entry written to a cell. A session that doesn't exist is created, unless only a variable of it
-- is unset. A value of another kind than the cell's changes nothing, nor does a growth of a cell
-- that holds no node.
unfoldable pub put_cell : Cell → OverlayEntry → State → State
put_cell (cells.At p) (entries.Value (values.Node node)) s = put_node p node s
put_cell (cells.At p) (entries.Growth bytes) s = grow_file p bytes s
put_cell (cells.Cwd sid) (entries.Value (values.Cwd p)) s = put_cwd sid p s
put_cell (cells.Var sid name) (entries.Value (values.Text text)) s = put_text sid name text s
put_cell (cells.Status sid) (entries.Value (values.Status n)) s = put_status sid n s
put_cell _ _ s = s

-- entries written one after another
abbrev pub put_cells : List (Cell × OverlayEntry) → State → State
put_cells [] s = s
put_cells (e ∷ es) s = put_cells es (put_cell e.0 e.1 s)

-- the state after all entries are written
abbrev pub committed : OverlayMap → State → State
committed overlay s = put_cells (map.entries overlay) s

-- whether an entry creates a session, if it doesn't exist
abbrev pub makes : ℕ → Cell → OverlayEntry → Bool
makes k (cells.Cwd sid) (entries.Value (values.Cwd p)) = eq_by_cmp nat_cmp k sid
makes k (cells.Var sid name) (entries.Value (values.Text (Some text))) = eq_by_cmp nat_cmp k sid
makes k (cells.Status sid) (entries.Value (values.Status n)) = eq_by_cmp nat_cmp k sid
makes _ _ _ = false
