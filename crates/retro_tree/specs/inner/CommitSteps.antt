-- The steps of a commit: writes, which can be undone, and removals, which come last.
use Rattle.std.specs.Prelude.{◌≡◌, ℕ, Bool, true, false, not, ◌&&◌, List, [], ◌∷◌, ◌++◌, Option, Some, None}
use Rattle.std.specs.List.{filter, filter_map, list_any}
use Rattle.std.specs.FinMap as map
use Rattle.retro_tree.specs.Maps.{update}
use Rattle.retro_tree.specs.Path.{PathValue}
use Rattle.retro_tree.specs.Node.{entry_cut}
use Rattle.retro_tree.specs.Order.{path_eq}
use Rattle.retro_tree.specs.Tree.{Tree, node_in}
use Rattle.retro_tree.specs.Lawful.{IsLawfulTree, may_put}
use Rattle.retro_tree.specs.Session.{default_session, session_in}
use Rattle.retro_tree.specs.inner.Previous.{with_previous, has_place}
use Rattle.retro_tree.specs.declared.entry.Entry.{Entry}
use Rattle.retro_tree.specs.declared.node.Node.TheVariants.{Missing, Dir, File}
use Rattle.retro_tree.specs.declared.cell.Cell.{Cell}
use Rattle.retro_tree.specs.declared.cell.Cell.TheVariants as cells
use Rattle.retro_tree.specs.declared.value.Value.TheVariants as values
use Rattle.retro_tree.specs.declared.overlay_entry.OverlayEntry.{OverlayEntry}
use Rattle.retro_tree.specs.declared.overlay_entry.OverlayEntry.TheVariants as entries
use Rattle.retro_tree.specs.declared.undo.Undo.{Undo}
use Rattle.retro_tree.specs.declared.undo.Undo.TheVariants as undos
use Rattle.retro_tree.specs.declared.state.State.{State}

-- whether an entry removes a node or unsets a variable, which takes no memory
abbrev pub removes : OverlayEntry → Bool
removes (entries.Value (values.Node Missing)) = true
removes (entries.Value (values.Node Dir)) = false
removes (entries.Value (values.Node (File bytes))) = false
removes (entries.Value (values.Cwd p)) = false
removes (entries.Value (values.Text None)) = true
removes (entries.Value (values.Text (Some text))) = false
removes (entries.Value (values.Status n)) = false
removes (entries.Growth bytes) = false

-- the entries that remove
abbrev pub removals : List (Cell × OverlayEntry) → List (Cell × OverlayEntry)
removals es = filter (λ e. removes e.1) es

-- the entries that write
abbrev pub writes : List (Cell × OverlayEntry) → List (Cell × OverlayEntry)
writes es = filter (λ e. not (removes e.1)) es

-- ---- undoing

-- the file at a path, if one is there, shortened to n bytes
abbrev pub cut_at : PathValue → ℕ → Option Entry → Tree → Tree
cut_at p n None tree = tree
cut_at p n (Some entry) tree = map.insert tree p (entry_cut n entry)

-- a state after a write is undo
abbrev pub undo : Undo → State → State
undo (undos.Entry p None) s = record s { tree = map.remove s.tree p }
undo (undos.Entry p (Some entry)) s = record s { tree = map.insert s.tree p entry }
undo (undos.Length p n) s = record s { tree = cut_at p n (map.get s.tree p) s.tree }
undo (undos.Session sid) s = record s { sessions = map.remove s.sessions sid }
undo (undos.Setting sid previous) s =
    record s { sessions = update s.sessions sid default_session (with_previous previous) }

-- whether undoing takes no memory
abbrev pub can_undo : Undo → State → Bool
can_undo (undos.Entry p None) s = true
can_undo (undos.Entry p (Some entry)) s = map.contains_key s.tree p
can_undo (undos.Length p n) s = true
can_undo (undos.Session sid) s = true
can_undo (undos.Setting sid previous) s =
    map.contains_key s.sessions sid && has_place previous (session_in sid s.sessions)

-- undoing a write, if there was one, takes no memory and gives the previous state
abbrev pub Undoes : Option Undo → State → State → Type 0
Undoes None now previous = now ≡ previous
Undoes (Some u) now previous = (can_undo u now ≡ true) × (undo u now ≡ previous)

-- a state after writes are undo, in the order of the list
abbrev pub undo_all : List Undo → State → State
undo_all [] s = s
undo_all (u ∷ us) s = undo_all us (undo u s)

-- undoing them takes no memory
abbrev pub CanUndoAll : List Undo → State → Type 0
CanUndoAll [] s = Unit {0}
CanUndoAll (u ∷ us) s = (can_undo u s ≡ true) × CanUndoAll us (undo u s)

-- ---- the law after a commit

-- whether a tree keeps the law at a path: the node may be there, and nothing is below it unless it
-- is a directory
abbrev pub keeps_law_at : PathValue → Tree → Bool
keeps_law_at p tree = may_put p (node_in p tree) tree

-- whether a tree keeps the law at a path, if there is one
abbrev pub keeps_law : Option PathValue → Tree → Bool
keeps_law None tree = true
keeps_law (Some p) tree = keeps_law_at p tree

-- the path of a cell, if the cell has one
abbrev pub path_of : Cell → Option PathValue
path_of (cells.At p) = Some p
path_of (cells.Cwd sid) = None
path_of (cells.Var sid name) = None
path_of (cells.Status sid) = None

-- the path that an undo writes, if it writes one
abbrev pub undone_path : Undo → Option PathValue
undone_path (undos.Entry p previous) = Some p
undone_path (undos.Length p n) = Some p
undone_path (undos.Session sid) = None
undone_path (undos.Setting sid previous) = None

-- the paths that a commit wrote
abbrev pub written_paths : List Undo → List (Cell × OverlayEntry) → List PathValue
written_paths us es = filter_map undone_path us ++ filter_map (λ e. path_of e.0) es

-- A tree was lawful, and then changed at some paths only.
pub record WasLawful (paths : List PathValue) (tree : Tree) : Type 0 where
  pub before : Tree
  pub lawful : IsLawfulTree before
  pub apart : (p : PathValue) → list_any (path_eq p) paths ≡ false → node_in p tree ≡ node_in p before
