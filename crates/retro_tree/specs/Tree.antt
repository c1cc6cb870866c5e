-- Trees: finite maps from paths to directories and files.
use Rattle.std.specs.Prelude.{Bool, List}
use Rattle.std.specs.List.{list_any, filter}
use Rattle.std.specs.Ordering.{is_le}
use Rattle.std.specs.FinMap as map
use Rattle.retro_tree.specs.Order.{path_cmp}
use Rattle.retro_tree.specs.Path.{PathValue, is_child}
use Rattle.retro_tree.specs.Node.{node_of}
use Rattle.retro_tree.specs.declared.entry.Entry.{Entry}
use Rattle.retro_tree.specs.declared.entry.Entry.TheVariants.{Dir as DirEntry, File as FileEntry}
use Rattle.retro_tree.specs.declared.node.Node.{Node}
use Rattle.retro_tree.specs.declared.node.Node.TheVariants.{Missing, Dir, File}

abbrev pub Tree : Type 0
Tree = map.FinMap path_cmp Entry

-- the node at a path
unfoldable pub node_in : PathValue → Tree → Node
node_in p tree = node_of (map.get tree p)

-- a node put at a path, where Missing removes
abbrev pub put : PathValue → Node → Tree → Tree
put p Missing tree = map.remove tree p
put p Dir tree = map.insert tree p DirEntry
put p (File bytes) tree = map.insert tree p (FileEntry bytes)

-- whether a path has children
unfoldable pub has_child : PathValue → Tree → Bool
has_child p tree = list_any (is_child p) (map.keys tree)

-- the entries of a path and of the paths after it, in order
abbrev pub entries_from : PathValue → Tree → List (PathValue × Entry)
entries_from p tree = filter (λ e. is_le (path_cmp p e.0)) (map.entries tree)
