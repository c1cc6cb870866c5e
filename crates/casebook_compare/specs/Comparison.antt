-- Comparisons of a recorded tree with a snapshot of a folder.
use Rattle.std.specs.Prelude.{◌≡◌, ◌↔◌, Bool, true, false, ◌&&◌, List, [], ◌∷◌, map, Option, Some, None}
use Rattle.std.specs.Prelude.{count_by, is_some}
use Rattle.std.specs.BTreeMap as tree
use Rattle.std.specs.BTreeMap.{BTreeMap}
use Rattle.std.specs.FinMap as finmap
use Rattle.std.specs.List.{filter_map}
use Rattle.std.specs.List.Sorted.{IsStrictlySortedBy}
use Rattle.retro_path.specs.Order.{path_cmp, text_eq}
use Rattle.retro_path.specs.Path.{PathValue, below}
use Rattle.retro_tree.specs.Node.{node_of}
use Rattle.retro_tree.specs.Tree.{Tree, node_in}
use Rattle.retro_tree.specs.declared.entry.Entry.{Entry}
use Rattle.retro_tree.specs.declared.entry.Entry.TheVariants.{Dir, File}
use Rattle.casebook_changes.specs.ChangedPaths.{IsChange, change_at, path_in}
use Rattle.casebook_changes.specs.declared.changed_path.ChangedPath.{ChangedPath}
use Rattle.casebook_changes.specs.declared.changed_path.PathChange.{PathChange}
use Rattle.casebook_snapshot.specs.Snapshots.{entry_of, node_at}
use Rattle.casebook_snapshot.specs.declared.item.Row.{Row}
use Rattle.casebook_snapshot.specs.declared.snapshot.Snapshot.{Snapshot}
use Rattle.casebook_compare.specs.Coverage.{is_covered}
use Rattle.casebook_compare.specs.Unread.{unread_of}
use Rattle.casebook_compare.specs.declared.comparison.Comparison.{Comparison}
use Rattle.casebook_compare.specs.declared.unread.UnreadPath.{UnreadPath}

-- a tree has the nodes of some rows, and no others
abbrev pub IsTreeOf : BTreeMap PathValue Row → Tree → Type 0
IsTreeOf rows t = (q : PathValue) → node_in q t ≡ node_of (entry_of (tree.get path_cmp rows q))

-- ---- what is the same

abbrev pub same_entries : Option Entry → Entry → Bool
same_entries (Some Dir) Dir = true
same_entries (Some (File old)) (File new) = text_eq old new
same_entries other entry = false

-- whether a row of a folder, which is put at a path, is as recorded
abbrev pub is_same_row : Tree → PathValue → PathValue × Row → Bool
is_same_row recorded at e =
    is_some (below at e.0) && same_entries (finmap.get recorded e.0) e.1.entry

-- ---- what isn't

-- A list names exactly the paths in which a folder isn't as recorded, of those of which its
-- snapshot tells what is there; each once and how it differs, in order of paths.
pub record AreDifferent (recorded : Tree) (s : Snapshot) (at : PathValue) (changed : List ChangedPath)
    : Type 0 where
  pub sorted : IsStrictlySortedBy path_cmp (map path_in changed)
  pub exact : (p : PathValue) (change : PathChange) → (change_at p changed ≡ Some change)
      ↔ ((is_covered at s.skipped.items p ≡ true) × IsChange change (node_in p recorded) (node_at s p))

abbrev pub are_any : List ChangedPath → List UnreadPath → Bool
are_any [] [] = false
are_any [] (u ∷ unread) = true
are_any (c ∷ changed) unread = true

-- whether a path isn't as recorded, or was skipped though a snapshot should have it
abbrev pub has_differences : Comparison → Bool
has_differences c = are_any c.different.items c.unread.items

-- The folder's tree, how many of its paths are as recorded, which paths aren't, and which recorded
-- ones the snapshot skipped.
pub record IsComparison (recorded : Tree) (s : Snapshot) (at : PathValue) (c : Comparison) : Type 0 where
  pub folder : IsTreeOf s.rows c.folder.tree
  pub same : c.same ≡ count_by (is_same_row recorded at) s.rows.entries
  pub different : AreDifferent recorded s at c.different.items
  pub unread : c.unread.items ≡ filter_map (unread_of recorded) s.skipped.items
