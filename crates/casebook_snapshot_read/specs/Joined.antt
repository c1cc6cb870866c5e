-- The rows of a snapshot: the entries of a document's tree, each with its mode and owner. The
-- attributes are those of the folder and of all that is below it, and nothing else is in the tree
-- but the directories above the folder.
use Rattle.std.specs.Prelude.{ℕ, ◌==◌, ◌&&◌, Bool, T, List, [], ◌∷◌, filter, length, Option, Some, None}
use Rattle.std.specs.Prelude.{Result, Ok, Err, if◌then◌else◌, is_some, ok_or, option_map}
use Rattle.std.specs.Ordering.{eq_by_cmp}
use Rattle.std.specs.FinMap as map
use Rattle.std.specs.FinMap.Entries.{is_sorted}
use Rattle.std.specs.Map.{update_all}
use Rattle.retro_path.specs.Order.{path_cmp}
use Rattle.retro_path.specs.Path.{PathValue, below}
use Rattle.retro_tree.specs.Node.{is_dir, node_of}
use Rattle.retro_tree.specs.Tree.{Tree}
use Rattle.retro_tree.specs.declared.entry.Entry.{Entry}
use Rattle.casebook_folder.specs.declared.attributes.Attributes.{Attributes}
use Rattle.casebook_snapshot.specs.Placed.{above}
use Rattle.casebook_snapshot.specs.declared.item.Row.{Row}
use Rattle.casebook_snapshot_read.specs.Reads.{◌>>=◌, guard}
use Rattle.casebook_snapshot_read.specs.declared.fault.SnapshotFault.{SnapshotFault}
use Rattle.casebook_snapshot_read.specs.declared.fault.SnapshotFault.TheVariants.{OtherPaths}

-- what rows say of each path; of a path that occurs twice the last row counts
abbrev pub attributes_by : List (PathValue × Attributes) → PathValue → Option Attributes
attributes_by rows = update_all (eq_by_cmp path_cmp) (λ _. None) rows

-- the attributes of a path of the tree: those that are known, or of a directory above the folder
-- those that a placed folder has there
abbrev pub attributes_at : PathValue → (PathValue → Option Attributes) → PathValue
    → Option Attributes
attributes_at at known q =
    if is_some (below at q) then known q
    else if is_some (below q at) then Some above
    else None

abbrev pub with_attributes : PathValue × Entry → Attributes → PathValue × Row
with_attributes e a = (e.0, record { entry = e.1; attributes = a })

abbrev pub row_with : PathValue → (PathValue → Option Attributes) → PathValue × Entry
    → Result (PathValue × Row) SnapshotFault
row_with at known e = ok_or (option_map (with_attributes e) (attributes_at at known e.0)) OtherPaths

-- each item in turn, or the first fault
unfoldable pub each : {A B : Type 0} → (A → Result B SnapshotFault) → List A
    → Result (List B) SnapshotFault
each f [] = Ok []
each f (x ∷ xs) = do
  y ← f x
  ys ← each f xs
  Ok (y ∷ ys)

abbrev pub is_in : PathValue → PathValue × Entry → Bool
is_in at e = is_some (below at e.0)

-- how many paths of the tree are the folder or below it
abbrev pub count_in : PathValue → Tree → ℕ
count_in at tree = length (filter (is_in at) (map.entries tree))

abbrev pub is_folder : PathValue → Tree → Bool
is_folder at tree = is_dir (node_of (map.get tree at))

-- the path of the folder, which the first row of attributes has
abbrev pub root_of : List (PathValue × Attributes) → Result PathValue SnapshotFault
root_of [] = Err OtherPaths
root_of (row ∷ rows) = Ok row.0

-- As many rows of attributes as paths of the folder, and one of each of these: so there are no
-- others, and none twice.
abbrev pub rows_of : PathValue → List (PathValue × Attributes) → Tree
    → Result (List (PathValue × Row)) SnapshotFault
rows_of at rows tree = do
  exact ← guard (is_folder at tree && (length rows == count_in at tree)) OtherPaths
  each (row_with at (attributes_by rows)) (map.entries tree)

-- rows are in order of their paths, and none is there twice
abbrev pub AreInOrder : List (PathValue × Row) → Type 0
AreInOrder rows = T (is_sorted path_cmp rows)
