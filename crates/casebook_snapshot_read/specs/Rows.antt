-- The rows of the lists of a document.
use Rattle.std.specs.Prelude.{ℕ, ◌+◌, ◌^◌, ◌&&◌, Bool, not, List, [], ◌∷◌, Option, Some, None}
use Rattle.std.specs.Prelude.{Result, Ok, Err, if◌then◌else◌, option_and_then}
use Rattle.std.specs.Result.{result_ok}
use Rattle.std.specs.Str.{is_utf8}
use Rattle.serde_json.specs.Data.{Data}
use Rattle.serde_json.specs.Find.{as_str}
use Rattle.retro_path.specs.Path.{PathValue}
use Rattle.retro_tree.specs.declared.entry.Entry.{Entry}
use Rattle.retro_json.specs.PathText.{is_written_name}
use Rattle.retro_json.specs.Shape.{below, cells, unsigned_in}
use Rattle.retro_json.specs.TreePart.{bytes_in, row_of}
use Rattle.retro_json.specs.declared.fault.Part.TheVariants as parts
use Rattle.casebook_folder.specs.declared.attributes.Attributes.{Attributes}
use Rattle.casebook_snapshot.specs.declared.reason.Reason.{Reason}
use Rattle.casebook_snapshot.specs.declared.snapshot.SkippedPath.{SkippedPath}
use Rattle.casebook_snapshot_read.specs.Paths.{ChildValue, child_of_text, child_view, path_in}
use Rattle.casebook_snapshot_read.specs.Reasons.{reason_named}
use Rattle.casebook_snapshot_read.specs.declared.fault.Part.{Part}
use Rattle.casebook_snapshot_read.specs.declared.fault.SnapshotFault.{SnapshotFault}
use Rattle.casebook_snapshot_read.specs.declared.fault.SnapshotFault.TheVariants.{BadRow}

abbrev pub cells_in : Data → Option (List Data)
cells_in d = result_ok (cells parts.Tree d)

abbrev pub both : {A B : Type 0} → Option A → Option B → Option (A × B)
both (Some x) (Some y) = Some (x, y)
both (Some x) None = None
both None y = None

-- ---- the tree: `["/d"]` and `["/f","hex"]`, as scripts have them

abbrev pub tree_row : Data → Option (PathValue × Entry)
tree_row d = result_ok (row_of d)

-- ---- modes and owners: `[path,mode,uid,gid]`

-- a whole number below an end
abbrev pub number_in : ℕ → Data → Option ℕ
number_in end d = option_and_then (below end) (unsigned_in d)

abbrev pub attributes_by : Option ℕ → Option ℕ → Option ℕ → Option Attributes
attributes_by (Some mode) (Some uid) (Some gid) =
    Some (record { mode = mode; uid = uid; gid = gid })
attributes_by (Some mode) (Some uid) None = None
attributes_by (Some mode) None gid = None
attributes_by None uid gid = None

-- a mode has 12 bits, and a number of an owner or group 32
abbrev pub attributes_of : Data → Data → Data → Option Attributes
attributes_of mode uid gid =
    attributes_by (number_in (2 ^ 12) mode) (number_in (2 ^ 32) uid) (number_in (2 ^ 32) gid)

abbrev pub attributes_cells : List Data → Option (PathValue × Attributes)
attributes_cells (p ∷ mode ∷ uid ∷ gid ∷ []) = both (path_in p) (attributes_of mode uid gid)
attributes_cells _ = None

abbrev pub attributes_row : Data → Option (PathValue × Attributes)
attributes_row d = option_and_then attributes_cells (cells_in d)

-- ---- what is skipped: `[path,reason]`, or `[directory,reason,hex]` if the name isn't UTF-8

abbrev pub SkippedValue : Type 0
SkippedValue = ChildValue × Reason

abbrev pub skipped_view : SkippedPath → SkippedValue
skipped_view s = (child_view s.child, s.reason)

abbrev pub reason_in : Data → Option Reason
reason_in d = option_and_then reason_named (as_str d)

abbrev pub plain_row : Data → Data → Option SkippedValue
plain_row p r = both (option_and_then child_of_text (as_str p)) (reason_in r)

abbrev pub is_odd_name : List ℕ → Bool
is_odd_name name = not (is_utf8 name) && is_written_name name

abbrev pub odd_name : List ℕ → Option (List ℕ)
odd_name name = if is_odd_name name then Some name else None

-- the bytes that hexadecimal digits of either case encode
abbrev pub name_in : Data → Option (List ℕ)
name_in d = option_and_then odd_name (option_and_then bytes_in (as_str d))

abbrev pub odd_row : Data → Data → Data → Option SkippedValue
odd_row p r h = both (both (path_in p) (name_in h)) (reason_in r)

abbrev pub skipped_cells : List Data → Option SkippedValue
skipped_cells (p ∷ r ∷ []) = plain_row p r
skipped_cells (p ∷ r ∷ h ∷ []) = odd_row p r h
skipped_cells _ = None

abbrev pub skipped_row : Data → Option SkippedValue
skipped_row d = option_and_then skipped_cells (cells_in d)

-- ---- lists of rows

abbrev pub row_then : {A : Type 0} → Part → ℕ → Option A → Result (List A) SnapshotFault
    → Result (List A) SnapshotFault
row_then part place None rest = Err (BadRow part (place + 1))
row_then part place (Some x) (Ok xs) = Ok (x ∷ xs)
row_then part place (Some x) (Err fault) = Err fault

-- what all rows from an index on say, or the place of the first that is none, counted from 1
unfoldable pub rows_from : {A : Type 0} → Part → (Data → Option A) → ℕ → List Data
    → Result (List A) SnapshotFault
rows_from part row place [] = Ok []
rows_from part row place (d ∷ ds) =
    row_then part place (row d) (rows_from part row (place + 1) ds)

abbrev pub rows_read : {A : Type 0} → Part → (Data → Option A) → List Data
    → Result (List A) SnapshotFault
rows_read part row ds = rows_from part row 0 ds
