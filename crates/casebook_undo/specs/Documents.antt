-- The undo file of some rows, as a JSON value and as a text.
use Rattle.std.specs.Prelude.{ℕ, Bool, true, false, ◌&&◌, nat_le, List, [], ◌∷◌, ◌++◌, map, codes}
use Rattle.serde_json.specs.Data.{Data, null, string, object, no_members, member}
use Rattle.serde_json.specs.Written.{compact_text}
use Rattle.retro_path.specs.Path.{PathValue}
use Rattle.retro_json.specs.Values.{array_of, hex_data, number_data, path_text}
use Rattle.casebook_folder.specs.declared.attributes.Attributes.{Attributes}
use Rattle.casebook_folder.specs.declared.found.Found.{Found}
use Rattle.casebook_folder.specs.declared.found.Found.TheVariants.{Missing, Dir, File, Blocked}
use Rattle.casebook_folder.specs.declared.row.Row.{Row}
use Rattle.casebook_undo.specs.declared.limits.TheConstants.{MODE_LIMIT}

-- ---- which rows are written

abbrev pub has_mode : Attributes → Bool
has_mode a = nat_le a.mode MODE_LIMIT

-- whether an undo file can say that a path holds this
abbrev pub is_writable : Found → Bool
is_writable Missing = true
is_writable (Dir a) = has_mode a
is_writable (File bytes a) = has_mode a
is_writable (Blocked o) = false

abbrev pub is_writable_row : Row → Bool
is_writable_row r = is_writable r.before && is_writable r.after

-- ---- values

-- `mode,uid,gid`
abbrev pub attributes_cells : Attributes → List Data
attributes_cells a = number_data a.mode ∷ number_data a.uid ∷ number_data a.gid ∷ []

-- `null` for nothing, `["dir",mode,uid,gid]` and `["file",hex,mode,uid,gid]`. What is blocked isn't
-- writable, so no undo file has its value.
abbrev pub node_data : Found → Data
node_data Missing = null
node_data (Dir a) = array_of (string (codes "dir") ∷ attributes_cells a)
node_data (File bytes a) = array_of (string (codes "file") ∷ hex_data bytes ∷ attributes_cells a)
node_data (Blocked o) = array_of (string (codes "blocked") ∷ [])

-- `[path,before,after]`
unfoldable pub row_data : Row → Data
row_data r = array_of (string (path_text r.path) ∷ node_data r.before ∷ node_data r.after ∷ [])

unfoldable pub rows_data : List Row → Data
rows_data rows = array_of (map row_data rows)

-- ---- documents

-- version 1, with the keys in byte order
abbrev pub undo_object : List ℕ → Data → Data
undo_object at rows = object
    (member (codes "at") (string at)
    (member (codes "rows") rows
    (member (codes "undo") (number_data 1) no_members)))

-- the undo file of some rows, with the path of the folder in their trees
unfoldable pub undo_data : PathValue → List Row → Data
undo_data at rows = undo_object (path_text at) (rows_data rows)

-- compact, with a newline at the end
unfoldable pub undo_text : PathValue → List Row → List ℕ
undo_text at rows = compact_text (undo_data at rows) ++ codes "\n"
