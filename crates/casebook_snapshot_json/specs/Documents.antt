-- The documents of snapshots, as JSON values and as texts.
use Rattle.std.specs.Prelude.{ℕ, Bool, true, false, not, List, [], ◌∷◌, ◌++◌, map, filter, codes}
use Rattle.std.specs.Prelude.{is_some}
use Rattle.std.specs.Str.{is_utf8}
use Rattle.serde_json.specs.Data.{Data, string, object, no_members, member}
use Rattle.serde_json.specs.Written.{compact_text}
use Rattle.retro_path.specs.Ascii.{slash}
use Rattle.retro_path.specs.Path.{PathValue, below, is_root}
use Rattle.retro_path.specs.Slashed.{slashed}
use Rattle.retro_json.specs.Values.{array_of, hex_data, number_data, path_text, row_data}
use Rattle.casebook_folder.specs.declared.attributes.Attributes.{Attributes}
use Rattle.casebook_snapshot.specs.declared.item.Row.{Row}
use Rattle.casebook_snapshot.specs.declared.snapshot.SkippedPath.{SkippedPath}
use Rattle.casebook_snapshot.specs.declared.snapshot.Snapshot.{Snapshot}
use Rattle.casebook_snapshot_json.specs.Reasons.{reason_text}

-- ---- the tree, as a script has it: without the root, in order of paths

abbrev pub is_listed : PathValue × Row → Bool
is_listed e = not (is_root e.0)

abbrev pub tree_row : PathValue × Row → Data
tree_row e = row_data (e.0, e.1.entry)

unfoldable pub tree_rows : List (PathValue × Row) → Data
tree_rows es = array_of (map tree_row (filter is_listed es))

-- ---- modes and owners, of the folder and of what is below it

-- `[path,mode,uid,gid]`
abbrev pub attributes_data : PathValue → Attributes → Data
attributes_data p a = array_of
    (string (path_text p) ∷ number_data a.mode ∷ number_data a.uid ∷ number_data a.gid ∷ [])

abbrev pub is_known : PathValue → PathValue × Row → Bool
is_known at e = is_some (below at e.0)

abbrev pub attributes_row : PathValue × Row → Data
attributes_row e = attributes_data e.0 e.1.attributes

unfoldable pub attributes_rows : PathValue → List (PathValue × Row) → Data
attributes_rows at es = array_of (map attributes_row (filter (is_known at) es))

-- ---- what is skipped, in the order in which it was found

-- the text of the path of a name in a directory
abbrev pub child_text : PathValue → List ℕ → List ℕ
child_text parent name = slashed parent ++ slash ∷ name

-- `[path,reason]`
abbrev pub plain_data : PathValue → List ℕ → List ℕ → Data
plain_data parent name reason = array_of (string (child_text parent name) ∷ string reason ∷ [])

-- `[directory,reason,hex]`
abbrev pub odd_data : PathValue → List ℕ → List ℕ → Data
odd_data parent name reason =
    array_of (string (path_text parent) ∷ string reason ∷ hex_data name ∷ [])

-- by whether the name is UTF-8
abbrev pub skipped_by : Bool → SkippedPath → Data
skipped_by true s = plain_data s.child.parent s.child.name.items (reason_text s.reason)
skipped_by false s = odd_data s.child.parent s.child.name.items (reason_text s.reason)

-- `[path,reason]`, or `[directory,reason,hex]` if the name isn't UTF-8
unfoldable pub skipped_data : SkippedPath → Data
skipped_data s = skipped_by (is_utf8 s.child.name.items) s

unfoldable pub skipped_rows : List SkippedPath → Data
skipped_rows ss = array_of (map skipped_data ss)

-- ---- documents

-- version 1, with the keys in byte order
abbrev pub snapshot_object : Data → List ℕ → Data → List ℕ → Data → Data
snapshot_object attributes root skipped taken tree = object
    (member (codes "attributes") attributes
    (member (codes "root") (string root)
    (member (codes "skipped") skipped
    (member (codes "snapshot") (number_data 1)
    (member (codes "taken") (string taken)
    (member (codes "tree") tree no_members))))))

-- the document of a snapshot of a folder that is at a path of it, with the folder's own name, and
-- the time at which it was taken
unfoldable pub snapshot_data : Snapshot → PathValue → List ℕ → List ℕ → Data
snapshot_data s at root taken =
    snapshot_object (attributes_rows at s.rows.entries) root (skipped_rows s.skipped.items) taken
    (tree_rows s.rows.entries)

-- compact, with a newline at the end
unfoldable pub snapshot_text : Snapshot → PathValue → List ℕ → List ℕ → List ℕ
snapshot_text s at root taken = compact_text (snapshot_data s at root taken) ++ codes "\n"
