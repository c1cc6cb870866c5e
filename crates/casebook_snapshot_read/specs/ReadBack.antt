-- Rows that are read back from the values that they are written as, and snapshots that are read
-- back from their documents. What is asked of a path, of bytes and of numbers is what their types
-- guarantee, and what a lawful tree has; a path may have no NUL. A mode has 12 bits.
use Rattle.std.specs.Prelude.{◌≡◌, ℕ, ◌^◌, ◌==◌, ◌&&◌, ◌||◌, Bool, true, List, map, is_some, nat_le}
use Rattle.std.specs.Prelude.{nat_lt, length}
use Rattle.std.specs.FinMap.{from_sorted}
use Rattle.std.specs.List.{list_all}
use Rattle.std.specs.Str.{is_utf8}
use Rattle.retro_path.specs.Path.{PathValue, below}
use Rattle.retro_tree.specs.Lawful.{is_lawful_tree}
use Rattle.retro_tree.specs.Node.{file_limit}
use Rattle.retro_tree.specs.Tree.{Tree}
use Rattle.retro_tree.specs.declared.entry.Entry.{Entry}
use Rattle.retro_tree.specs.declared.entry.Entry.TheVariants.{Dir, File}
use Rattle.retro_json.specs.NoNul.{have_no_nul}
use Rattle.retro_json.specs.PathText.{is_written_name}
use Rattle.retro_json.specs.Typed.{are_bytes, are_names}
use Rattle.casebook_folder.specs.declared.attributes.Attributes.{Attributes}
use Rattle.casebook_snapshot.specs.Placed.{above}
use Rattle.casebook_snapshot.specs.declared.item.Row.{Row}
use Rattle.casebook_snapshot.specs.declared.snapshot.SkippedPath.{SkippedPath}
use Rattle.casebook_snapshot.specs.declared.snapshot.Snapshot.{Snapshot}
use Rattle.casebook_snapshot_read.specs.Joined.{AreInOrder, is_folder}

-- the names of a path are names of files, without NUL
abbrev pub are_plain : PathValue → Bool
are_plain p = are_names p && have_no_nul p

abbrev pub attributes_fit : Attributes → Bool
attributes_fit a = nat_lt a.mode (2 ^ 12) && (nat_lt a.uid (2 ^ 32) && nat_lt a.gid (2 ^ 32))

-- a path with a mode and an owner
abbrev pub attributes_are_read : PathValue × Row → Bool
attributes_are_read e = are_plain e.0 && attributes_fit e.1.attributes

abbrev pub entry_fits : Entry → Bool
entry_fits Dir = true
entry_fits (File bytes) = are_bytes bytes && nat_le (length bytes) file_limit

-- a directory or a file
abbrev pub entry_is_read : PathValue × Row → Bool
entry_is_read e = are_plain e.0 && entry_fits e.1.entry

-- what is skipped: its name may be of any length
abbrev pub skipped_is_read : SkippedPath → Bool
skipped_is_read s =
    are_plain s.child.parent && (are_bytes s.child.name.items && is_written_name s.child.name.items)

-- ---- whole snapshots

-- the names of a path are UTF-8
abbrev pub are_texts : PathValue → Bool
are_texts p = list_all is_utf8 p

-- the path and what is at it, without mode and owner
abbrev pub entry_of : PathValue × Row → PathValue × Entry
entry_of e = (e.0, e.1.entry)

-- the tree of rows that are in order of their paths
abbrev pub tree_in : List (PathValue × Row) → Tree
tree_in rows = from_sorted (map entry_of rows)

-- a mode and an owner are those that a placed folder has above it
abbrev pub are_above : Attributes → Bool
are_above a = (a.mode == above.mode) && ((a.uid == above.uid) && (a.gid == above.gid))

-- a row is that of the folder or of a path below it, or that of a directory above it
abbrev pub is_placed : PathValue → PathValue × Row → Bool
is_placed at e = is_some (below at e.0) || (is_some (below e.0 at) && are_above e.1.attributes)

-- A snapshot of a folder is read back from its document, with the folder's path, its own name and
-- the time.
pub record IsReadable (s : Snapshot) (at : PathValue) (root taken : List ℕ) : Type 0 where
  -- the rows are in order of their paths, and no path occurs twice
  pub order : AreInOrder s.rows.entries
  -- the directories and files are a lawful tree
  pub lawful : is_lawful_tree (tree_in s.rows.entries) ≡ true
  -- the folder is one of the directories
  pub folder : is_folder at (tree_in s.rows.entries) ≡ true
  -- all rows are in the folder, or are directories above it, whose mode is 755 and whose owner is 0
  pub placed : list_all (is_placed at) s.rows.entries ≡ true
  -- the paths have no NUL, and the files are within the limit
  pub entries : list_all entry_is_read s.rows.entries ≡ true
  -- modes have 12 bits, and owners and groups 32
  pub attributes : list_all attributes_are_read s.rows.entries ≡ true
  -- what is skipped has a name that a document can have, in a directory whose path has no NUL
  pub skipped : list_all skipped_is_read s.skipped.items ≡ true
  -- the names in the paths of rows are UTF-8
  pub row_texts : list_all (λ e. are_texts e.0) s.rows.entries ≡ true
  -- the names in the paths of directories that something is skipped in are UTF-8
  pub skipped_texts : list_all (λ one. are_texts one.child.parent) s.skipped.items ≡ true
  -- the folder's own name is UTF-8
  pub root_text : is_utf8 root ≡ true
  -- the time is UTF-8
  pub taken_text : is_utf8 taken ≡ true
