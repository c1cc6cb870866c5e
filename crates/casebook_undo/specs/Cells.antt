-- The parts of an undo file, read from JSON values (RFC 8259). A value of another shape is None.
use Rattle.std.specs.Prelude.{ℕ, nat_le, List, [], ◌∷◌, Option, Some, None, if◌then◌else◌}
use Rattle.std.specs.Prelude.{bytes_eq, codes, is_some, option_and_then, option_map}
use Rattle.std.specs.List.{list_all}
use Rattle.serde_json.specs.Data.{Data}
use Rattle.serde_json.specs.Find.{as_array, as_null, as_str}
use Rattle.retro_path.specs.Name.{is_name}
use Rattle.retro_path.specs.Path.{PathValue}
use Rattle.retro_json.specs.PathText.{names_in}
use Rattle.retro_json.specs.Shape.{item_list, unsigned_in}
use Rattle.retro_json.specs.TreePart.{bytes_in}
use Rattle.casebook_folder.specs.declared.attributes.Attributes.{Attributes}
use Rattle.casebook_folder.specs.declared.found.Found.{Found}
use Rattle.casebook_folder.specs.declared.found.Found.TheVariants.{Missing, Dir, File}
use Rattle.casebook_folder.specs.declared.row.Row.{Row}
use Rattle.casebook_undo.specs.declared.limits.TheConstants.{MODE_LIMIT, NUMBER_LIMIT}

infixl 10 ◌>>=◌
abbrev pub ◌>>=◌ : {A B : Type 0} → Option A → (A → Option B) → Option B
(Some x) >>= f = f x
None >>= f = None

-- ---- lists, numbers and bytes

abbrev pub cells_in : Data → Option (List Data)
cells_in d = option_map item_list (as_array d)

abbrev pub up_to : ℕ → ℕ → Option ℕ
up_to limit n = if nat_le n limit then Some n else None

-- a whole number of at most `limit`
abbrev pub number_up_to : ℕ → Data → Option ℕ
number_up_to limit d = option_and_then (up_to limit) (unsigned_in d)

-- the bytes that hex digits of either case encode
abbrev pub bytes_of : Data → Option (List ℕ)
bytes_of d = option_and_then bytes_in (as_str d)

-- ---- paths

abbrev pub path_named : List (List ℕ) → Option PathValue
path_named names = if list_all is_name names then Some names else None

abbrev pub path_of_text : List ℕ → Option PathValue
path_of_text text = option_and_then path_named (names_in text)

-- the path that a text names: `/a/b`, and `/` for the root
abbrev pub path_in : Data → Option PathValue
path_in d = option_and_then path_of_text (as_str d)

-- ---- what a path holds

-- `mode,uid,gid`
abbrev pub attributes_in : List Data → Option Attributes
attributes_in (m ∷ u ∷ g ∷ []) = do
  mode ← number_up_to MODE_LIMIT m
  uid ← number_up_to NUMBER_LIMIT u
  gid ← number_up_to NUMBER_LIMIT g
  Some (record { mode = mode; uid = uid; gid = gid })
attributes_in _ = None

-- `mode,uid,gid`, after `"dir"`
abbrev pub dir_in : List Data → Option Found
dir_in cells = do
  attributes ← attributes_in cells
  Some (Dir attributes)

-- `hex,mode,uid,gid`, after `"file"`
abbrev pub file_in : List Data → Option Found
file_in [] = None
file_in (hex ∷ cells) = do
  bytes ← bytes_of hex
  attributes ← attributes_in cells
  Some (File bytes attributes)

abbrev pub tagged_node : List ℕ → List Data → Option Found
tagged_node tag cells =
    if bytes_eq tag (codes "dir") then dir_in cells
    else if bytes_eq tag (codes "file") then file_in cells
    else None

abbrev pub node_cells : List Data → Option Found
node_cells [] = None
node_cells (t ∷ cells) = do
  tag ← as_str t
  tagged_node tag cells

-- `null` for nothing, `["dir",mode,uid,gid]` or `["file",hex,mode,uid,gid]`
unfoldable pub node_in : Data → Option Found
node_in d = if is_some (as_null d) then Some Missing else (cells_in d >>= node_cells)

-- ---- rows

abbrev pub row_cells : List Data → Option Row
row_cells (p ∷ b ∷ a ∷ []) = do
  path ← path_in p
  before ← node_in b
  after ← node_in a
  Some (record { path = path; before = before; after = after })
row_cells _ = None

-- `[path,before,after]`
unfoldable pub row_in : Data → Option Row
row_in d = cells_in d >>= row_cells
