-- The tree of a document: a list of directories `["/d"]` and files `["/f","hex"]`.
use Rattle.std.specs.Prelude.{ℕ, List, [], ◌∷◌, length, Option, Result, Ok, Err, nat_le, ok_or}
use Rattle.std.specs.Result.{result_ok}
use Rattle.hex.specs.Hex.{decode_of}
use Rattle.serde_json.specs.Data.{Data}
use Rattle.retro_tree.specs.Order.{path_cmp}
use Rattle.retro_tree.specs.Path.{PathValue}
use Rattle.retro_tree.specs.Node.{file_limit}
use Rattle.retro_tree.specs.Tree.{Tree as TreeValue}
use Rattle.retro_tree.specs.Lawful.{is_lawful_tree}
use Rattle.retro_tree.specs.declared.entry.Entry.{Entry}
use Rattle.retro_tree.specs.declared.entry.Entry.TheVariants.{Dir, File}
use Rattle.retro_json.specs.declared.fault.Part.TheVariants.{Tree}
use Rattle.retro_json.specs.declared.fault.Refusal.{Refusal}
use Rattle.retro_json.specs.declared.fault.Refusal.TheVariants.{WrongShape, BadHex, OverLimit, LawlessTree}
use Rattle.retro_json.specs.Steps.{◌>>=◌, guard}
use Rattle.retro_json.specs.Worst.{both, every}
use Rattle.retro_json.specs.Keyed.{map_of}
use Rattle.retro_json.specs.Shape.{Text, cells, text_in}
use Rattle.retro_json.specs.PathText.{path_in}

-- ---- a row: a path, and a directory or a file

-- the bytes that hex digits of either case encode
abbrev pub bytes_in : Text → Option (List ℕ)
bytes_in hex = result_ok (decode_of hex)

-- the file of these bytes
abbrev pub file_of : List ℕ → Result Entry Refusal
file_of bytes = do
  fits ← guard (nat_le (length bytes) file_limit) OverLimit
  Ok (File bytes)

abbrev pub file_in : Data → Result Entry Refusal
file_in d = do
  hex ← text_in Tree d
  bytes ← ok_or (bytes_in hex) BadHex
  file_of bytes

abbrev pub row_cells : List Data → Result (PathValue × Entry) Refusal
row_cells (p ∷ []) = do
  path ← path_in Tree p
  Ok (path, Dir)
row_cells (p ∷ h ∷ []) = both (path_in Tree p) (file_in h)
row_cells _ = Err (WrongShape Tree)

unfoldable pub row_of : Data → Result (PathValue × Entry) Refusal
row_of d = cells Tree d >>= row_cells

-- ---- the law: no path twice, the root not listed, and all rows together a lawful tree

-- the root isn't listed, but exists
abbrev pub root_entry : PathValue × Entry
root_entry = ([], Dir)

-- the tree, or the worst refusal of the whole list: a wrong shape, then bad hex, then a broken
-- limit; and then a tree that isn't lawful
unfoldable pub tree_of : Data → Result TreeValue Refusal
tree_of d = do
  items ← cells Tree d
  rows ← every row_of items
  tree ← ok_or (map_of path_cmp (root_entry ∷ rows)) LawlessTree
  law ← guard (is_lawful_tree tree) LawlessTree
  Ok tree
