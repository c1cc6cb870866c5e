-- The JSON values that trees, sessions and bytes are written as.
use Rattle.std.specs.Prelude.{ℕ, List, [], ◌∷◌, map, filter, Bool, not}
use Rattle.std.specs.List.{flat_map}
use Rattle.std.specs.Ordering.{nat_cmp}
use Rattle.std.specs.FinMap as map
use Rattle.hex.specs.Hex.{encode_lower}
use Rattle.serde_json.specs.Data.{Data, number, unsigned, string, array}
use Rattle.serde_json.specs.View.{items_of}
use Rattle.retro_tree.specs.Order.{text_cmp}
use Rattle.retro_tree.specs.Path.{PathValue, is_root}
use Rattle.retro_tree.specs.Tree.{Tree}
use Rattle.retro_tree.specs.declared.entry.Entry.{Entry}
use Rattle.retro_tree.specs.declared.entry.Entry.TheVariants.{Dir, File}
use Rattle.retro_tree.specs.declared.session.Session.{Session}
use Rattle.retro_json.specs.Shape.{Text}
use Rattle.retro_json.specs.declared.reading.path.TheConstants.{SLASH}

abbrev pub array_of : List Data → Data
array_of ds = array (items_of ds)

abbrev pub number_data : ℕ → Data
number_data n = number (unsigned n)

-- bytes, in lower case
abbrev pub hex_data : List ℕ → Data
hex_data bytes = string (encode_lower bytes)

-- each name, preceded by a slash
abbrev pub names_text : PathValue → Text
names_text names = flat_map (λ name. SLASH ∷ name) names

-- the root's text is a slash alone
abbrev pub path_text : PathValue → Text
path_text [] = SLASH ∷ []
path_text (name ∷ names) = names_text (name ∷ names)

-- `["/d"]` for a directory, `["/f","hex"]` for a file
abbrev pub entry_data : Text → Entry → Data
entry_data path Dir = array_of (string path ∷ [])
entry_data path (File bytes) = array_of (string path ∷ hex_data bytes ∷ [])

unfoldable pub row_data : PathValue × Entry → Data
row_data e = entry_data (path_text e.0) e.1

-- the root isn't listed
abbrev pub is_listed : PathValue × Entry → Bool
is_listed e = not (is_root e.0)

-- in the order of paths as lists of names
unfoldable pub tree_data : Tree → Data
tree_data tree = array_of (map row_data (filter is_listed (map.entries tree)))

-- `[name,value]`
abbrev pub var_data : Text × Text → Data
var_data e = array_of (string e.0 ∷ string e.1 ∷ [])

-- in the order of names
unfoldable pub vars_data : map.FinMap text_cmp Text → Data
vars_data vars = array_of (map var_data (map.entries vars))

-- `[sid,cwd,status,[[name,value],..]]`
unfoldable pub session_data : ℕ × Session → Data
session_data e =
    array_of (number_data e.0 ∷ string (path_text e.1.cwd) ∷ number_data e.1.status ∷ vars_data e.1.vars ∷ [])

-- in the order of numbers
unfoldable pub sessions_data : map.FinMap nat_cmp Session → Data
sessions_data sessions = array_of (map session_data (map.entries sessions))
