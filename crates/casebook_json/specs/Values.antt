-- The JSON values of paths, users and numbers.
use Rattle.std.specs.Prelude.{ℕ, List, Option, Some, None, codes, if◌then◌else◌}
use Rattle.serde_json.specs.Data.{Data, null, string}
use Rattle.retro_json.specs.Values.{number_data}
use Rattle.retro_tree.specs.Path.{PathValue, is_root, slashed}
use Rattle.casebook_about.specs.Labels.{name_in}
use Rattle.casebook_about.specs.declared.labels.Labels.{Labels}

-- a path as it is: `/a/b`, and `/` for the root
abbrev pub path_data : PathValue → Data
path_data path = string (if is_root path then codes "/" else slashed path)

-- a name as it is, or null if there is none
abbrev pub name_or_null : Option (List ℕ) → Data
name_or_null None = null
name_or_null (Some name) = string name

-- the name of a session as it was given, or null if it has none
abbrev pub user_data : Labels → ℕ → Data
user_data labels session = name_or_null (name_in session labels)

-- a number, or null if there is none
abbrev pub number_or_null : Option ℕ → Data
number_or_null None = null
number_or_null (Some n) = number_data n
