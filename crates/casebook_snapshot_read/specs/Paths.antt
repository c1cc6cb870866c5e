-- Paths in documents, and names that are skipped. A name that is skipped may be longer than the
-- names of a path.
use Rattle.std.specs.Prelude.{ℕ, List, Option, Some, None, if◌then◌else◌, option_and_then}
use Rattle.std.specs.Result.{result_ok}
use Rattle.serde_json.specs.Data.{Data}
use Rattle.serde_json.specs.Find.{as_str}
use Rattle.retro_path.specs.Path.{PathValue, last_of, parent_of}
use Rattle.retro_json.specs.PathText.{is_written_name, names_in, path_of}
use Rattle.retro_json.specs.declared.fault.Part.TheVariants.{Tree}
use Rattle.casebook_snapshot.specs.declared.child.Child.{Child}

-- the path of some names, as trees of scripts have it
abbrev pub path_named : List (List ℕ) → Option PathValue
path_named names = result_ok (path_of Tree names)

abbrev pub path_of_text : List ℕ → Option PathValue
path_of_text text = option_and_then path_named (names_in text)

abbrev pub path_in : Data → Option PathValue
path_in d = option_and_then path_of_text (as_str d)

-- ---- a directory and a name in it

abbrev pub ChildValue : Type 0
ChildValue = PathValue × List ℕ

abbrev pub child_view : Child → ChildValue
child_view c = (c.parent, c.name.items)

abbrev pub child_in : Option PathValue → List ℕ → Option ChildValue
child_in None name = None
child_in (Some parent) name = Some (parent, name)

abbrev pub child_named : List (List ℕ) → List ℕ → Option ChildValue
child_named front name = if is_written_name name then child_in (path_named front) name else None

-- by the last name, if there is one
abbrev pub child_by : PathValue → Option (List ℕ) → Option ChildValue
child_by front None = None
child_by front (Some name) = child_named front name

abbrev pub child_of_names : List (List ℕ) → Option ChildValue
child_of_names names = child_by (parent_of names) (last_of names)

abbrev pub child_of_text : List ℕ → Option ChildValue
child_of_text text = option_and_then child_of_names (names_in text)
