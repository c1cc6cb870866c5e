-- Paths as scripts write them.
use Rattle.std.specs.Prelude.{ℕ, List, Option, option_and_then}
use Rattle.std.specs.Result.{result_ok}
use Rattle.retro_path.specs.Path.{PathValue}
use Rattle.retro_json.specs.PathText.{names_in, path_of}
use Rattle.retro_json.specs.declared.fault.Part.TheVariants.{Sessions}

-- the path of some names, if a script may have it
abbrev pub path_named : List (List ℕ) → Option PathValue
path_named names = result_ok (path_of Sessions names)

-- the path that a text names: `/a/b`, and `/` for the root
abbrev pub path_of_text : List ℕ → Option PathValue
path_of_text text = option_and_then path_named (names_in text)
