-- Paths as documents write them: `/a/b`, and `/` for the root.
use Rattle.std.specs.Prelude.{◌==◌, List, [], ◌∷◌, length, Bool, not, ◌&&◌, ◌||◌, Option, Some, None, Result, Ok}
use Rattle.std.specs.Prelude.{nat_le, bytes_eq, codes, if◌then◌else◌, ok_or}
use Rattle.std.specs.List.{list_all, list_any, slice_split}
use Rattle.serde_json.specs.Data.{Data}
use Rattle.retro_tree.specs.Name.{name_limit}
use Rattle.retro_tree.specs.Path.{PathValue}
use Rattle.retro_json.specs.declared.reading.path.TheConstants.{SLASH, NUL}
use Rattle.retro_json.specs.declared.fault.Part.{Part}
use Rattle.retro_json.specs.declared.fault.Refusal.{Refusal}
use Rattle.retro_json.specs.declared.fault.Refusal.TheVariants.{WrongShape, OverLimit}
use Rattle.retro_json.specs.Steps.{◌>>=◌, guard}
use Rattle.retro_json.specs.Shape.{Text, text_in}

-- a name as it may be written: not empty, neither `.` nor `..`, without slash and NUL
unfoldable pub is_written_name : Text → Bool
is_written_name name =
    not (length name == 0)
    && not (bytes_eq name (codes ".") || bytes_eq name (codes ".."))
    && not (list_any (λ b. b == SLASH) name)
    && not (list_any (λ b. b == NUL) name)

-- the texts after the first slash: an empty one alone is the root's, which has no names
abbrev pub names_after : Text → List Text → List Text
names_after part parts = if length part == 0 && length parts == 0 then [] else part ∷ parts

-- the names of a path, from the texts before, between and after its slashes; None if the text
-- doesn't begin with a slash
abbrev pub names_of_parts : List Text → Option (List Text)
names_of_parts [] = None
names_of_parts (front ∷ []) = None
names_of_parts (front ∷ part ∷ parts) = if length front == 0 then Some (names_after part parts) else None

unfoldable pub names_in : Text → Option (List Text)
names_in text = names_of_parts (slice_split (λ b. b == SLASH) text)

abbrev pub is_short_name : Text → Bool
is_short_name name = nat_le (length name) name_limit

-- the path of these names, or the first refusal: a text that may not be written as a name, and then
-- a name that is too long
unfoldable pub path_of : Part → List Text → Result PathValue Refusal
path_of part names = do
  written ← guard (list_all is_written_name names) (WrongShape part)
  short ← guard (list_all is_short_name names) OverLimit
  Ok names

-- the path that a text names
unfoldable pub path_in : Part → Data → Result PathValue Refusal
path_in part d = do
  text ← text_in part d
  names ← ok_or (names_in text) (WrongShape part)
  path_of part names
