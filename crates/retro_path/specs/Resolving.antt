-- The path that a text names from a directory. Only the text counts, not which files exist, unlike
-- POSIX.1-2017 XBD 4.13.
use Rattle.std.specs.Prelude.{ℕ, ◌==◌, Bool, false, not, ◌&&◌, nat_lt, if◌then◌else◌, List, [], ◌∷◌, ◌++◌, length}
use Rattle.std.specs.Prelude.{codes}
use Rattle.std.specs.List.{list_any, slice_split}
use Rattle.retro_path.specs.Ascii.{slash}
use Rattle.retro_path.specs.Order.{text_eq}
use Rattle.retro_path.specs.Name.{is_name, name_limit}
use Rattle.retro_path.specs.Path.{PathValue, parent_of}
use Rattle.retro_path.specs.declared.resolving.Resolved.{Resolved}
use Rattle.retro_path.specs.declared.resolving.Resolved.TheVariants.{Is, Empty, LongName}

-- the parts of a text between its slashes
unfoldable pub parts_of : List ℕ → List (List ℕ)
parts_of text = slice_split (λ b. b == slash) text

-- a name is appended, two dots remove the last name, and an empty part and a dot change nothing
unfoldable pub step : PathValue → List ℕ → PathValue
step at part =
    if text_eq part (codes "..") then parent_of at
    else if is_name part then at ++ part ∷ []
    else at

-- the path after all parts
abbrev pub walk : PathValue → List (List ℕ) → PathValue
walk at [] = at
walk at (part ∷ parts) = walk (step at part) parts

-- whether a part exceeds the maximum length of a name
abbrev pub is_long : List ℕ → Bool
is_long part = nat_lt name_limit (length part)

-- resolution starts at the root if the text begins with a slash, else at the directory
abbrev pub start_of : PathValue → List ℕ → PathValue
start_of cwd [] = cwd
start_of cwd (b ∷ text) = if b == slash then [] else cwd

-- a part that is too long gives LongName, even if a later part removes it
abbrev pub resolve_parts : PathValue → List (List ℕ) → Resolved
resolve_parts at parts = if list_any is_long parts then LongName else Is (walk at parts)

-- what a text resolves to
abbrev pub resolve : PathValue → List ℕ → Resolved
resolve cwd [] = Empty
resolve cwd (b ∷ text) = resolve_parts (start_of cwd (b ∷ text)) (parts_of (b ∷ text))

-- whether the path that a text names depends on the directory: not if the text is empty, begins
-- with a slash, or has a part that is too long
unfoldable pub is_relative : List ℕ → Bool
is_relative [] = false
is_relative (b ∷ text) = not (b == slash) && not (list_any is_long (parts_of (b ∷ text)))
