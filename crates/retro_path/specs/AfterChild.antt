-- The least path after a child of a path and everything below the child.
use Rattle.std.specs.Prelude.{ℕ, List, [], ◌∷◌, ◌++◌, if◌then◌else◌, Option, Some, None}
use Rattle.retro_path.specs.Ascii.{nul}
use Rattle.retro_path.specs.Name.{is_name}
use Rattle.retro_path.specs.Path.{PathValue, below}

-- the least text after a text: NUL is the least byte
abbrev pub next_text : List ℕ → List ℕ
next_text text = text ++ nul ∷ []

-- the path of the least name after a child's, by the names that follow the parent in a path below
-- the child; None for other paths, and if the child's name is too long to be followed by NUL
abbrev pub after_names : PathValue → Option PathValue → Option PathValue
after_names p None = None
after_names p (Some []) = None
after_names p (Some (name ∷ [])) = None
after_names p (Some (name ∷ other ∷ rest)) =
    if is_name (next_text name) then Some (p ++ next_text name ∷ []) else None

-- the least path after the child of p that q is below
abbrev pub after_child : PathValue → PathValue → Option PathValue
after_child p q = after_names p (below p q)
