-- The text of a path.
use Rattle.std.specs.Prelude.{ℕ, List, ◌∷◌, flat_map}
use Rattle.retro_path.specs.Ascii.{slash}
use Rattle.retro_path.specs.Path.{PathValue}

-- a slash before each name, and nothing for the root
abbrev pub slashed : PathValue → List ℕ
slashed names = flat_map (λ name. slash ∷ name) names
