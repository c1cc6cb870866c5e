-- Steps of the calls that go through sights.
use Rattle.std.specs.Prelude.{Bool, true, false, List, [], ◌∷◌}
use Rattle.retro_path.specs.Path.{PathValue}

-- a path, if a test of it is true
abbrev pub path_if : PathValue → Bool → List PathValue
path_if p true = p ∷ []
path_if p false = []
