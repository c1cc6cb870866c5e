-- A folder that is put at a path of trees: what is at or below that path is in the folder, and
-- nothing is said of all else, which is never looked at.
use Rattle.std.specs.Prelude.{Bool, false, List, ◌++◌, Option, Some, None, map}
use Rattle.retro_path.specs.Path.{PathValue, below}
use Rattle.casebook_folder.specs.Parts.{Parts}
use Rattle.casebook_folder.specs.Steps.{Contents, Step, step}
use Rattle.casebook_folder.specs.declared.found.Found.{Found}
use Rattle.casebook_folder.specs.declared.found.Found.TheVariants.{Missing}

abbrev pub found_by : Contents → Option PathValue → Found
found_by f (Some inside) = f inside
found_by f None = Missing

abbrev pub placed : PathValue → Contents → Contents
placed at f q = found_by f (below at q)

abbrev pub part_by : Parts → Option PathValue → Bool
part_by parts (Some inside) = parts inside
part_by parts None = false

-- beside which paths of the trees a part of a new node lies
abbrev pub placed_parts : PathValue → Parts → Parts
placed_parts at parts q = part_by parts (below at q)

-- a step of the folder, by its path in the trees
abbrev pub moved : PathValue → Step → Step
moved at s = step (at ++ s.path) s.before s.found

abbrev pub moved_steps : PathValue → List Step → List Step
moved_steps at steps = map (moved at) steps
