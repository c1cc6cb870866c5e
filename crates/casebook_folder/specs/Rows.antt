-- The rows of a plan, and the steps that carry it out: first what goes or changes its kind is
-- removed, from the last row on, and then what is new is written, from the first row on.
use Rattle.std.specs.Prelude.{◌≡◌, Bool, ◌||◌, List, [], ◌∷◌, ◌++◌, map, if◌then◌else◌, Option}
use Rattle.std.specs.Prelude.{Some, None}
use Rattle.std.specs.List.Sorted.{IsStrictlySortedBy}
use Rattle.retro_path.specs.Order.{path_cmp, path_eq}
use Rattle.retro_path.specs.Path.{PathValue}
use Rattle.casebook_folder.specs.Found.{is_missing, changes_kind}
use Rattle.casebook_folder.specs.Steps.{Step, step}
use Rattle.casebook_folder.specs.declared.row.Row.{Row}
use Rattle.casebook_folder.specs.declared.found.Found.{Found}
use Rattle.casebook_folder.specs.declared.found.Found.TheVariants.{Missing}

-- whether what is at the row's path is removed
abbrev pub clears : Row → Bool
clears r = is_missing r.after || changes_kind r.before r.after

abbrev pub removal : Row → List Step
removal r = if clears r then step r.path r.before Missing ∷ [] else []

-- what is at the row's path once everything is removed
abbrev pub left_at : Row → Found
left_at r = if clears r then Missing else r.before

abbrev pub writing : Row → List Step
writing r = if is_missing r.after then [] else step r.path (left_at r) r.after ∷ []

abbrev pub removals : List Row → List Step
removals [] = []
removals (r ∷ rs) = removals rs ++ removal r

abbrev pub writings : List Row → List Step
writings [] = []
writings (r ∷ rs) = writing r ++ writings rs

-- all steps of rows, in order
abbrev pub steps_of : List Row → List Step
steps_of rows = removals rows ++ writings rows

-- the row of a path, or None if no row is of it
abbrev pub row_at : PathValue → List Row → Option Row
row_at q [] = None
row_at q (r ∷ rs) = if path_eq r.path q then Some r else row_at q rs

-- no path has two rows
abbrev pub AreDistinct : List Row → Type 0
AreDistinct [] = Unit {0}
AreDistinct (r ∷ rs) = (row_at r.path rs ≡ None) × AreDistinct rs

abbrev pub path_of : Row → PathValue
path_of r = r.path

-- the rows are in order of their paths, and no path has two
abbrev pub AreInOrder : List Row → Type 0
AreInOrder rows = IsStrictlySortedBy path_cmp (map path_of rows)
