-- Which paths a repair alters, and which kept lines change a path near one of them.
use Rattle.std.specs.Prelude.{ℕ, Bool, ◌||◌, List, [], ◌++◌, Option, None, is_some}
use Rattle.std.specs.List.{filter_map, list_any}
use Rattle.std.specs.BTreeMap.{is_at}
use Rattle.retro_tree.specs.Order.{path_cmp}
use Rattle.retro_tree.specs.CellRef.{path_in}
use Rattle.retro_tree.specs.Change.{cell_of}
use Rattle.retro_tree.specs.Path.{PathValue, below, parent_of}
use Rattle.retro_tree.specs.declared.note.Note.{Note}
use Rattle.retro_tree.specs.declared.note.Note.TheVariants.{Made}
use Rattle.retro_keep.specs.declared.noted.Noted.{Noted}
use Rattle.retro_redo.specs.Progress.{by_choices}
use Rattle.retro_redo.specs.declared.step.Step.{Step}
use Rattle.retro_redo.specs.declared.step.Step.TheVariants.{Cancel, Keep, Take}

-- the path whose node a note changes
abbrev pub changed_path : Note → Option PathValue
changed_path (Made change) = path_in (cell_of change)
changed_path _ = None

-- the paths whose nodes notes change
abbrev pub changed_paths : List Note → List PathValue
changed_paths = filter_map changed_path

-- whether a list has a path
abbrev pub has_path : PathValue → List PathValue → Bool
has_path p paths = list_any (is_at (path_cmp p)) paths

-- Whether a path is near some paths: they have it, its parent or a path below it.
abbrev pub is_near : List PathValue → PathValue → Bool
is_near paths p = has_path (parent_of p) paths || list_any (λ q. is_some (below p q)) paths

-- ---- the lines as chosen

-- the paths that a line changes if it isn't kept: by its recorded notes, and by those of its new
-- run
abbrev pub altered_by : ℕ × Noted → Step → List PathValue
altered_by l Cancel = changed_paths l.1.notes
altered_by l Keep = []
altered_by l (Take run) = changed_paths l.1.notes ++ changed_paths run.notes

-- the paths that a line changes if it is kept
abbrev pub kept_by : ℕ × Noted → Step → List PathValue
kept_by l Cancel = []
kept_by l Keep = changed_paths l.1.notes
kept_by l (Take run) = []

abbrev pub altered_paths : List (ℕ × Noted) → List Step → List PathValue
altered_paths = by_choices altered_by

abbrev pub kept_paths : List (ℕ × Noted) → List Step → List PathValue
kept_paths = by_choices kept_by

-- whether a kept line changes a path near an altered one
abbrev pub keeps_near : List (ℕ × Noted) → List Step → Bool
keeps_near lines steps = list_any (is_near (altered_paths lines steps)) (kept_paths lines steps)
