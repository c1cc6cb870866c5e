-- A folder in memory: what its entries and its steps say.
use Rattle.std.specs.Prelude.{ℕ, Bool, false, not, ◌&&◌, List, [], ◌∷◌, if◌then◌else◌, Option, Some}
use Rattle.std.specs.Prelude.{None}
use Rattle.std.specs.BTreeMap.{is_at}
use Rattle.std.specs.List.{list_any}
use Rattle.retro_path.specs.Order.{path_cmp, path_eq, text_eq}
use Rattle.retro_path.specs.Path.{PathValue, child_name}
use Rattle.casebook_folder.specs.Found.{is_missing}
use Rattle.casebook_folder.specs.Steps.{Contents, Step}
use Rattle.casebook_folder.specs.declared.memory.Entry.{Entry}
use Rattle.casebook_folder.specs.declared.made_step.MadeStep.{MadeStep}
use Rattle.casebook_folder.specs.declared.found.Found.{Found}
use Rattle.casebook_folder.specs.declared.found.Found.TheVariants.{Missing}

-- what is at each path, where the first entry of a path counts
abbrev pub contents_of : List Entry → Contents
contents_of [] q = Missing
contents_of (e ∷ es) q = if path_eq e.path q then e.found else contents_of es q

-- what a path holds after steps, by what it held before
abbrev pub at_after : List Step → PathValue → Found → Found
at_after [] q x = x
at_after (s ∷ ss) q x = at_after ss q (if path_eq s.path q then s.found else x)

-- whether a node is there and its name isn't among some names, where it has a name
abbrev pub is_other_name : Found → List (List ℕ) → Option (List ℕ) → Bool
is_other_name x names None = false
is_other_name x names (Some name) = not (list_any (text_eq name) names) && not (is_missing x)

-- whether a path is that of a child of a directory that exists and isn't among some names
abbrev pub is_other : Contents → PathValue → List (List ℕ) → PathValue → Bool
is_other f p names q = is_other_name (f q) names (child_name p q)

-- whether a set of paths, given by its keys, has a path
abbrev pub has_path : PathValue → List PathValue → Bool
has_path q paths = list_any (is_at (path_cmp q)) paths

abbrev pub entry_path : Entry → PathValue
entry_path e = e.path

abbrev pub made_path : MadeStep → PathValue
made_path s = s.path
