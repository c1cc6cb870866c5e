-- The directories that a patch doesn't make or remove. Programs that apply a patch make directories
-- for its files, and remove those whose last file goes.
use Rattle.std.specs.Prelude.{Bool, true, false, not, ◌&&◌, List, is_some, map}
use Rattle.std.specs.List.{filter, list_any}
use Rattle.std.specs.FinMap as map_of
use Rattle.retro_path.specs.Path.{PathValue, below, is_root}
use Rattle.retro_tree.specs.Node.{is_dir, is_present}
use Rattle.retro_tree.specs.Tree.{Tree, node_in}
use Rattle.retro_tree.specs.declared.entry.Entry.{Entry}
use Rattle.retro_tree.specs.declared.entry.Entry.TheVariants.{Dir, File}

abbrev pub is_file : Entry → Bool
is_file Dir = false
is_file (File bytes) = true

abbrev pub is_file_below : PathValue → PathValue × Entry → Bool
is_file_below path e = is_file e.1 && is_some (below path e.0)

-- whether a path is a directory without a file below it
unfoldable pub is_bare : Tree → PathValue → Bool
is_bare tree path =
    is_dir (node_in path tree) && not (list_any (is_file_below path) (map_of.entries tree))

abbrev pub paths_of : Tree → List PathValue
paths_of tree = map (λ e. e.0) (map_of.entries tree)

-- A patch doesn't make a directory that has no files, and removes one that has none any more, but
-- for the root.
abbrev pub is_unmade : Tree → Tree → PathValue → Bool
is_unmade before after path = not (is_root path) && is_bare after path && not (is_bare before path)

-- A patch doesn't remove a directory that had no files.
abbrev pub is_unremoved : Tree → Tree → PathValue → Bool
is_unremoved before after path = is_bare before path && not (is_present (node_in path after))

abbrev pub unmade_directories : Tree → Tree → List PathValue
unmade_directories before after = filter (is_unmade before after) (paths_of after)

abbrev pub unremoved_directories : Tree → Tree → List PathValue
unremoved_directories before after = filter (is_unremoved before after) (paths_of before)
