-- Which of the paths in which a tree differs from its repair are restored in a folder.
use Rattle.std.specs.Prelude.{Bool, true, false, not, ◌&&◌, ◌||◌, List, [], ◌∷◌, Option, Some, None, is_some}
use Rattle.std.specs.List.{list_any}
use Rattle.retro_path.specs.Path.{PathValue, below}
use Rattle.retro_tree.specs.Node.{is_dir}
use Rattle.retro_tree.specs.declared.node.Node.{Node}
use Rattle.retro_tree.specs.declared.node.Node.TheVariants.{Missing, Dir, File}
use Rattle.retro_tree.specs.Tree.{Tree, node_in}
use Rattle.casebook_changes.specs.declared.changed_path.ChangedPath.{ChangedPath}
use Rattle.casebook_opaque.specs.Opaque.{is_opaque}
use Rattle.casebook_restore.specs.declared.task.UnkeptPath.{UnkeptPath}

abbrev pub has_names : Option PathValue → Bool
has_names None = false
has_names (Some []) = false
has_names (Some (n ∷ ns)) = true

-- Whether a path is below that of the folder. The folder itself is never made, removed or changed.
abbrev pub is_inside : PathValue → PathValue → Bool
is_inside at q = has_names (below at q)

-- A given path chooses itself, what is below it, and the directories of the repaired tree that it
-- is in, as they may have to be made for it.
abbrev pub chooses : Tree → PathValue → PathValue → Bool
chooses repaired q given =
    is_some (below given q) || (is_some (below q given) && is_dir (node_in q repaired))

-- whether a path is chosen: every path is, unless some are given
abbrev pub is_chosen : Tree → List PathValue → PathValue → Bool
is_chosen repaired [] q = true
is_chosen repaired (p ∷ ps) q = list_any (chooses repaired q) (p ∷ ps)

-- whether a path is to be restored if the trees differ there
abbrev pub is_asked : Tree → PathValue → List PathValue → PathValue → Bool
is_asked repaired at only q = is_inside at q && is_chosen repaired only q

abbrev pub is_opaque_node : Node → Bool
is_opaque_node Missing = false
is_opaque_node Dir = false
is_opaque_node (File bytes) = is_opaque bytes

-- whether a tree has at a path what stands for something that isn't kept
abbrev pub is_unkept : Tree → PathValue → Bool
is_unkept repaired q = is_opaque_node (node_in q repaired)

-- whether it can be: what is repaired there is kept
abbrev pub is_wanted : Tree → PathValue → List PathValue → PathValue → Bool
is_wanted repaired at only q = is_asked repaired at only q && not (is_unkept repaired q)

-- whether it can't be
abbrev pub is_missed : Tree → PathValue → List PathValue → ChangedPath → Bool
is_missed repaired at only c = is_asked repaired at only c.path && is_unkept repaired c.path

-- a path with what is repaired there
abbrev pub unkept_at : Tree → ChangedPath → UnkeptPath
unkept_at repaired c = record { path = c.path; node = node_in c.path repaired }

-- ---- what is counted

abbrev pub is_outside : PathValue → ChangedPath → Bool
is_outside at c = not (is_inside at c.path)

abbrev pub is_left_out : Tree → PathValue → List PathValue → ChangedPath → Bool
is_left_out repaired at only c = is_inside at c.path && not (is_chosen repaired only c.path)
