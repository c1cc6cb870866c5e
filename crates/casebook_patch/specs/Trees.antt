-- The files in which two trees differ, and their changes.
use Rattle.std.specs.Prelude.{◌≡◌, ℕ, ◌==◌, Bool, not, ◌&&◌, ◌||◌, List, Option, Some, None}
use Rattle.std.specs.Prelude.{is_some, map}
use Rattle.std.specs.List.{All, filter, list_any}
use Rattle.retro_path.specs.Ascii.{nul}
use Rattle.retro_path.specs.Path.{PathValue}
use Rattle.retro_path.specs.Slashed.{slashed}
use Rattle.retro_tree.specs.Tree.{Tree, node_in}
use Rattle.retro_tree.specs.declared.node.Node.{Node}
use Rattle.retro_tree.specs.declared.node.Node.TheVariants.{Missing, Dir, File}
use Rattle.casebook_changes.specs.ChangedPaths.{AreChangedPaths, path_in}
use Rattle.casebook_changes.specs.declared.changed_path.ChangedPath.{ChangedPath}
use Rattle.casebook_patch.specs.Changes.{ChangeValue, IsChangeOf}

abbrev pub file_of : Node → Option (List ℕ)
file_of Missing = None
file_of Dir = None
file_of (File bytes) = Some bytes

-- the bytes of the file at a path, or None if no file is there
abbrev pub file_at : PathValue → Tree → Option (List ℕ)
file_at path tree = file_of (node_in path tree)

-- whether a patch can name a path: programs take a NUL for the end of a name
abbrev pub has_name : PathValue → Bool
has_name path = not (list_any (λ b. b == nul) (slashed path))

-- whether a path has a name, and a file in one tree at least
abbrev pub is_carried : Tree → Tree → PathValue → Bool
is_carried before after path =
    has_name path && (is_some (file_at path before) || is_some (file_at path after))

-- the paths of these that pass a test
abbrev pub paths_where : (PathValue → Bool) → List ChangedPath → List PathValue
paths_where test changed = map path_in (filter (λ c. test c.path) changed)

abbrev pub IsChangeBetween : Tree → Tree → ChangeValue → Type 0
IsChangeBetween before after c = IsChangeOf c.path (file_at c.path before) (file_at c.path after) c

-- The changes of exactly the files that differ between two trees and have a name, in order of
-- paths.
pub record AreChanges (before after : Tree) (changes : List ChangeValue) : Type 0 where
  pub changed : List ChangedPath
  pub are_changed : AreChangedPaths before after changed
  pub paths : map (λ c. c.path) changes ≡ paths_where (is_carried before after) changed
  pub each : All (IsChangeBetween before after) changes
