-- The paths of which a snapshot tells what a folder holds there.
use Rattle.std.specs.Prelude.{Bool, false, not, ◌&&◌, List, is_some}
use Rattle.std.specs.List.{list_any}
use Rattle.retro_path.specs.Order.{path_eq}
use Rattle.retro_path.specs.Path.{PathValue, below, prefixes_of}
use Rattle.casebook_snapshot.specs.Children.{child_path}
use Rattle.casebook_snapshot.specs.declared.child.ChildPath.{ChildPath}
use Rattle.casebook_snapshot.specs.declared.child.ChildPath.TheVariants.{Is, Never}
use Rattle.casebook_snapshot.specs.declared.snapshot.SkippedPath.{SkippedPath}

-- a name that no path has is at none
abbrev pub is_at_path : PathValue → ChildPath → Bool
is_at_path p (Is q) = path_eq p q
is_at_path p (Never r) = false

abbrev pub is_skipped_as : PathValue → SkippedPath → Bool
is_skipped_as p s = is_at_path p (child_path s.child)

-- whether a path is one of those that are skipped
abbrev pub is_listed : List SkippedPath → PathValue → Bool
is_listed skipped p = list_any (is_skipped_as p) skipped

-- Whether a snapshot of a folder, which is put at a path, tells what is there: the path is the
-- folder's or below it, and neither it nor a directory above it is skipped.
abbrev pub is_covered : PathValue → List SkippedPath → PathValue → Bool
is_covered at skipped q = is_some (below at q) && not (list_any (is_listed skipped) (prefixes_of q))
