-- Paths, as sets have them.
use Rattle.std.specs.Prelude.{Bool, List}
use Rattle.std.specs.BTreeMap.{is_at}
use Rattle.std.specs.List.{list_any}
use Rattle.retro_tree.specs.Order.{path_cmp}
use Rattle.retro_tree.specs.Path.{PathValue}

-- whether a set has a path
abbrev pub has_path : PathValue → List PathValue → Bool
has_path p paths = list_any (is_at (path_cmp p)) paths
