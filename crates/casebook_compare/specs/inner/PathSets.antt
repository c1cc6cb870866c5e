-- Sets of paths, by their lists of keys.
use Rattle.std.specs.Prelude.{Bool, not, ◌&&◌, List, is_some}
use Rattle.std.specs.List.{list_any}
use Rattle.std.specs.BTreeMap.{is_at}
use Rattle.retro_path.specs.Order.{path_cmp}
use Rattle.retro_path.specs.Path.{PathValue, below, prefixes_of}

-- whether a set has a path
abbrev pub has_path : PathValue → List PathValue → Bool
has_path p paths = list_any (is_at (path_cmp p)) paths

-- whether a path is at or below one path, and at or below none of a set
abbrev pub is_covered_by : PathValue → List PathValue → PathValue → Bool
is_covered_by at paths q =
    is_some (below at q) && not (list_any (λ p. has_path p paths) (prefixes_of q))
