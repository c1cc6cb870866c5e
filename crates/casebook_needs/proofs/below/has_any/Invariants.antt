-- Whether one of the paths that are left is in the set, as one of all is.
use Rattle.std.proofs.Common.{◌≡◌, drop}
use Rattle.std.specs.BTreeSet.{contains}
use Rattle.std.specs.List.{list_any}
use Rattle.retro_path.specs.Order.{path_cmp}
use Rattle.casebook_needs.proofs.below.has_any.Given as goal

abbrev pub invariant-loop-path : goal.invariant-loop-path
invariant-loop-path l =
    list_any (contains path_cmp l.set) (drop l.path-index l.paths)
    ≡ list_any (contains path_cmp l.set) l.paths
