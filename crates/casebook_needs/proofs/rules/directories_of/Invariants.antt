-- The directories so far, and those among the paths that are left.
use Rattle.std.proofs.Common.{◌≡◌, ◌++◌, drop}
use Rattle.std.specs.List.{filter}
use Rattle.casebook_needs.specs.Needs.{is_directory}
use Rattle.casebook_needs.proofs.rules.directories_of.Given as goal

abbrev pub invariant-loop-path : goal.invariant-loop-path
invariant-loop-path g l =
    l.directories.items ++ filter (is_directory (g.V.View.state l.view)) (drop l.path-index l.paths)
    ≡ filter (is_directory (g.V.View.state l.view)) l.paths
