use Rattle.std.proofs.Common.{◌≡◌, ◌++◌, map}
use Rattle.std.specs.List.{filter}
use Rattle.casebook_patch.specs.Directories.{is_unmade, unmade_directories}
use Rattle.casebook_patch.proofs.directories.unmade_directories.Given as goal

abbrev pub invariant-loop-path : goal.invariant-loop-path
invariant-loop-path l =
    l.paths.items ++ filter (is_unmade l.before l.after) (map (λ e. e.0) l.path-iterator) ≡ unmade_directories l.before l.after
