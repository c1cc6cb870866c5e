-- The paths that are left lead to what all lead to.
use Rattle.std.proofs.Common.{◌≡◌, drop}
use Rattle.casebook_import.specs.First.{with_directories}
use Rattle.casebook_import.proofs.first_state.make_directories.Given as goal

abbrev pub invariant-loop-path : goal.invariant-loop-path
invariant-loop-path l =
    with_directories (drop l.path-index l.paths) l.state ≡ with_directories l.paths l.fn.state
