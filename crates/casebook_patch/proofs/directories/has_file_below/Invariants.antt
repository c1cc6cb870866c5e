use Rattle.std.proofs.Common.{◌≡◌}
use Rattle.std.specs.List.{list_any}
use Rattle.std.specs.FinMap as map_of
use Rattle.casebook_patch.specs.Directories.{is_file_below}
use Rattle.casebook_patch.proofs.directories.has_file_below.Given as goal

abbrev pub invariant-loop-at : goal.invariant-loop-at
invariant-loop-at l =
    list_any (is_file_below l.path) l.at-iterator ≡ list_any (is_file_below l.path) (map_of.entries l.tree)
