-- The paths so far, and those that are left.
use Rattle.std.proofs.Common.{◌≡◌, ◌||◌, drop}
use Rattle.std.specs.List.{list_any}
use Rattle.retro_tree.specs.Path.{PathValue}
use Rattle.casebook_compare.specs.Coverage.{is_listed, is_skipped_as}
use Rattle.casebook_compare.specs.inner.PathSets.{has_path}
use Rattle.casebook_compare.proofs.coverage.skipped_paths.Given as goal

abbrev pub invariant-loop-one : goal.invariant-loop-one
invariant-loop-one l =
    (p : PathValue) → (has_path p l.paths.keys || list_any (is_skipped_as p) (drop l.one-index l.skipped))
    ≡ is_listed l.skipped p
