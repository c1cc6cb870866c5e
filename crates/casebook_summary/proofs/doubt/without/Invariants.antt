-- The paths so far, without those of the restorations that are left.
use Rattle.std.proofs.Common.{◌≡◌, ◌&&◌, drop, map, not}
use Rattle.retro_tree.specs.Path.{PathValue}
use Rattle.casebook_summary.specs.Doubts.{is_named}
use Rattle.casebook_summary.specs.Restorations.{restored_path}
use Rattle.casebook_summary.specs.inner.PathSets.{has_path}
use Rattle.casebook_summary.proofs.doubt.without.Given as goal

abbrev pub invariant-loop-restoration : goal.invariant-loop-restoration
invariant-loop-restoration l =
    (p : PathValue) → (has_path p l.paths.paths.keys && not (is_named p (map restored_path (drop l.restoration-index l.restorations))))
    ≡ (has_path p l.fn.paths.paths.keys && not (is_named p (map restored_path l.restorations)))
