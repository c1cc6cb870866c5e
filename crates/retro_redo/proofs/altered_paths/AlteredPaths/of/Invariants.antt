use Rattle.std.proofs.Common.{◌≡◌, ◌||◌, drop}
use Rattle.retro_tree.specs.Path.{PathValue}
use Rattle.retro_redo.specs.inner.Altered.{altered_paths, has_path}
use Rattle.retro_redo.proofs.altered_paths.AlteredPaths.of.Given as goal

abbrev pub invariant-loop-i : goal.invariant-loop-i
invariant-loop-i l =
    (p : PathValue) → (has_path p l.altered || has_path p (altered_paths (drop l.i l.lines) (drop l.i l.choices)))
    ≡ has_path p (altered_paths l.lines l.choices)
