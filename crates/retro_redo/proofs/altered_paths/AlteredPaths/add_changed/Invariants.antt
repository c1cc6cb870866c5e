use Rattle.std.proofs.Common.{◌≡◌, ◌||◌, drop}
use Rattle.retro_tree.specs.Path.{PathValue}
use Rattle.retro_redo.specs.inner.Altered.{changed_paths, has_path}
use Rattle.retro_redo.proofs.altered_paths.AlteredPaths.add_changed.Given as goal

abbrev pub invariant-loop-note : goal.invariant-loop-note
invariant-loop-note l =
    (p : PathValue) → (has_path p l.self || has_path p (changed_paths (drop l.note-index l.notes)))
    ≡ (has_path p l.fn.self || has_path p (changed_paths l.notes))
