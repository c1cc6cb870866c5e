use Rattle.std.proofs.Common.{◌≡◌, drop}
use Rattle.std.specs.List.{list_any}
use Rattle.retro_redo.specs.inner.Altered.{changed_paths, is_near}
use Rattle.retro_redo.proofs.altered_paths.AlteredPaths.is_any_near.Given as goal

abbrev pub invariant-loop-note : goal.invariant-loop-note
invariant-loop-note l =
    list_any (is_near l.self) (changed_paths (drop l.note-index l.notes))
    ≡ list_any (is_near l.self) (changed_paths l.notes)
