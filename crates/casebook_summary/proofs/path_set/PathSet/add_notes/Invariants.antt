-- The paths so far, and those of the notes that are left.
use Rattle.std.proofs.Common.{◌≡◌, ◌||◌, drop}
use Rattle.std.specs.List.{list_any}
use Rattle.retro_tree.specs.Path.{PathValue}
use Rattle.casebook_summary.specs.Doubts.{writes_to}
use Rattle.casebook_summary.specs.inner.PathSets.{has_path}
use Rattle.casebook_summary.proofs.path_set.PathSet.add_notes.Given as goal

abbrev pub invariant-loop-note : goal.invariant-loop-note
invariant-loop-note l =
    (p : PathValue) → (has_path p l.self.paths.keys || list_any (writes_to p) (drop l.note-index l.notes))
    ≡ (has_path p l.fn.self.paths.keys || list_any (writes_to p) l.notes)
