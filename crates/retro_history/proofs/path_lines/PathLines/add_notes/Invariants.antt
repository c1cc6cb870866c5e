use Rattle.std.proofs.Common.{◌≡◌, drop}
use Rattle.retro_history.specs.inner.IndexSteps.{listed_noted}
use Rattle.retro_history.proofs.path_lines.PathLines.add_notes.Given as goal

abbrev pub invariant-loop-note : goal.invariant-loop-note
invariant-loop-note l =
    listed_noted l.number (drop l.note-index l.notes) l.self ≡ listed_noted l.number l.notes l.fn.self
