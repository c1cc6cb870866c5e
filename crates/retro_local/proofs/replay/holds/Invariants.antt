-- The notes so far are in the overlay, and the others decide.
use Rattle.std.proofs.Common.{◌↔◌, drop}
use Rattle.retro_tree.specs.Notes.{Holds}
use Rattle.retro_tree.specs.Overlay.{Overlays}
use Rattle.retro_tree.specs.Commit.{committed}
use Rattle.retro_local.proofs.replay.holds.Given as goal

abbrev pub invariant-loop-note : goal.invariant-loop-note
invariant-loop-note g l = record {
  overlays : Overlays l.overlay (g.V.View.state l.view) (committed l.overlay (g.V.View.state l.view));
  rest : Holds (drop l.note-index l.notes) (committed l.overlay (g.V.View.state l.view))
      ↔ Holds l.notes (g.V.View.state l.view);
}
