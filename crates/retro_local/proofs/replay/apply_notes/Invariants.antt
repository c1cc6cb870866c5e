-- The changes so far are in the overlay, and the others are still to make.
use Rattle.std.proofs.Common.{◌≡◌, drop}
use Rattle.retro_tree.specs.Notes.{after}
use Rattle.retro_tree.specs.Overlay.{Overlays}
use Rattle.retro_tree.specs.Commit.{committed}
use Rattle.retro_local.proofs.replay.apply_notes.Given as goal

abbrev pub invariant-loop-note : goal.invariant-loop-note
invariant-loop-note l = record {
  overlays : Overlays l.overlay l.state (committed l.overlay l.state);
  rest : after (drop l.note-index l.notes) (committed l.overlay l.state) ≡ after l.notes l.state;
}
