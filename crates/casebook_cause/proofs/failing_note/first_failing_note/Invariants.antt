-- The notes so far hold, and their changes are in the overlay.
use Rattle.retro_tree.specs.Overlay.{Overlays}
use Rattle.retro_tree.specs.Commit.{committed}
use Rattle.casebook_cause.proofs.Failing.{IsHeld}
use Rattle.casebook_cause.proofs.failing_note.first_failing_note.Given as goal

abbrev pub invariant-loop-index : goal.invariant-loop-index
invariant-loop-index g l = record {
  overlays : Overlays l.overlay (g.V.View.state l.view) (committed l.overlay (g.V.View.state l.view));
  held : IsHeld l.index l.notes (g.V.View.state l.view) (committed l.overlay (g.V.View.state l.view));
}
