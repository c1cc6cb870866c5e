-- The changes so far are made, and the others are still to make.
use Rattle.std.proofs.Common.{◌≡◌, drop}
use Rattle.retro_tree.specs.Notes.{after}
use Rattle.retro_tree.specs.Overlay.{Fits}
use Rattle.retro_tree.specs.Commit.{committed}
use Rattle.retro_tree.specs.declared.state.State.{State}
use Rattle.casebook_stand_in.proofs.trial.make_changes.Given as goal

abbrev pub invariant-loop-note : goal.invariant-loop-note
invariant-loop-note l = record {
  fits : Fits l.cells;
  rest : (s : State) → after (drop l.note-index l.notes) (committed l.cells s)
      ≡ after l.notes (committed l.fn.cells s);
}
