use Rattle.std.proofs.Common.{◌≡◌, ◌-◌, ℕ, length}
use Rattle.retro_keep.specs.Edit.{edit_of}
use Rattle.retro_redo.specs.Progress.{AreTakenNow, edit_in}
use Rattle.retro_redo.proofs.repairing.settle_all.Given as goal

abbrev pub invariant-loop-repairer : goal.invariant-loop-repairer
invariant-loop-repairer g l = record {
  recording : l.repairer.recording ≡ l.recording;
  edits : (n : ℕ) → edit_in l.repairer n ≡ edit_of l.edits n;
  met : AreTakenNow l.repairer;
}

abbrev pub decreases-loop-repairer : goal.decreases-loop-repairer
decreases-loop-repairer g l = length l.repairer.recording.lines - length l.repairer.choices
