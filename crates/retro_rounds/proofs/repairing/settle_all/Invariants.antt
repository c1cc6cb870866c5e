use Rattle.std.proofs.Common.{◌≡◌, ◌-◌, ℕ, length}
use Rattle.retro_keep.specs.Edit.{edit_of}
use Rattle.retro_redo.specs.Progress.{AreTakenNow, edit_in}
use Rattle.retro_rounds.proofs.Turns.{AreUnderway}
use Rattle.retro_rounds.proofs.repairing.settle_all.Given as goal

abbrev pub invariant-loop-rounds : goal.invariant-loop-rounds
invariant-loop-rounds g l = record {
  recording : l.repairer.recording ≡ l.request.recording.now;
  edits : (n : ℕ) → edit_in l.repairer n ≡ edit_of l.request.edits.now n;
  met : AreTakenNow l.repairer;
  underway : AreUnderway l.request.cuts.now l.repairer l.rounds;
}

abbrev pub decreases-loop-rounds : goal.decreases-loop-rounds
decreases-loop-rounds g l = length l.repairer.recording.lines - length l.repairer.choices
