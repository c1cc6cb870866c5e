-- What the choices for all lines give, for any recording: also for one whose notes aren't those of
-- running its lines.
use Rattle.std.specs.Prelude.{◌≡◌, ℕ, List, length, map, Option}
use Rattle.retro_keep.specs.Recording.{IsWellFormed, RecordingValue, output_in}
use Rattle.retro_keep.specs.declared.edit.Edit.{Edit}
use Rattle.retro_redo.specs.Progress.{AreLinesBy, AreTakenIfMet, Settles, lines_chosen, repaired_after, settled}
use Rattle.retro_redo.specs.Repair.{IsRunAgain, repaired_outputs, repaired_state}
use Rattle.retro_redo.specs.declared.repair.Repair.{Repair}
use Rattle.retro_redo.specs.declared.step.Step.{Step}

-- the lines as chosen, over the same first state, in a recording that begins at the same number
abbrev pub recording_chosen : RecordingValue → List Step → RecordingValue
recording_chosen r steps = record { first = r.first; from = r.from; lines = lines_chosen r.lines steps }

-- The repaired recording has the lines as chosen. State and outputs are those of its notes. Each
-- line has the verdict of its choice, and is said to be met if its text is replaced, or if nothing
-- edits it and it reads or writes a cell in which the recorded and the repaired state differ.
pub record IsByChoices (edit : ℕ → Option Edit) (r : RecordingValue) (steps : List Step) (repair : Repair)
    : Type 0 where
  pub recording_is : repair.recording ≡ recording_chosen r steps
  pub state_is : repaired_state repair ≡ repaired_after r.lines steps r.first
  pub outputs_are : repaired_outputs repair ≡ map output_in (lines_chosen r.lines steps)
  pub lines_are : AreLinesBy edit (settled r.lines steps r.first r.first) steps repair.lines.items

-- Each line has a choice that it allows. The repair is what the choices give, if the lines as
-- chosen make a recording. Otherwise all edited lines are run again. In both cases the repaired
-- recording begins at the same number.
pub record IsSettled (edit : ℕ → Option Edit) (r : RecordingValue) (steps : List Step) (repair : Repair)
    : Type 0 where
  pub settles : Settles edit r.lines steps r.first r.first
  pub all : length steps ≡ length r.lines
  pub begins : repair.recording.from ≡ r.from
  pub chosen : IsWellFormed (recording_chosen r steps) → IsByChoices edit r steps repair
  pub again : ¬ (IsWellFormed (recording_chosen r steps)) → IsRunAgain edit r repair

-- Some choices settle the lines and give the repair. Only met lines get new runs, so a line that
-- nothing edits and that isn't met stands with its noted output.
abbrev pub AreSettled : (ℕ → Option Edit) → RecordingValue → Repair → Type 0
AreSettled edit r repair =
    (steps : List Step) × IsSettled edit r steps repair × AreTakenIfMet edit r.lines steps r.first r.first
