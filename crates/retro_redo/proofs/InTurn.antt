-- Repairs in turn.
use Rattle.std.proofs.Common.{◌≡◌, ◌∙◌, ℕ, true, List, ◌++◌, None, ap, ap₂, map}
use Rattle.std.specs.Option.{is_some}
use Rattle.retro_keep.specs.Edit.{edit_of, edited}
use Rattle.retro_keep.specs.Recording.{RecordingValue, script_line}
use Rattle.retro_keep.specs.Runs.{outcome}
use Rattle.retro_keep.specs.declared.edit.Edit.{Edit}
use Rattle.retro_keep.proofs.Edited.{edited_in_turn}
use Rattle.retro_redo.specs.Repair.{IsRepair, IsRepairOf}
use Rattle.retro_redo.specs.declared.repair.Repair.{Repair}

-- a repair of a repaired recording
pub repaired_in_turn : (first second : List Edit) (r : RecordingValue) (one two : Repair)
    → ((n : ℕ) → is_some (edit_of first n) ≡ true → edit_of second n ≡ None)
    → IsRepair (edit_of first) r one → IsRepair (edit_of second) one.recording two
    → IsRepairOf (edit_of (first ++ second)) r two
repaired_in_turn first second r one two apart h k = record {
  outcome_is = k.outcome_is ∙ ap₂ outcome both h.recording_is.first;
  recording_is = record {
    first = k.recording_is.first ∙ h.recording_is.first;
    lines = k.recording_is.lines ∙ both;
    recorded = k.recording_is.recorded;
  };
  begins = k.begins ∙ h.begins;
}
  where
    both : edited (edit_of second) (map script_line one.recording.lines)
        ≡ edited (edit_of (first ++ second)) (map script_line r.lines)
    both =
        ap (edited (edit_of second)) h.recording_is.lines
        ∙ edited_in_turn first second (map script_line r.lines) apart
