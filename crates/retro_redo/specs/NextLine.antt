-- The line whose turn it is.
use Rattle.std.specs.Prelude.{◌≡◌, false, None, Some}
use Rattle.std.specs.Prelude.{MatchBool}
use Rattle.std.specs.Option.{option_copied}
use Rattle.retro_tree.specs.Notes.{Holds}
use Rattle.retro_keep.specs.Recording.{IsRecordingOf, script_in}
use Rattle.retro_redo.specs.Moments.{IsMetBy, IsUnmetBy}
use Rattle.retro_redo.specs.Progress.{ProgressValue, edit_in, next_line, recorded_now, repaired_now}
use Rattle.retro_redo.specs.declared.line.Line.{Line}

-- A line is the next one to settle, with its edit, and with whether it is met by the states before
-- it. If the recording is what running its lines gives, the notes of a line that is neither edited
-- nor met hold in the repaired state.
pub record IsNextLine (p : ProgressValue) (l : Line) : Type 0 where
  pub next : next_line p ≡ Some (l.number, l.noted.now)
  pub edit : option_copied l.edit ≡ edit_in p l.number
  pub met : MatchBool l.is_met (IsMetBy (edit_in p l.number) l.noted.now.notes (recorded_now p) (repaired_now p))
      (IsUnmetBy (edit_in p l.number) l.noted.now.notes (recorded_now p) (repaired_now p))
  pub holds : IsRecordingOf (script_in p.recording) p.recording → edit_in p l.number ≡ None → l.is_met ≡ false
      → Holds l.noted.now.notes (repaired_now p)
