-- The cells in which two states differ, and their next uses, over a line.
use Rattle.std.specs.Prelude.{◌≡◌, ℕ, suc, List, Some, drop}
use Rattle.std.specs.List.{slice_get}
use Rattle.std.specs.Option.{option_copied, unwrap_or}
use Rattle.retro_tree.specs.Exact.{IsExact}
use Rattle.retro_tree.specs.Notes.{after}
use Rattle.retro_tree.specs.Overlay.{OverlayMap}
use Rattle.retro_tree.specs.declared.note.Note.{Note}
use Rattle.retro_tree.specs.declared.state.State.{State}
use Rattle.retro_keep.specs.Recorded.{recorded_before}
use Rattle.retro_keep.specs.Recording.{IsWellFormed, RecordingValue}
use Rattle.retro_history.specs.Index.{Line}
use Rattle.retro_difference.specs.NextUses.{KeepsUses, Use}
use Rattle.retro_difference.specs.declared.line_run.LineRun.{LineRun}

-- An overlay with an entry for each cell in which two states differ, and for each of these cells
-- the next line that uses it.
pub record DifferenceValue : Type 0 where
  pub overlay : OverlayMap
  pub uses : List Use

-- the next uses are those among some lines
abbrev pub IsAmong : List Line → DifferenceValue → Type 0
IsAmong lines d = KeepsUses d.overlay lines d.uses

-- the notes of a line in the recorded and in the repaired state
abbrev pub recorded_by : LineRun → List Note
recorded_by line = line.recorded.now

abbrev pub chosen_by : LineRun → List Note
chosen_by line = unwrap_or (option_copied line.chosen) line.recorded.now

-- A difference went over a line. If it was exact before the line, it is exact again after it. If
-- the next uses were those from the line on, they are those from the next line on.
pub record GoesOver (r : RecordingValue) (line : LineRun) (old new : DifferenceValue) : Type 0 where
  pub exact : (t : State) → IsExact old.overlay (recorded_before line.number r) t
      → IsExact new.overlay (after (recorded_by line) (recorded_before line.number r)) (after (chosen_by line) t)
  pub uses : (k : ℕ) (l : Line) (t : State) → IsWellFormed r → slice_get r.lines k ≡ Some l → l.0 ≡ line.number
      → l.1.notes ≡ recorded_by line → IsExact old.overlay (recorded_before line.number r) t
      → IsAmong (drop k r.lines) old → IsAmong (drop (suc k) r.lines) new

-- The overlay is as it was, and the next uses are still those from the line with a number on.
pub record Stays (r : RecordingValue) (number : ℕ) (old new : DifferenceValue) : Type 0 where
  pub overlay : new.overlay ≡ old.overlay
  pub uses : (k : ℕ) (l : Line) → IsWellFormed r → slice_get r.lines k ≡ Some l → l.0 ≡ number
      → IsAmong (drop k r.lines) old → IsAmong (drop k r.lines) new
