-- What a repair lends for guesses.
use Rattle.std.specs.Prelude.{ℕ, Option}
use Rattle.std.specs.FinMap as map
use Rattle.retro_tree.specs.Commit.{committed}
use Rattle.retro_tree.specs.Overlay.{OverlayMap}
use Rattle.retro_tree.specs.declared.state.State.{State}
use Rattle.retro_keep.specs.Recorded.{recorded_before}
use Rattle.retro_keep.specs.Recording.{RecordingValue}
use Rattle.retro_keep.specs.declared.edit.Edit.{Edit}
use Rattle.retro_redo.specs.Editing.{EditMap}

-- a recording, its edits, and the overlay of the cells in which the repaired state differs before a
-- line
pub record GroundValue : Type 0 where
  pub recording : RecordingValue
  pub edits : EditMap
  pub overlay : OverlayMap

-- the edit of the line with a number, or None if nothing edits it
abbrev pub edit_lent : GroundValue → ℕ → Option Edit
edit_lent g = map.get g.edits

-- the combined state before a line: the overlay on the recorded state
abbrev pub shown_at : ℕ → GroundValue → State
shown_at number g = committed g.overlay (recorded_before number g.recording)
