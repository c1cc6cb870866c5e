-- The invariant of a repair's progress.
use Rattle.std.specs.Prelude.{ℕ, List, false}
use Rattle.retro_tree.specs.Exact.{IsExact}
use Rattle.retro_tree.specs.Overlay.{OverlayMap}
use Rattle.retro_tree.specs.State.{SameSessions}
use Rattle.retro_keep.specs.declared.noted.Noted.{Noted}
use Rattle.retro_redo.specs.Editing.{AreLines}
use Rattle.retro_redo.specs.Progress.{AreLinesBy, ProgressValue, Settles, edit_in, recorded_now, repaired_now}
use Rattle.retro_redo.specs.Progress.{settled_now}
use Rattle.retro_redo.specs.declared.verdict.SettledLine.{SettledLine}
use Rattle.retro_redo.specs.declared.verdict.Verdict.TheVariants.{Kept}

-- Each choice is one that its line allows. The overlay has entries for exactly the cells in which
-- the recorded and the repaired state differ. What is left of the settled lines is what their
-- choices say. Both states have the sessions of the first. Each edited number is a line's.
pub record Keeps (p : ProgressValue) (overlay : OverlayMap) (lines : List SettledLine) : Type 0 where
  pub settles :
      Settles (edit_in p) p.recording.lines p.choices p.recording.first p.recording.first
  pub exact : IsExact overlay (recorded_now p) (repaired_now p)
  pub lines_are : AreLinesBy (edit_in p) (settled_now p) p.choices lines
  pub recorded_sessions : SameSessions (recorded_now p) p.recording.first
  pub repaired_sessions : SameSessions (repaired_now p) p.recording.first
  pub known : AreLines p.edits p.recording

-- what is left of a line that is kept and isn't met
abbrev pub kept_line : ℕ × Noted → SettledLine
kept_line l = record { number = l.0; verdict = Kept; is_met = false }
