-- What the states between two steps of a repair are.
use Rattle.std.specs.Prelude.{◌≡◌, List, length, map, take}
use Rattle.retro_keep.specs.Edit.{edited}
use Rattle.retro_keep.specs.Recording.{script_line}
use Rattle.retro_keep.specs.Runs.{outcome}
use Rattle.retro_keep.specs.declared.script.ScriptLine.{ScriptLine}
use Rattle.retro_redo.specs.Progress.{ProgressValue, edit_in, recorded_now, repaired_now}

-- the lines that are settled, as lines of a script
abbrev pub lines_so_far : ProgressValue → List ScriptLine
lines_so_far p = map script_line (take (length p.choices) p.recording.lines)

-- The recorded state is that of running the settled lines from the first state. The repaired state
-- is that of running them as they are edited.
pub record AreStatesOfRuns (p : ProgressValue) : Type 0 where
  pub recorded_is : recorded_now p ≡ (outcome (lines_so_far p) p.recording.first).0
  pub repaired_is : repaired_now p
      ≡ (outcome (edited (edit_in p) (lines_so_far p)) p.recording.first).0
