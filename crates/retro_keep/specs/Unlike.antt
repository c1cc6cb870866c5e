-- Lines that aren't as a recording notes them.
use Rattle.std.specs.Prelude.{◌≡◌, ◌≢◌, ℕ, take, Some}
use Rattle.std.specs.List.{slice_get}
use Rattle.retro_tree.specs.declared.state.State.{State}
use Rattle.retro_keep.specs.Recording.{AllRecorded, IsRecorded, RecordingValue, last_state, noted_of}
use Rattle.retro_keep.specs.declared.noted.Noted.{Noted}
use Rattle.retro_keep.specs.declared.unlike.Unlike.{Unlike}
use Rattle.retro_shell.specs.Runs.{RunValue}

-- The run is one of the noted line in a state. Its notes or its output aren't those that are noted.
pub record IsUnlike (noted : Noted) (run : RunValue) (s : State) : Type 0 where
  pub session : run.sid ≡ noted.sid
  pub text : run.text ≡ noted.text
  pub recorded : IsRecorded (noted_of run) s
  pub otherwise : run.notes ≡ noted.notes → run.output ≢ noted.output

-- A line of a recording is the first that isn't as noted: the lines before it are recorded, and it
-- isn't, in the state that they leave.
pub record IsFirstUnlike (r : RecordingValue) (u : Unlike) : Type 0 where
  pub index : ℕ
  pub noted : Noted
  pub line : slice_get r.lines index ≡ Some (u.number, noted)
  pub before : AllRecorded (take index r.lines) r.first
  pub unlike : IsUnlike noted u.run (last_state (take index r.lines) r.first)
