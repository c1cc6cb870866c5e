-- What a recorder has done.
use Rattle.std.specs.Prelude.{◌≡◌, ℕ, List, map}
use Rattle.retro_tree.specs.Lawful.{IsLawful}
use Rattle.retro_tree.specs.declared.state.State.{State}
use Rattle.retro_shell.specs.Line.{HasSameSessions}
use Rattle.retro_keep.specs.Recording.{AllRecorded, last_state, script_line}
use Rattle.retro_keep.specs.declared.noted.Noted.{Noted}
use Rattle.retro_keep.specs.declared.script.ScriptLine.{ScriptLine}

abbrev pub text_of : ScriptLine → List ℕ
text_of line = line.text

-- some lines of a script are recorded from a first state on, and a state is the one after them
pub record HasRecorded (done : List ScriptLine) (first : State) (lines : List (ℕ × Noted)) (state : State)
    : Type 0 where
  pub lines_are : map script_line lines ≡ done
  pub recorded : AllRecorded lines first
  pub state_is : state ≡ last_state lines first
  pub lawful : IsLawful state
  pub sessions : HasSameSessions first state
