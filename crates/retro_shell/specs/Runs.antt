-- Runs: lines with the notes and the output of their execution.
use Rattle.std.specs.Prelude.{◌≡◌, ℕ, List, IsTrue}
use Rattle.std.specs.FinMap as map
use Rattle.retro_tree.specs.Lawful.{IsLawful}
use Rattle.retro_tree.specs.Notes.{after, AllAllowed, Holds}
use Rattle.retro_tree.specs.declared.note.Note.{Note}
use Rattle.retro_tree.specs.declared.state.State.{State}
use Rattle.retro_local.specs.Trace.{IsOwn}
use Rattle.retro_shell.specs.Line.{line}

-- a line of a session, the notes of its execution, the oldest first, and what it printed
pub record RunValue : Type 0 where
  pub sid : ℕ
  pub text : List ℕ
  pub notes : List Note
  pub output : List ℕ

-- In every lawful state that has the session and in which the notes hold, each change is lawful
-- where it is made, and the line gives the state after the notes and the output.
pub record Certifies (run : RunValue) : Type 0 where
  pub allowed : (s : State) → IsLawful s → IsTrue (map.contains_key s.sessions run.sid)
      → Holds run.notes s → AllAllowed run.notes s
  pub means : (s : State) → IsLawful s → IsTrue (map.contains_key s.sessions run.sid)
      → Holds run.notes s → line run.sid run.text s ≡ (after run.notes s, run.output)

-- the guarantee of the type of runs: the notes certify the line, and name no session but its own
pub record IsRun (run : RunValue) : Type 0 where
  pub certified : Certifies run
  pub own : IsOwn run.sid run.notes
