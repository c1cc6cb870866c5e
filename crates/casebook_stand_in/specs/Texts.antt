-- Texts of a session's lines, run one after the other.
use Rattle.std.specs.Prelude.{◌≡◌, ℕ, List, [], ◌∷◌}
use Rattle.retro_tree.specs.Notes.{after, Holds}
use Rattle.retro_tree.specs.declared.state.State.{State}
use Rattle.retro_shell.specs.Line.{line}
use Rattle.retro_shell.specs.Runs.{RunValue}

-- the state after texts of a session's lines
abbrev pub after_texts : ℕ → List (List ℕ) → State → State
after_texts sid [] s = s
after_texts sid (text ∷ texts) s = after_texts sid texts (line sid text s).0

-- A run of a session's line in a state: its notes hold there, and there the line gives the state
-- after them and the output.
pub record IsRunIn (sid : ℕ) (s : State) (run : RunValue) : Type 0 where
  pub session : run.sid ≡ sid
  pub holds : Holds run.notes s
  pub means : line sid run.text s ≡ (after run.notes s, run.output)

-- Runs of a session's lines, one after the other, lead from one state to another.
abbrev pub Lead : ℕ → List RunValue → State → State → Type 0
Lead sid [] s t = s ≡ t
Lead sid (run ∷ runs) s t = IsRunIn sid s run × Lead sid runs (after run.notes s) t

abbrev pub text_in : RunValue → List ℕ
text_in run = run.text
