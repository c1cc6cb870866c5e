-- What told lines keep: in the state before each line its needs have their answers, and from there
-- its texts run one after the other.
use Rattle.std.specs.Prelude.{ℕ, All, List, [], ◌∷◌, map}
use Rattle.retro_tree.specs.Notes.{Holds, after}
use Rattle.retro_tree.specs.declared.state.State.{State}
use Rattle.retro_local.specs.Trace.{IsOwn}
use Rattle.retro_shell.specs.Runs.{IsRun, RunValue}
use Rattle.casebook_needs.specs.Needs.{note_of}
use Rattle.casebook_stand_in.specs.Texts.{Lead}
use Rattle.casebook_explain.specs.declared.told.ToldLine.{ToldLine}

-- the state after the notes of runs
abbrev pub after_runs : List RunValue → State → State
after_runs [] s = s
after_runs (run ∷ runs) s = after_runs runs (after run.notes s)

-- What a told line keeps, in the state before it.
pub record IsSoundLine (line : ToldLine) (s : State) : Type 0 where
  pub leads : Lead line.session line.runs.items s (after_runs line.runs.items s)
  pub hold : Holds (map note_of line.needs.items) s
  pub own : IsOwn line.session (map note_of line.needs.items)

-- each told line keeps this, from a state on
abbrev pub AreSound : List ToldLine → State → Type 0
AreSound [] s = Unit {0}
AreSound (line ∷ lines) s = IsSoundLine line s × AreSound lines (after_runs line.runs.items s)

-- the state after told lines
abbrev pub after_lines : List ToldLine → State → State
after_lines [] s = s
after_lines (line ∷ lines) s = after_lines lines (after_runs line.runs.items s)

-- the sessions of told lines
abbrev pub sessions_of : List ToldLine → List ℕ
sessions_of lines = map (λ line. line.session) lines

-- The notes of each run certify its line.
pub record AreRuns (runs : List RunValue) : Type 0 where
  pub are : All IsRun runs

-- so do those of each line
pub record HaveRuns (lines : List ToldLine) : Type 0 where
  pub have : All (λ line. AreRuns line.runs.items) lines
