-- Guesses: runs of lines ahead of their turns.
use Rattle.std.specs.Prelude.{◌≡◌, ℕ, Some}
use Rattle.retro_tree.specs.Notes.{Holds}
use Rattle.retro_shell.specs.Runs.{IsRun, RunValue}
use Rattle.retro_keep.specs.Recording.{noted_at}
use Rattle.retro_keep.specs.declared.noted.Noted.{Noted}
use Rattle.retro_redo.specs.Ground.{GroundValue, edit_lent, shown_at}
use Rattle.retro_redo.specs.Progress.{IsNewRunOf}
use Rattle.retro_pool.specs.declared.guess.Guess.{Guess}

-- A new run of the line with a number. Its notes hold in the combined state before the line, and
-- they certify the run.
pub record IsRunOf (g : GroundValue) (number : ℕ) (run : RunValue) : Type 0 where
  pub noted : Noted
  pub line : noted_at number g.recording.lines ≡ Some noted
  pub new_run : IsNewRunOf (edit_lent g) (number, noted) run
  pub holds : Holds run.notes (shown_at number g)
  pub certified : IsRun run

-- a guess is a run of the line that has its number
abbrev pub IsGuess : GroundValue → Guess → Type 0
IsGuess g guess = IsRunOf g guess.number guess.run

-- the guess of a job
abbrev pub IsGuessOf : GroundValue → ℕ → Guess → Type 0
IsGuessOf g job guess = (guess.number ≡ job) × IsGuess g guess
