-- The lines to settle at which a repair would stop if no line before them changed anything anew.
use Rattle.std.specs.Prelude.{ℕ, ◌-◌, List, drop, length, take}
use Rattle.retro_history.specs.Index.{Line}
use Rattle.retro_redo.specs.Progress.{ProgressValue, edit_in, recorded_now, repaired_now}
use Rattle.retro_redo.specs.Skipping.{IsStop}

-- the lines to settle whose indices are below another
abbrev pub lines_until : ℕ → ProgressValue → List Line
lines_until end p = take (end - length p.choices) (drop (length p.choices) p.recording.lines)

-- a line is edited, or it uses a cell in which the two states differ before the next line
abbrev pub StopsNow : ProgressValue → Line → Type 0
StopsNow p l = IsStop (edit_in p) l (recorded_now p) (repaired_now p)
