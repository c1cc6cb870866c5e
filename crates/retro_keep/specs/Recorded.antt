-- The recorded state before each line.
use Rattle.std.specs.Prelude.{ℕ, nat_lt, List}
use Rattle.std.specs.List.{filter}
use Rattle.retro_tree.specs.declared.state.State.{State}
use Rattle.retro_keep.specs.Recording.{RecordingValue, last_state}
use Rattle.retro_keep.specs.declared.noted.Noted.{Noted}

-- the lines with numbers below a number
abbrev pub lines_below : ℕ → List (ℕ × Noted) → List (ℕ × Noted)
lines_below number lines = filter (λ l. nat_lt l.0 number) lines

-- the recorded state before a number: the state after all lines with numbers below it
unfoldable pub recorded_before : ℕ → RecordingValue → State
recorded_before number r = last_state (lines_below number r.lines) r.first
