-- Recordings that begin at a later line.
use Rattle.std.specs.Prelude.{◌≡◌, ◌≤◌, ◌<◌, ℕ, List, Result, Ok, Err, nat_le, nat_lt}
use Rattle.std.specs.List.{filter}
use Rattle.retro_keep.specs.Recorded.{recorded_before}
use Rattle.retro_keep.specs.Recording.{RecordingValue}
use Rattle.retro_keep.specs.Runs.{outcome}
use Rattle.retro_keep.specs.Script.{ScriptValue}
use Rattle.retro_keep.specs.declared.noted.Noted.{Noted}
use Rattle.retro_keep.specs.declared.script.ScriptLine.{ScriptLine}
use Rattle.retro_keep.specs.declared.trim_fault.TrimFault.{TrimFault}
use Rattle.retro_keep.specs.declared.trim_fault.TrimFault.TheVariants.{BeforeCheckpoint, NoMem}

-- the lines with numbers from a number on
abbrev pub lines_from : ℕ → List (ℕ × Noted) → List (ℕ × Noted)
lines_from number lines = filter (λ l. nat_le number l.0) lines

-- the recording that begins at a number: the lines from there on, over the recorded state before
-- them
unfoldable pub trimmed : ℕ → RecordingValue → RecordingValue
trimmed number r = record {
  first = recorded_before number r;
  from = number;
  lines = lines_from number r.lines;
}

-- What the result says: the trimmed recording, or that memory ran out, if the recording doesn't
-- begin later; and that it does.
abbrev pub IsTrimmed : ℕ → RecordingValue → Result RecordingValue TrimFault → Type 0
IsTrimmed number r (Ok t) = (r.from ≤ number) × (t ≡ trimmed number r)
IsTrimmed number r (Err BeforeCheckpoint) = number < r.from
IsTrimmed number r (Err NoMem) = r.from ≤ number

-- ---- of scripts

-- the lines of a script with numbers below a number
abbrev pub script_below : ℕ → ScriptValue → List ScriptLine
script_below number script = filter (λ l. nat_lt l.number number) script.lines

-- the script that begins at a number: the lines from there on, over the state that running the
-- lines before them gives
unfoldable pub script_from : ℕ → ScriptValue → ScriptValue
script_from number script = record {
  first = (outcome (script_below number script) script.first).0;
  lines = filter (λ l. nat_le number l.number) script.lines;
}
