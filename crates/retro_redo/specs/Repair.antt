-- What a repair answers.
use Rattle.std.specs.Prelude.{◌≡◌, ℕ, Bool, true, false, List, [], filter, map, Option, Some, None, is_some}
use Rattle.std.specs.List.{flat_map}
use Rattle.retro_keep.specs.Edit.{edited, edited_script}
use Rattle.retro_tree.specs.declared.state.State.{State}
use Rattle.retro_keep.specs.Recording.{IsRecordingOf, RecordingValue, last_state, noted_at, output_in, script_in}
use Rattle.retro_keep.specs.Recording.{script_line}
use Rattle.retro_keep.specs.Runs.{Output, outcome}
use Rattle.retro_keep.specs.Script.{ScriptValue}
use Rattle.retro_keep.specs.declared.edit.Edit.{Edit}
use Rattle.retro_keep.specs.declared.noted.Noted.{Noted}
use Rattle.retro_keep.specs.declared.script.ScriptLine.{ScriptLine}
use Rattle.retro_redo.specs.Moments.{AreSettledLines, CompensationValue, Moment, compensation, compensations}
use Rattle.retro_redo.specs.Moments.{moments, text_now}
use Rattle.retro_redo.specs.declared.repair.Repair.{Repair}
use Rattle.retro_redo.specs.declared.tally.Tally.{Tally}
use Rattle.retro_redo.specs.declared.verdict.SettledLine.{SettledLine}
use Rattle.retro_redo.specs.declared.verdict.Verdict.{Verdict}
use Rattle.retro_redo.specs.declared.verdict.Verdict.TheVariants.{Cancelled, Redone, Kept}

-- the two runs of a recording's lines side by side, from its first state on
abbrev pub moments_of : (ℕ → Option Edit) → RecordingValue → List Moment
moments_of edit r = moments edit r.lines r.first r.first

-- the lines of a recording as they are edited, and their script
abbrev pub edited_lines : (ℕ → Option Edit) → RecordingValue → List ScriptLine
edited_lines edit r = edited edit (map script_line r.lines)

abbrev pub script_now : (ℕ → Option Edit) → RecordingValue → ScriptValue
script_now edit r = edited_script edit (script_in r)

-- whether two verdicts are the same
abbrev pub is_verdict : Verdict → Verdict → Bool
is_verdict Cancelled Cancelled = true
is_verdict Redone Redone = true
is_verdict Kept Kept = true
is_verdict _ _ = false

-- the numbers of the lines with a verdict, in order
abbrev pub numbers_with : Verdict → List SettledLine → List ℕ
numbers_with wanted lines = map (λ l. l.number) (filter (λ l. is_verdict wanted l.verdict) lines)

-- the numbers of the met lines, in order
abbrev pub met_numbers : List SettledLine → List ℕ
met_numbers lines = map (λ l. l.number) (filter (λ l. l.is_met) lines)

-- each line's number, with the verdict on it
abbrev pub verdicts_in : Repair → List (ℕ × Verdict)
verdicts_in repair = map (λ l. (l.number, l.verdict)) repair.lines.items

-- the state after the edited lines, as the repaired recording has it
abbrev pub repaired_state : Repair → State
repaired_state repair = last_state repair.recording.lines repair.recording.first

-- what the line with a number prints, or nothing if there is none
abbrev pub output_by : Option Noted → List ℕ
output_by None = []
output_by (Some noted) = noted.output

abbrev pub output_at : ℕ → List (ℕ × Noted) → List ℕ
output_at number lines = output_by (noted_at number lines)

-- a recorded line, if it prints something else among other lines
abbrev pub compensation_in : List (ℕ × Noted) → ℕ × Noted → List CompensationValue
compensation_in now l = compensation l.0 l.1.output (output_at l.0 now)

-- the lines of a recording that print something else in its repair
abbrev pub compensations_in : RecordingValue → Repair → List CompensationValue
compensations_in r repair = flat_map (compensation_in repair.recording.lines) r.lines

-- each edited line's number, and what it prints
abbrev pub repaired_outputs : Repair → List Output
repaired_outputs repair = map output_in repair.recording.lines

-- State and outputs are those of running the edited lines one by one from the first state. The
-- lines whose output differs are compensated, with both texts. Each line has its verdict, and is
-- said to be met if it is. The repaired recording is one of the edited lines, and begins at the
-- same number.
pub record IsRepair (edit : ℕ → Option Edit) (r : RecordingValue) (repair : Repair) : Type 0 where
  pub outcome_is : (repaired_state repair, repaired_outputs repair) ≡ outcome (edited_lines edit r) r.first
  pub compensated : compensations_in r repair ≡ compensations edit (moments_of edit r)
  pub lines_are : AreSettledLines edit (moments_of edit r) repair.lines.items
  pub recording_is : IsRecordingOf (script_now edit r) repair.recording
  pub begins : repair.recording.from ≡ r.from

-- The part of a repair that doesn't compare with what was recorded: the state and the outputs are
-- those of running the edited lines, and the recording is one of these lines and begins at the same
-- number.
pub record IsRepairOf (edit : ℕ → Option Edit) (r : RecordingValue) (repair : Repair) : Type 0 where
  pub outcome_is : (repaired_state repair, repaired_outputs repair) ≡ outcome (edited_lines edit r) r.first
  pub recording_is : IsRecordingOf (script_now edit r) repair.recording
  pub begins : repair.recording.from ≡ r.from

-- the counts of a repair on one thread
abbrev pub no_guesses : Tally
no_guesses = record { jobs = 0; taken_up = 0; unused = 0; wrong = 0; given_up = 0 }

-- ---- if all edited lines are run again

abbrev pub verdict_by : Option (List ℕ) → Verdict
verdict_by None = Cancelled
verdict_by (Some text) = Redone

-- a line that is met and redone, unless it is cancelled
abbrev pub line_again : (ℕ → Option Edit) → ℕ × Noted → SettledLine
line_again edit l = record {
  number = l.0;
  verdict = verdict_by (text_now edit l);
  is_met = is_some (text_now edit l);
}

-- State and outputs are those of running the edited lines. All of them are met and redone. Their
-- recording begins at the same number.
pub record IsRunAgain (edit : ℕ → Option Edit) (r : RecordingValue) (repair : Repair) : Type 0 where
  pub outcome_is : (repaired_state repair, repaired_outputs repair) ≡ outcome (edited_lines edit r) r.first
  pub lines_are : repair.lines.items ≡ map (line_again edit) r.lines
  pub recording_is : IsRecordingOf (script_now edit r) repair.recording
  pub begins : repair.recording.from ≡ r.from
