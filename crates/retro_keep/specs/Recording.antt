-- Recordings: a first state, the number of the line at which they begin, and the lines from it on
-- with their notes and outputs.
use Rattle.std.specs.Prelude.{◌≡◌, ◌≤◌, ℕ, Bool, true, false, ◌&&◌, ◌==◌, List, [], ◌∷◌, map, Option, Some, None}
use Rattle.std.specs.Prelude.{IsTrue, if◌then◌else◌, nat_le}
use Rattle.std.specs.List.{list_all}
use Rattle.retro_tree.specs.Lawful.{IsLawful}
use Rattle.retro_tree.specs.Notes.{after, AllAllowed, Holds}
use Rattle.retro_tree.specs.declared.answer.Answer.{Answer}
use Rattle.retro_tree.specs.declared.answer.Answer.TheVariants as answers
use Rattle.retro_tree.specs.declared.ask.Ask.{Ask}
use Rattle.retro_tree.specs.declared.ask.Ask.TheVariants as asks
use Rattle.retro_tree.specs.declared.note.Note.{Note}
use Rattle.retro_tree.specs.declared.note.Note.TheVariants.{Asked, Made}
use Rattle.retro_tree.specs.declared.state.State.{State}
use Rattle.retro_local.specs.Trace.{named_sessions}
use Rattle.retro_shell.specs.Line.{line}
use Rattle.retro_shell.specs.Runs.{IsRun, RunValue}
use Rattle.retro_keep.specs.Runs.{Output}
use Rattle.retro_keep.specs.Script.{ScriptValue, have_sessions, rises_from}
use Rattle.retro_keep.specs.declared.noted.Noted.{Noted}
use Rattle.retro_keep.specs.declared.script.ScriptLine.{ScriptLine}

-- What a recording holds: the state at its beginning, the number at which it begins, and the lines
-- with their numbers. What sessions ran before that number isn't known.
pub record RecordingValue : Type 0 where
  pub first : State
  pub from : ℕ
  pub lines : List (ℕ × Noted)

abbrev pub number_in : ℕ × Noted → ℕ
number_in l = l.0

abbrev pub sid_in : ℕ × Noted → ℕ
sid_in l = l.1.sid

-- what a recording keeps of a run
abbrev pub noted_of : RunValue → Noted
noted_of run = record { sid = run.sid; text = run.text; notes = run.notes; output = run.output }

-- the state after the notes of all lines
abbrev pub last_state : List (ℕ × Noted) → State → State
last_state [] s = s
last_state (l ∷ lines) s = last_state lines (after l.1.notes s)

-- the line with a number, its notes and its output, or None if no line has the number
abbrev pub noted_at : ℕ → List (ℕ × Noted) → Option Noted
noted_at number [] = None
noted_at number (l ∷ lines) = if l.0 == number then Some l.1 else noted_at number lines

-- ---- what each recording keeps

-- whether an answer's variant is the one of its query
abbrev pub is_of_kind : Ask → Answer → Bool
is_of_kind (asks.Kind p) (answers.Kind kind) = true
is_of_kind (asks.Bytes p) (answers.Bytes node) = true
is_of_kind (asks.Names p) (answers.Names names) = true
is_of_kind (asks.CanWrite p more) (answers.CanWrite permit) = true
is_of_kind (asks.User name) (answers.User user) = true
is_of_kind (asks.VarOf sid name) (answers.Var text) = true
is_of_kind (asks.CwdOf sid) (answers.Cwd cwd) = true
is_of_kind (asks.StatusOf sid) (answers.Status status) = true
is_of_kind _ _ = false

-- whether each noted answer is of its query's kind
abbrev pub answers_are_of_kind : List Note → Bool
answers_are_of_kind [] = true
answers_are_of_kind (Asked a r ∷ notes) = is_of_kind a r && answers_are_of_kind notes
answers_are_of_kind (Made c ∷ notes) = answers_are_of_kind notes

-- whether notes name no session but one
abbrev pub are_own : ℕ → List Note → Bool
are_own sid notes = list_all (λ k. k == sid) (named_sessions notes)

abbrev pub is_own_line : ℕ × Noted → Bool
is_own_line l = are_own l.1.sid l.1.notes

abbrev pub is_line_of_kind : ℕ × Noted → Bool
is_line_of_kind l = answers_are_of_kind l.1.notes

-- each change of each line is lawful in the state that it changes, from a state on
abbrev pub AllLinesAllowed : List (ℕ × Noted) → State → Type 0
AllLinesAllowed [] s = Unit {0}
AllLinesAllowed (l ∷ lines) s = AllAllowed l.1.notes s × AllLinesAllowed lines (after l.1.notes s)

-- whether no line has a number below another one
abbrev pub none_below : ℕ → List (ℕ × Noted) → Bool
none_below from lines = list_all (λ l. nat_le from l.0) lines

-- What each recording keeps: the first state is lawful, the recording begins at 1 or later, the
-- numbers rise and none is below the beginning, each line's session exists and is the only one that
-- its notes name, each noted answer is of its query's kind, and each change is lawful in the state
-- that it changes. The notes need not be those of the line.
pub record IsWellFormed (r : RecordingValue) : Type 0 where
  pub lawful : IsLawful r.first
  pub begins : 1 ≤ r.from
  pub rising : IsTrue (rises_from 0 (map number_in r.lines))
  pub not_before : IsTrue (none_below r.from r.lines)
  pub known : IsTrue (have_sessions r.first (map sid_in r.lines))
  pub own : IsTrue (list_all is_own_line r.lines)
  pub of_kind : IsTrue (list_all is_line_of_kind r.lines)
  pub allowed : AllLinesAllowed r.lines r.first

-- ---- recordings of a script

-- a line with its notes and its output, as a run
abbrev pub run_value : Noted → RunValue
run_value noted = record {
  sid = noted.sid;
  text = noted.text;
  notes = noted.notes;
  output = noted.output;
}

-- The notes certify the line, they hold in a state, and there the line gives the state after them
-- and the noted output.
pub record IsRecorded (noted : Noted) (s : State) : Type 0 where
  pub run : IsRun (run_value noted)
  pub holds : Holds noted.notes s
  pub means : line noted.sid noted.text s ≡ (after noted.notes s, noted.output)

-- each line is recorded in the state before it, from a state on
abbrev pub AllRecorded : List (ℕ × Noted) → State → Type 0
AllRecorded [] s = Unit {0}
AllRecorded (l ∷ lines) s = IsRecorded l.1 s × AllRecorded lines (after l.1.notes s)

-- a line without its notes and its output
abbrev pub script_line : ℕ × Noted → ScriptLine
script_line l = record { number = l.0; sid = l.1.sid; text = l.1.text }

-- the script that a recording's lines are
abbrev pub script_in : RecordingValue → ScriptValue
script_in r = record { first = r.first; lines = map script_line r.lines }

-- A recording is one of a script if it has its first state and its lines, and each line is recorded
-- in the state before it.
pub record IsRecordingOf (script : ScriptValue) (r : RecordingValue) : Type 0 where
  pub first : r.first ≡ script.first
  pub lines : map script_line r.lines ≡ script.lines
  pub recorded : AllRecorded r.lines r.first

-- a line's number, and what it printed
abbrev pub output_in : ℕ × Noted → Output
output_in l = (l.0, l.1.output)

-- the last state of a recording, and what its lines printed
abbrev pub recorded_outcome : RecordingValue → State × List Output
recorded_outcome r = (last_state r.lines r.first, map output_in r.lines)
