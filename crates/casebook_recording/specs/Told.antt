-- The lines that a case says, and what tells them.
use Rattle.std.specs.Prelude.{◌≡◌, ◌⊎◌, ◌≤◌, ◌^◌, Any, List, Some, length, map, ⊤}
use Rattle.std.specs.FinMap as finmap
use Rattle.retro_tree.specs.declared.state.State.{State}
use Rattle.casebook_spool.specs.After.{after_notes}
use Rattle.casebook_typed.specs.Lines.{LineValue, lines_after, records_of}
use Rattle.casebook_typed.specs.Observations.{observations}
use Rattle.casebook_typed.specs.Sessions.{SessionValue, sessions_of, steps_of}
use Rattle.casebook_typed.specs.Spans.{contradiction}
use Rattle.casebook_import.specs.Effects.{session_number}
use Rattle.casebook_import.specs.First.{first_state}
use Rattle.casebook_import.specs.Lines.{SeenValue, seen_from, seen_value}
use Rattle.casebook_explain.specs.Faults.{IsTellFault}
use Rattle.casebook_explain.specs.Shelves.{with_shelves}
use Rattle.casebook_explain.specs.Told.{AreTold}
use Rattle.casebook_explain.specs.Value.{ToldValue}
use Rattle.casebook_explain.specs.declared.seen_line.SeenLine.{SeenLine}
use Rattle.casebook_explain.specs.declared.tell_fault.TellFault.{TellFault}
use Rattle.casebook_explain.specs.declared.tell_fault.TellFault.TheVariants as tells
use Rattle.casebook_case.specs.declared.case.Case.{Case}
use Rattle.casebook_recording.specs.declared.recording_fault.RecordingFault.{RecordingFault}
use Rattle.casebook_recording.specs.declared.recording_fault.RecordingFault.TheVariants as faults

-- ---- what a case says

-- the sessions of a case, in the order in which they first appear
abbrev pub sessions_in : Case → List SessionValue
sessions_in case = sessions_of (records_of (observations case.lines.said))

-- the lines of a case, in the order of their ends
abbrev pub lines_in : Case → List LineValue
lines_in case =
    lines_after (after_notes finmap.empty case.first.said) (observations case.lines.said)

-- the state before all lines
abbrev pub state_in : Case → State
state_in case = first_state case.contents case.first.said (sessions_in case) (lines_in case)

-- what each line was seen to do
abbrev pub seen_in : Case → List SeenValue
seen_in case = seen_from case.contents (state_in case) (lines_in case)

-- ---- what tells it

-- Told lines tell the lines of a case, from the state before them with their shelves.
pub record IsToldOf (case : Case) (told : ToldValue) : Type 0 where
  pub seen : List SeenLine
  pub is_seen : map seen_value seen ≡ seen_in case
  pub first : told.first ≡ with_shelves 1 seen (state_in case) (state_in case)
  pub are_told : AreTold seen told.lines told.first

-- the lines of a case can't be told, for this reason
pub record IsUntellable (case : Case) (fault : TellFault) : Type 0 where
  pub seen : List SeenLine
  pub is_seen : map seen_value seen ≡ seen_in case
  pub is_fault : IsTellFault (with_shelves 1 seen (state_in case) (state_in case)) seen fault

-- there are more sessions than 32 bits can number
abbrev pub HasManySessions : Case → Type 0
HasManySessions case =
    2 ^ 32 ≤ length (sessions_in case)
    ⊎ Any (λ line. 2 ^ 32 ≤ session_number line.owner) (lines_in case)

-- why the lines of a case aren't told
abbrev pub IsUntold : Case → RecordingFault → Type 0
IsUntold case faults.NoMem = ⊤
IsUntold case (faults.Case fault) = ⊥
IsUntold case (faults.Contradiction at) =
    contradiction (steps_of (records_of (observations case.lines.said))) ≡ Some at
IsUntold case faults.TooManySessions = HasManySessions case
IsUntold case faults.LawlessState = IsUntellable case tells.LawlessState
IsUntold case (faults.Line place fault) = IsUntellable case (tells.Line place fault)
IsUntold case faults.TooManyLines = IsUntellable case tells.TooManyLines
