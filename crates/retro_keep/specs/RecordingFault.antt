-- Why a lawful state and lines don't make a recording.
use Rattle.std.specs.Prelude.{◌≡◌, ℕ, Bool, true, false, ◌&&◌, List, map, ⊤}
use Rattle.retro_tree.specs.declared.state.State.{State}
use Rattle.retro_keep.specs.Recording.{AllLinesAllowed, none_below, number_in, sid_in}
use Rattle.retro_keep.specs.Script.{have_sessions, rises_from}
use Rattle.retro_keep.specs.declared.noted.Noted.{Noted}
use Rattle.retro_keep.specs.declared.recording_fault.RecordingFault.{RecordingFault}
use Rattle.retro_keep.specs.declared.recording_fault.RecordingFault.TheVariants.{NumbersNotRising, UnknownSession}
use Rattle.retro_keep.specs.declared.recording_fault.RecordingFault.TheVariants.{LawlessChange, NoMem}
use Rattle.retro_keep.specs.declared.script.LinesFault.{LinesFault}
use Rattle.retro_keep.specs.declared.script.LinesFault.TheVariants as lines_faults

abbrev pub recording_fault : LinesFault → RecordingFault
recording_fault lines_faults.NumbersNotRising = NumbersNotRising
recording_fault lines_faults.UnknownSession = UnknownSession

-- whether line numbers rise, and none is below the number at which a recording begins
abbrev pub numbers_rise : ℕ → List (ℕ × Noted) → Bool
numbers_rise from lines = rises_from 0 (map number_in lines) && none_below from lines

-- whether each line's session exists
abbrev pub sessions_exist : State → List (ℕ × Noted) → Bool
sessions_exist first lines = have_sessions first (map sid_in lines)

-- What each fault says of the lines: the numbers don't rise, or one is below the beginning; or the
-- numbers fit, and a session doesn't exist; or the sessions exist too, and a change isn't lawful.
-- Memory may run out for any lines.
abbrev pub IsFaultOf : State → ℕ → List (ℕ × Noted) → RecordingFault → Type 0
IsFaultOf first from lines NumbersNotRising = numbers_rise from lines ≡ false
IsFaultOf first from lines UnknownSession =
    (numbers_rise from lines ≡ true) × (sessions_exist first lines ≡ false)
IsFaultOf first from lines LawlessChange =
    (numbers_rise from lines ≡ true) × (sessions_exist first lines ≡ true)
    × (AllLinesAllowed lines first → false ≡ true)
IsFaultOf first from lines NoMem = ⊤
